-- The table of structures in code, in the words of the layout, and the numbers of fields in an array.
use Rattle.std.specs.Prelude.{ℕ, ◌+◌, ◌^◌, ◌%◌, Bool, false, ◌||◌, List, [], ◌∷◌, slice_index}
use Rattle.ioctl_codec.specs.Layout.{Role, Flags, Argument, Answered, Count, Output, Ignored, Reserved, FieldType, U32}
use Rattle.ioctl_codec.specs.Layout.{U64, Field, Structure, u32, u64, is_count}
use Rattle.ioctl_codec.specs.declared.structure.Role as roles
use Rattle.ioctl_codec.specs.declared.structure.Role.TheVariants as role
use Rattle.ioctl_codec.specs.declared.structure.Field as fields
use Rattle.ioctl_codec.specs.declared.structure.Field.TheVariants as field
use Rattle.ioctl_codec.specs.declared.structure.Structure as rows

abbrev pub role_in : roles.Role → Role
role_in (role.Flags known) = Flags known
role_in role.Argument = Argument
role_in role.Answered = Answered
role_in role.Count = Count
role_in role.Output = Output
role_in role.Ignored = Ignored
role_in role.Reserved = Reserved

abbrev pub field_in : fields.Field → Field
field_in (field.U32 r) = u32 (role_in r)
field_in (field.U64 r) = u64 (role_in r)

abbrev pub fields_in : List fields.Field → List Field
fields_in [] = []
fields_in (f ∷ fs) = field_in f ∷ fields_in fs

abbrev pub structure_in : rows.Structure → Structure
structure_in s = record { number = s.number; fields = fields_in s.fields.now }

-- whether a field counts entries
abbrev pub has_count : List Field → Bool
has_count [] = false
has_count (f ∷ fs) = is_count f.role || has_count fs

-- a number as far as the field's width
abbrev pub cut : FieldType → ℕ → ℕ
cut U32 n = n % 2 ^ 32
cut U64 n = n

-- the numbers that an array has for these fields, from this place on, each cut to its field's width
abbrev pub placed : ℕ → List Field → List ℕ → List ℕ
placed i [] array = []
placed i (f ∷ fs) array = cut f.type (slice_index array i) ∷ placed (i + 1) fs array
