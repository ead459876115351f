-- How a structure of the interface lies in memory. Every structure begins with `__u32 size`, the number of its
-- bytes as the caller knows it. Its other fields follow at once, little-endian, in their order: the offset of a
-- field is the sum of the widths before it, and is written nowhere.
use Rattle.std.specs.Prelude.{◌≡◌, ℕ, ◌+◌, ◌-◌, ◌*◌, ◌^◌, ◌<◌, ◌≤◌, Bool, true}
use Rattle.std.specs.Prelude.{false, ◌&&◌, ◌==◌, IsTrue, List, []}
use Rattle.std.specs.Prelude.{◌∷◌, ◌++◌, take, drop, replicate, slice_index}
use Rattle.std.specs.Prelude.{Option, unwrap_or, if◌then◌else◌}
use Rattle.std.specs.Int.{Width, w32, w64, byte_len, from_le_bytes, to_le_bytes}
use Rattle.std.specs.Int.RustNames.{bit_and}

-- what a field is for
pub data Role : Type 0 where
  -- flags that the command carries: no bit but the known ones
  Flags : (known : ℕ) → Role
  -- a number that the command carries
  Argument : Role
  -- the same, and what is written back has the answer in its place
  Answered : Role
  -- the same, but it's read and ignored: the command has 0 for it
  Chosen : Role
  -- how many entries follow the structure; the command carries these
  Count : Role
  -- it's read and ignored, and what is written back has the answer in it
  Output : Role
  -- it's read and ignored, and 0 is written back
  Ignored : Role
  -- it has to be 0
  Reserved : Role

-- `__u32`, or `__u64` and `__aligned_u64`
pub data FieldType : Type 0 where
  U32 U64 : FieldType

abbrev pub width_of : FieldType → Width
width_of U32 = w32
width_of U64 = w64

pub record Field : Type 0 where
  pub type : FieldType
  pub role : Role

abbrev pub width : Field → Width
width field = width_of field.type

abbrev pub u32 : Role → Field
u32 role = record { type = U32; role = role }

abbrev pub u64 : Role → Field
u64 role = record { type = U64; role = role }

-- a command's number, and the fields behind the size
pub record Structure : Type 0 where
  pub number : ℕ
  pub fields : List Field

abbrev pub bytes_of : List Field → ℕ
bytes_of [] = 0
bytes_of (field ∷ fields) = byte_len (width field) + bytes_of fields

-- the structure's own length
abbrev pub length_of : Structure → ℕ
length_of s = 4 + bytes_of s.fields

-- ---- the numbers in the fields, one for each field

-- a number that may stand in such a field
abbrev pub is_allowed : Role → ℕ → Bool
is_allowed (Flags known) n = bit_and n known == n
is_allowed Reserved n = n == 0
is_allowed Argument n = true
is_allowed Answered n = true
is_allowed Chosen n = true
is_allowed Count n = true
is_allowed Output n = true
is_allowed Ignored n = true

abbrev pub are_allowed : List Field → List ℕ → Bool
are_allowed [] [] = true
are_allowed [] (n ∷ numbers) = false
are_allowed (field ∷ fields) [] = false
are_allowed (field ∷ fields) (n ∷ numbers) = is_allowed field.role n && are_allowed fields numbers

-- one number for each field, each of its width
abbrev pub AreOfWidth : List Field → List ℕ → Type 0
AreOfWidth [] [] = Unit {0}
AreOfWidth [] (n ∷ numbers) = ⊥
AreOfWidth (field ∷ fields) [] = ⊥
AreOfWidth (field ∷ fields) (n ∷ numbers) = (n < 2 ^ (8 * byte_len (width field))) × AreOfWidth fields numbers

abbrev pub is_carried : Role → Bool
is_carried (Flags known) = true
is_carried Argument = true
is_carried Answered = true
is_carried Chosen = true
is_carried Count = true
is_carried Output = false
is_carried Ignored = false
is_carried Reserved = false

-- the value that a command carries for the number in such a field
abbrev pub value_in : Role → ℕ → ℕ
value_in (Flags known) n = n
value_in Argument n = n
value_in Answered n = n
value_in Chosen n = 0
value_in Count n = n
value_in Output n = n
value_in Ignored n = n
value_in Reserved n = n

-- those that the command carries
abbrev pub carried : List Field → List ℕ → List ℕ
carried [] numbers = []
carried (field ∷ fields) [] = []
carried (field ∷ fields) (n ∷ numbers) =
    if is_carried field.role then value_in field.role n ∷ carried fields numbers else carried fields numbers

abbrev pub is_count : Role → Bool
is_count (Flags known) = false
is_count Argument = false
is_count Answered = false
is_count Chosen = false
is_count Count = true
is_count Output = false
is_count Ignored = false
is_count Reserved = false

-- how many entries follow a structure that carries these values: what its count says, and none if it has no count
abbrev pub entry_count : List Field → List ℕ → ℕ
entry_count [] values = 0
entry_count (field ∷ fields) values = if is_count field.role then slice_index values 0
    else entry_count fields (if is_carried field.role then drop 1 values else values)

-- what stands in a field for a carried value and for an answer, if there is one
abbrev pub number_in : Role → ℕ → Option ℕ → ℕ
number_in (Flags known) value answer = value
number_in Argument value answer = value
number_in Answered value answer = unwrap_or answer value
number_in Chosen value answer = unwrap_or answer 0
number_in Count value answer = value
number_in Output value answer = unwrap_or answer 0
number_in Ignored value answer = 0
number_in Reserved value answer = 0

-- the carried values in their fields, the answer in its field, and zeros
abbrev pub filled : List Field → List ℕ → Option ℕ → List ℕ
filled [] values answer = []
filled (field ∷ fields) values answer = number_in field.role (slice_index values 0) answer
    ∷ filled fields (if is_carried field.role then drop 1 values else values) answer

-- ---- bytes

-- the numbers, each in its field's width
abbrev pub spelled : List Field → List ℕ → List ℕ
spelled [] numbers = []
spelled (field ∷ fields) [] = []
spelled (field ∷ fields) (n ∷ numbers) = to_le_bytes (width field) n ++ spelled fields numbers

-- the numbers that stand in the fields, the bytes being long enough
abbrev pub numbers_at : List Field → List ℕ → List ℕ
numbers_at [] bytes = []
numbers_at (field ∷ fields) bytes = from_le_bytes (width field) (take (byte_len (width field)) bytes)
    ∷ numbers_at fields (drop (byte_len (width field)) bytes)

-- the structure of these values, of its own length
unfoldable pub structure_bytes : Structure → List ℕ → Option ℕ → List ℕ
structure_bytes s values answer = to_le_bytes w32 (length_of s) ++ spelled s.fields (filled s.fields values answer)

-- THE LAYOUT OF A STRUCTURE: the bytes are a size, the structure's fields with these values in them, and a tail of
-- zeros up to the size. The size is at least the structure's own length, and at most 4096.
pub record IsLaidOut (s : Structure) (values bytes : List ℕ) : Type 0 where
  pub size : ℕ
  pub numbers : List ℕ
  pub least : length_of s ≤ size
  pub most : size ≤ 4096
  pub widths : AreOfWidth s.fields numbers
  pub allowed : IsTrue (are_allowed s.fields numbers)
  pub values_are : carried s.fields numbers ≡ values
  pub bytes_are : bytes ≡ to_le_bytes w32 size ++ (spelled s.fields numbers ++ replicate (size - length_of s) 0)
