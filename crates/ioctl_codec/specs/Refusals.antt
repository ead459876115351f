-- The refusals of bytes that spell no command, in their order.
use Rattle.std.specs.Prelude.{◌≡◌, ℕ, ◌*◌, ◌<◌, ◌==◌, Bool, not, ◌||◌, nat_lt, List, []}
use Rattle.std.specs.Prelude.{◌∷◌, ◌++◌, length, take, drop}
use Rattle.std.specs.Prelude.{Option, Some, None, Result, Ok, Err}
use Rattle.std.specs.List.{list_all}
use Rattle.std.specs.Int.{w32, from_le_bytes}
use Rattle.iofd_words.specs.FirstTrue.{first_true}
use Rattle.iofd_words.specs.declared.refusal.Cause.{Cause}
use Rattle.iofd_words.specs.declared.refusal.Cause.TheVariants as cause
use Rattle.iofd_words.specs.declared.refusal.Refusal.{Refusal}
use Rattle.ioctl_codec.specs.Layout.{Structure, length_of, are_allowed, carried, numbers_at, entry_count}
use Rattle.ioctl_codec.specs.Spelling.{Spells}
use Rattle.ioctl_codec.specs.Structures.{structure_at, entries_of}
use Rattle.ioctl_codec.specs.declared.command.Command.{Command}
use Rattle.iofd_words.specs.declared.call_error.CallError.{CallError}
use Rattle.iofd_words.specs.declared.call_error.CallError.TheVariants as errors

-- the size that the bytes begin with
abbrev pub size_at : List ℕ → ℕ
size_at bytes = from_le_bytes w32 (take 4 bytes)

-- what is known of the sizes, for a structure of this length
unfoldable pub size_checks : ℕ → List ℕ → List (Cause × Bool)
size_checks known bytes =
    (cause.Short, nat_lt (length bytes) 4 || nat_lt (size_at bytes) known)
    ∷ (cause.Tail, nat_lt 4096 (size_at bytes))
    ∷ (cause.Short, nat_lt (length bytes) (size_at bytes))
    ∷ (cause.Tail, not (list_all (λ byte. byte == 0) (drop known (take (size_at bytes) bytes))))
    ∷ []

-- then the flags and the reserved fields, and then the bytes after the size: 16 for each entry
unfoldable pub field_checks : Bool → ℕ → List ℕ → List (Cause × Bool)
field_checks supported count after =
    (cause.Unsupported, not supported)
    ∷ (cause.Array, not (length after == 16 * count))
    ∷ []

-- the numbers in the structure's fields
unfoldable pub read_numbers : Structure → List ℕ → List ℕ
read_numbers s bytes = numbers_at s.fields (drop 4 bytes)

-- the values that a structure's bytes carry
abbrev pub read_values : Structure → List ℕ → List ℕ
read_values s bytes = carried s.fields (read_numbers s bytes)

-- how many entries they say there are
abbrev pub read_count : Structure → List ℕ → ℕ
read_count s bytes = entry_count s.fields (read_values s bytes)

-- the bytes after the size's end
abbrev pub after_size : List ℕ → List ℕ
after_size bytes = drop (size_at bytes) bytes

-- why the bytes aren't such a structure with its entries, if they aren't
unfoldable pub refusal_of : Structure → List ℕ → Option Cause
refusal_of s bytes = first_true (size_checks (length_of s) bytes
    ++ field_checks (are_allowed s.fields (read_numbers s bytes)) (read_count s bytes) (after_size bytes))

-- the number comes first
abbrev pub refusal : ℕ → List ℕ → Option Cause
refusal nr bytes = elim (structure_at nr) [ None ↦ Some cause.Number | Some s ↦ refusal_of s bytes ]

-- the cause for which it was refused, if it was
abbrev pub cause_of : {T : Type 0} → Result T Refusal → Option Cause
cause_of (Ok x) = None
cause_of (Err r) = Some r.cause

-- the cause for which it was refused, if it was; memory may be wanting, too
abbrev pub refused_of : {T : Type 0} → Result T CallError → Option Cause
refused_of (Ok x) = None
refused_of (Err (errors.Refused r)) = Some r.cause
refused_of (Err (errors.Memory no_memory)) = None

-- where memory was wanting
abbrev pub OnMemory : {T : Type 0} → Result T CallError → Type 0 → Type 0
OnMemory (Ok x) P = Unit {0}
OnMemory (Err (errors.Refused r)) P = Unit {0}
OnMemory (Err (errors.Memory no_memory)) P = P

-- the result is this command, unless memory was wanting for its entries
abbrev pub Gives : {A : Type 0} → Result (Command A) CallError → Command A → Type 0
Gives (Ok found) c = found ≡ c
Gives (Err (errors.Refused r)) c = ⊥
Gives (Err (errors.Memory no_memory)) c = 0 < length (entries_of c)

-- the bytes, given with this number, are a command that has entries
abbrev pub SpellsEntries : {A : Type 0} → ℕ → List ℕ → Command A → Type 0
SpellsEntries nr bytes c = Spells nr bytes c × (0 < length (entries_of c))
