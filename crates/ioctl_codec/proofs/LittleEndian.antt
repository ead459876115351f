-- Numbers as bytes and back, at the types of fields.
use Rattle.std.proofs.Common.{◌≡◌, ℕ, ◌+◌, ◌*◌, ◌^◌, ◌<◌, List, length, get_or, take, drop, refl, arith}
use Rattle.std.specs.Int.{byte_len, from_le_bytes, to_le_bytes}
use Rattle.std.proofs.lemmas.Bool.{cases_lt}
use Rattle.std.proofs.lemmas.List.{get_or-drop, get_or-take, get_or_past, length-take}
use Rattle.std.proofs.lemmas.Nat.{le_bytes_4, le_bytes_8, from_le_bytes-to_le_bytes_4, from_le_bytes-to_le_bytes_8}
use Rattle.std.proofs.Common.{inl, inr}
use Rattle.ioctl_codec.specs.Layout.{FieldType, U32, U64, width_of}

abbrev pub IsBytes : List ℕ → Type 0
IsBytes bytes = (i : ℕ) → get_or bytes i 0 < 256

pub IsBytes-drop : (n : ℕ) (bytes : List ℕ) → IsBytes bytes → IsBytes (drop n bytes)
IsBytes-drop n bytes h i = rw get_or-drop (h (n + i))

pub IsBytes-take : (n : ℕ) (bytes : List ℕ) → IsBytes bytes → IsBytes (take n bytes)
IsBytes-take n bytes h i =
    elim (cases_lt i n) [
      | inl lt ↦ rw (get_or-take n bytes i 0 lt) (h i)
      | inr le ↦ rw (get_or_past (take n bytes) i 0 (omega (arith, length-take n bytes))) (omega arith)
    ]

pub length-to_le_bytes : (t : FieldType) (n : ℕ) → length (to_le_bytes (width_of t) n) ≡ byte_len (width_of t)
length-to_le_bytes U32 n = refl
length-to_le_bytes U64 n = refl

pub to_le_bytes-from_le_bytes : (t : FieldType) (bytes : List ℕ) → length bytes ≡ byte_len (width_of t) → IsBytes bytes
    → to_le_bytes (width_of t) (from_le_bytes (width_of t) bytes) ≡ bytes
to_le_bytes-from_le_bytes U32 bytes len fits = le_bytes_4 bytes _ len fits refl
to_le_bytes-from_le_bytes U64 bytes len fits = le_bytes_8 bytes _ len fits refl

pub from_le_bytes-to_le_bytes : (t : FieldType) (n : ℕ) → n < 2 ^ (8 * byte_len (width_of t))
    → from_le_bytes (width_of t) (to_le_bytes (width_of t) n) ≡ n
from_le_bytes-to_le_bytes U32 n lt = from_le_bytes-to_le_bytes_4 n lt
from_le_bytes-to_le_bytes U64 n lt = from_le_bytes-to_le_bytes_8 n lt

pub from_le_bytes_below : (t : FieldType) (bytes : List ℕ) → IsBytes bytes
    → from_le_bytes (width_of t) bytes < 2 ^ (8 * byte_len (width_of t))
from_le_bytes_below U32 bytes fits = omega (arith, fits 0, fits 1, fits 2, fits 3)
from_le_bytes_below U64 bytes fits = omega (arith, fits 0, fits 1, fits 2, fits 3, fits 4, fits 5, fits 6, fits 7)
