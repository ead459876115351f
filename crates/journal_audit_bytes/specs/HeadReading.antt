-- Reading a head from the front of bytes, as a function.
use Rattle.std.specs.Prelude.{◌≡◌, ℕ, zero, suc, ◌+◌, ◌*◌, ◌<◌, ◌≤◌, nat_le, Bool, true, false, ◌==◌, Option, Some, None}
use Rattle.std.specs.Prelude.{List, [], ◌∷◌, length}
use Rattle.std.specs.Prelude.{take, drop, if◌then◌else◌, is_none}
use Rattle.std.specs.Int.{w8, w16, w32, w64}
use Rattle.std.specs.Str.{bytes_eq}
use Rattle.iofd_words.specs.Bounds.{Bounds}
use Rattle.iofd_words.specs.Limits.{first_outside}
use Rattle.iofd_words.specs.Settings.{DeviceSettings, Settings}
use Rattle.iofd_words.specs.declared.numbers.UserNo.{UserNo}
use Rattle.iofd_words.specs.declared.width.Width.{Width}
use Rattle.journal_audit_bytes.specs.Reading.{◌>>=◌, number_at, some_if}
use Rattle.journal_audit_bytes.specs.Version.{mark, width_of}
use Rattle.journal_audit_bytes.specs.declared.version.Version.{Version}
use Rattle.journal_audit_bytes.specs.declared.version.Version.TheVariants.{One, Two}

-- what is read so takes some bytes, and never fewer
pub record TakesLeast {X : Type 0} (one : List ℕ → Option (X × List ℕ)) (least : ℕ) : Type 0 where
  pub some : 0 < least
  pub takes : (bytes : List ℕ) (x : X × List ℕ) → one bytes ≡ Some x → length x.1 + least ≤ length bytes

-- so many of them, each by this reading
abbrev pub many_at : {X : Type 0} → (List ℕ → Option (X × List ℕ)) → ℕ → List ℕ → Option (List X × List ℕ)
many_at one zero bytes = Some ([], bytes)
many_at one (suc n) bytes = do
  x ← one bytes
  xs ← many_at one n x.1
  Some (x.0 ∷ xs.0, xs.1)

-- as many as the number before them says
unfoldable pub counted_at : {X : Type 0} → (List ℕ → Option (X × List ℕ)) → List ℕ → Option (List X × List ℕ)
counted_at one bytes = do
  n ← number_at w16 bytes
  many_at one n.0 n.1

-- the number of a list stands at the front, and behind it as many bytes as so many elements have at least
abbrev pub HasBytesFor : ℕ → List ℕ → Type 0
HasBytesFor least bytes = (n : ℕ × List ℕ) × (number_at w16 bytes ≡ Some n) × (n.0 * least ≤ length n.1)

unfoldable pub limit_at : List ℕ → Option (ℕ × List ℕ)
limit_at bytes = number_at w64 bytes

unfoldable pub user_at : List ℕ → Option (UserNo × List ℕ)
user_at bytes = do
  user ← number_at w16 bytes
  Some (record { 0 = user.0 }, user.1)

unfoldable pub span_at : List ℕ → Option (Bounds × List ℕ)
span_at bytes = do
  first ← number_at w64 bytes
  last ← number_at w64 first.1
  some_if (nat_le first.0 last.0) (record { first = first.0; last = last.0 }, last.1)

unfoldable pub width_at : Version → List ℕ → Option (Width × List ℕ)
width_at version bytes = do
  bits ← number_at w8 bytes
  width ← width_of version bits.0
  Some (width, bits.1)

abbrev pub x86_of : ℕ → Option Bool
x86_of number = if number == 0 then Some false else some_if (number == 1) true

unfoldable pub x86_at : List ℕ → Option (Bool × List ℕ)
x86_at bytes = do
  number ← number_at w8 bytes
  x86 ← x86_of number.0
  Some (x86, number.1)

unfoldable pub device_at : Version → List ℕ → Option (DeviceSettings × List ℕ)
device_at version bytes = do
  source ← number_at w16 bytes
  width ← width_at version source.1
  x86 ← x86_at width.1
  reserved ← counted_at span_at x86.1
  Some (record { source = record { 0 = source.0 }; width = width.0; x86 = x86.0; reserved = reserved.0 }, reserved.1)

-- the bytes begin with this version's mark
abbrev pub is_marked : Version → List ℕ → Bool
is_marked version bytes = bytes_eq (take (length (mark version)) bytes) (mark version)

abbrev pub behind_mark : Version → List ℕ → List ℕ
behind_mark version bytes = drop (length (mark version)) bytes

-- the version whose mark stands at the front, and the bytes behind it
unfoldable pub version_at : List ℕ → Option (Version × List ℕ)
version_at bytes =
    if is_marked One bytes then Some (One, behind_mark One bytes)
    else some_if (is_marked Two bytes) (Two, behind_mark Two bytes)

-- the settings, if they are within the limits
unfoldable pub settings_if : Version → Settings → List ℕ → Option (Version × Settings × List ℕ)
settings_if version s rest = if is_none (first_outside s) then Some (version, s, rest) else None

unfoldable pub head_at : List ℕ → Option (Version × Settings × List ℕ)
head_at bytes = do
  version ← version_at bytes
  pool ← number_at w32 version.1
  users ← counted_at limit_at pool.1
  files ← counted_at user_at users.1
  devices ← counted_at (device_at version.0) files.1
  passes ← number_at w16 devices.1
  settings_if version.0
      (record { pool = pool.0; users = users.0; files = files.0; devices = devices.0; passes = passes.0 }) passes.1
