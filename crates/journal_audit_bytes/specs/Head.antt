-- The bytes of a journal's head: the mark of its version; the size of the pool; the limits of the users; the users of
-- the files; the devices; how many passes there are. All numbers are little-endian, and each list stands behind its
-- number.
use Rattle.std.specs.Prelude.{◌≡◌, ℕ, ◌^◌, ◌<◌, ◌≤◌, Bool, Some, None, List, [], ◌∷◌, ◌++◌, length}
use Rattle.std.specs.Prelude.{if◌then◌else◌}
use Rattle.std.specs.Int.{w8, w16, w32, w64, to_le_bytes}
use Rattle.std.specs.List.{AllByRecursion}
use Rattle.iofd_words.specs.Bounds.{Bounds}
use Rattle.iofd_words.specs.Limits.{first_outside}
use Rattle.iofd_words.specs.Settings.{DeviceSettings, Settings}
use Rattle.iofd_words.specs.Width.{bits_of}
use Rattle.iofd_words.specs.declared.numbers.UserNo.{UserNo}
use Rattle.journal_audit_bytes.specs.Version.{mark, width_of}
use Rattle.journal_audit_bytes.specs.declared.version.Version.{Version}

-- ---- lists

-- the bytes of each, one behind the other
abbrev pub all_spelled : {X : Type 0} → (X → List ℕ) → List X → List ℕ
all_spelled text [] = []
all_spelled text (x ∷ xs) = text x ++ all_spelled text xs

-- a list behind its number
abbrev pub counted : {X : Type 0} → (X → List ℕ) → List X → List ℕ
counted text xs = to_le_bytes w16 (length xs) ++ all_spelled text xs

-- its number fits 16 bits, and each of it fits
abbrev pub CountedFit : {X : Type 0} → (X → Type 0) → List X → Type 0
CountedFit Fits xs = (length xs < 2 ^ 16) × AllByRecursion Fits xs

-- ---- users and files

-- how many pages a user may have pinned
abbrev pub limit_spelled : ℕ → List ℕ
limit_spelled limit = to_le_bytes w64 limit

abbrev pub LimitFits : ℕ → Type 0
LimitFits limit = limit < 2 ^ 64

-- the user of a file
abbrev pub user_spelled : UserNo → List ℕ
user_spelled user = to_le_bytes w16 user.0

abbrev pub UserFits : UserNo → Type 0
UserFits user = user.0 < 2 ^ 16

-- ---- devices

-- a reserved span, by its first and last address
abbrev pub span_spelled : Bounds → List ℕ
span_spelled span = to_le_bytes w64 span.first ++ to_le_bytes w64 span.last

pub record SpanFits (span : Bounds) : Type 0 where
  pub ordered : span.first ≤ span.last
  pub first : span.first < 2 ^ 64
  pub last : span.last < 2 ^ 64

-- 1 for an x86 device, 0 for another
abbrev pub x86_number : Bool → ℕ
x86_number x86 = if x86 then 1 else 0

-- its source id, how many bits its addresses have, its x86 mark, its reserved spans
abbrev pub device_spelled : DeviceSettings → List ℕ
device_spelled device =
    to_le_bytes w16 device.source.0
    ++ (to_le_bytes w8 (bits_of device.width)
    ++ (to_le_bytes w8 (x86_number device.x86) ++ counted span_spelled device.reserved))

pub record DeviceFits (version : Version) (device : DeviceSettings) : Type 0 where
  pub source : device.source.0 < 2 ^ 16
  pub width : width_of version (bits_of device.width) ≡ Some device.width
  pub reserved : CountedFit SpanFits device.reserved

-- ---- the head

-- what stands behind the mark
abbrev pub settings_spelled : Settings → List ℕ
settings_spelled s =
    to_le_bytes w32 s.pool
    ++ (counted limit_spelled s.users
    ++ (counted user_spelled s.files
    ++ (counted device_spelled s.devices ++ to_le_bytes w16 s.passes)))

abbrev pub head_spelled : Version → Settings → List ℕ
head_spelled version s = mark version ++ settings_spelled s

-- these bytes are the head of a journal of this version with these settings, which are within the limits of a
-- configuration
pub record SpellsHead (version : Version) (s : Settings) (bytes : List ℕ) : Type 0 where
  pub within : first_outside s ≡ None
  pub pool_fits : s.pool < 2 ^ 32
  pub users_fit : CountedFit LimitFits s.users
  pub files_fit : CountedFit UserFits s.files
  pub devices_fit : CountedFit (λ device. DeviceFits version device) s.devices
  pub passes_fit : s.passes < 2 ^ 16
  pub bytes_are : bytes ≡ head_spelled version s

-- ---- where memory is asked for

-- the bytes begin with a mark, the size of the pool and the limits of the users, which are the first list
pub record BeginWithUsers (bytes : List ℕ) : Type 0 where
  pub version : Version
  pub pool : ℕ
  pub pool_fits : pool < 2 ^ 32
  pub users : List ℕ
  pub users_fit : CountedFit LimitFits users
  pub rest : List ℕ
  pub bytes_are : bytes ≡ mark version ++ (to_le_bytes w32 pool ++ (counted limit_spelled users ++ rest))
