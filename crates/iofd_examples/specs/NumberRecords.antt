-- Numbers: those of refusals and their errnos, of fault reasons, and the limits of what a server is opened with.
use Rattle.std.specs.Prelude.{◌≡◌, ℕ, false, Option, Some, None, List, [], ◌∷◌, map, replicate}
use Rattle.iofd_examples.specs.Words.{from_to, user}
use Rattle.iofd_words.specs.Bounds.{Bounds}
use Rattle.iofd_words.specs.Fault.{denied_by, reason_number}
use Rattle.iofd_words.specs.Limits.{first_outside}
use Rattle.iofd_words.specs.Refusal.{errno_number, errno_of, number_of}
use Rattle.iofd_words.specs.Settings.{DeviceSettings, Settings}
use Rattle.iofd_words.specs.declared.config.ConfigError.{ConfigError}
use Rattle.iofd_words.specs.declared.config.ConfigError.TheVariants as field
use Rattle.iofd_words.specs.declared.fault.AccessKind.TheVariants.{Read, Write}
use Rattle.iofd_words.specs.declared.fault.FaultReason.{FaultReason}
use Rattle.iofd_words.specs.declared.fault.FaultReason.TheVariants.{BeyondWidth, NoContext, ReadDenied, WriteDenied}
use Rattle.iofd_words.specs.declared.refusal.Cause.{Cause}
use Rattle.iofd_words.specs.declared.refusal.Cause.TheVariants as cause
use Rattle.iofd_words.specs.declared.refusal.Errno.{Errno}
use Rattle.iofd_words.specs.declared.refusal.Errno.TheVariants.{EAGAIN, EDEADLOCK}
use Rattle.iofd_words.specs.declared.width.Width.TheVariants.{Bits48}

-- a refusal's cause, its number, and Linux's number of its errno
abbrev pub refusals : List (Cause × ℕ × ℕ)
refusals =
    (cause.Number, 1, 25)
    ∷ (cause.Short, 2, 22)
    ∷ (cause.Tail, 3, 7)
    ∷ (cause.Unsupported, 4, 95)
    ∷ (cause.Array, 5, 22)
    ∷ (cause.Frames, 6, 12)
    ∷ (cause.Account, 7, 12)
    ∷ (cause.Absent, 8, 14)
    ∷ (cause.Overlap, 9, 17)
    ∷ (cause.Span, 10, 2)
    ∷ (cause.Id, 11, 2)
    ∷ (cause.InUse, 12, 16)
    ∷ (cause.Bound, 13, 16)
    ∷ (cause.Width, 14, 22)
    ∷ (cause.Narrow, 15, 98)
    ∷ (cause.Rights, 16, 1)
    ∷ (cause.Leaving, 17, 22)
    ∷ (cause.NotHeld, 18, 22)
    ∷ (cause.Sum, 19, 75)
    ∷ (cause.Align, 20, 22)
    ∷ (cause.NoRight, 21, 22)
    ∷ (cause.Reserved, 22, 22)
    ∷ (cause.Full, 23, 28)
    ∷ (cause.List, 24, 22)
    ∷ (cause.Places, 25, 90)
    ∷ (cause.Cross, 26, 22)
    ∷ (cause.InterruptRange, 27, 22)
    ∷ (cause.Unattached, 28, 2)
    ∷ (cause.Pending, 29, 16)
    ∷ []

abbrev pub AreNumbered : List (Cause × ℕ × ℕ) → Type 0
AreNumbered rows =
    (map (λ row. number_of row.0) rows ≡ map (λ row. row.1) rows)
    × (map (λ row. errno_number (errno_of row.0)) rows ≡ map (λ row. row.2) rows)

-- of an UNMAP that waits
abbrev pub errnos : List (Errno × ℕ)
errnos = (EAGAIN, 11) ∷ (EDEADLOCK, 35) ∷ []

abbrev pub AreErrnos : List (Errno × ℕ) → Type 0
AreErrnos rows = map (λ row. errno_number row.0) rows ≡ map (λ row. row.1) rows

-- VT-d's numbers of fault reasons
abbrev pub reasons : List (FaultReason × ℕ)
reasons =
    (NoContext, 2) ∷ (BeyondWidth, 4) ∷ (WriteDenied, 5) ∷ (ReadDenied, 6) ∷ (denied_by Write, 5)
    ∷ (denied_by Read, 6)
    ∷ []

abbrev pub AreReasons : List (FaultReason × ℕ) → Type 0
AreReasons rows = map (λ row. reason_number row.0) rows ≡ map (λ row. row.1) rows

-- ---- limits

abbrev device_with : List Bounds → DeviceSettings
device_with reserved = record { source = record { 0 = 8 }; width = Bits48; x86 = false; reserved = reserved }

-- one user with one file
abbrev of_pool : ℕ → Settings
of_pool pool = record { pool = pool; users = 0 ∷ []; files = user 1 ∷ []; devices = []; passes = 1 }

abbrev of_users : ℕ → Settings
of_users count = record (of_pool 1) { users = replicate count 0 }

abbrev of_files : ℕ → ℕ → Settings
of_files count owner = record (of_pool 1) { files = replicate count (user owner) }

abbrev of_devices : ℕ → List Bounds → Settings
of_devices count reserved = record (of_pool 1) { devices = replicate count (device_with reserved) }

abbrev of_passes : ℕ → Settings
of_passes passes = record (of_pool 1) { passes = passes }

-- settings, and the first field that is outside its limits
abbrev pub openings : List (Settings × Option ConfigError)
openings =
    (of_pool 1, None)
    ∷ (of_pool 0, Some field.Pool)
    ∷ (of_pool 4096, None)
    ∷ (of_pool 4097, Some field.Pool)
    ∷ (of_users 255, None)
    ∷ (of_users 256, Some field.Users)
    ∷ (of_users 0, Some field.Users)
    ∷ (record (of_pool 0) { users = [] }, Some field.Pool)
    -- a file's user is there
    ∷ (of_files 0 1, Some field.Files)
    ∷ (of_files 1024 1, None)
    ∷ (of_files 1025 1, Some field.Files)
    ∷ (of_files 1 0, Some field.Files)
    ∷ (of_files 1 2, Some field.Files)
    ∷ (record (of_files 0 1) { users = [] }, Some field.Users)
    -- a reserved span is of whole pages, and each device has at most 16
    ∷ (of_devices 0 [], None)
    ∷ (of_devices 256 [], None)
    ∷ (of_devices 257 [], Some field.Devices)
    ∷ (of_devices 1 (replicate 16 (from_to 0x1000 0x1fff)), None)
    ∷ (of_devices 1 (replicate 17 (from_to 0x1000 0x1fff)), Some field.Devices)
    ∷ (of_devices 1 (from_to 0x1001 0x1fff ∷ []), Some field.Devices)
    ∷ (of_devices 1 (from_to 0x1000 0x1ffe ∷ []), Some field.Devices)
    ∷ (of_devices 1 (from_to 0x1000 0xfff ∷ []), Some field.Devices)
    ∷ (record (of_devices 257 []) { files = [] }, Some field.Files)
    ∷ (of_passes 0, Some field.Passes)
    ∷ (of_passes 1024, None)
    ∷ (of_passes 1025, Some field.Passes)
    ∷ (record (of_devices 257 []) { passes = 0 }, Some field.Devices)
    ∷ []

abbrev pub AreOpened : List (Settings × Option ConfigError) → Type 0
AreOpened rows = map (λ row. first_outside row.0) rows ≡ map (λ row. row.1) rows
