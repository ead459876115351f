-- Map flags (uapi header, `enum iommufd_ioas_map_flags`) and the rights of a page (VT-d, "Second-Stage
-- Paging Entries").
use Rattle.std.specs.Prelude.{ℕ, ◌+◌, Bool, ◌==◌, if◌then◌else◌}
use Rattle.std.specs.Int.RustNames.{bit_and}
use Rattle.iofd_words.specs.declared.flags.MapFlags.{MapFlags}
use Rattle.iofd_words.specs.declared.flags.Rights.{Rights}
use Rattle.iofd_words.specs.declared.fault.AccessKind.{AccessKind}
use Rattle.iofd_words.specs.declared.fault.AccessKind.TheVariants.{Read, Write}

-- all bits of the flag are set
abbrev pub has_flag : ℕ → ℕ → Bool
has_flag bits flag = bit_and bits flag == flag

abbrev pub is_fixed : MapFlags → Bool
is_fixed flags = has_flag flags.0 1

abbrev pub is_writeable : MapFlags → Bool
is_writeable flags = has_flag flags.0 2

abbrev pub is_readable : MapFlags → Bool
is_readable flags = has_flag flags.0 4

-- bit 0 lets a device read, bit 1 lets it write
abbrev pub rights_of : MapFlags → Rights
rights_of flags = record { 0 = (if is_readable flags then 1 else 0) + (if is_writeable flags then 2 else 0) }

abbrev pub has_right : Rights → AccessKind → Bool
has_right rights Read = has_flag rights.0 1
has_right rights Write = has_flag rights.0 2
