-- What a device leaves out of an address space to which it is attached.
use Rattle.std.specs.Prelude.{Bool, ◌||◌}
use Rattle.iofd_words.specs.Bounds.{Bounds}
use Rattle.iofd_words.specs.Ranges.{meets_some}
use Rattle.iofd_words.specs.Settings.{DeviceSettings}
use Rattle.iofd_words.specs.Span.{meets}
use Rattle.iofd_words.specs.Usable.{beyond, reserved_by}

-- it doesn't translate all of the span, or keeps some of it for itself
abbrev pub is_narrowed : DeviceSettings → Bounds → Bool
is_narrowed device span = meets (beyond device.width) span || meets_some (reserved_by device) span
