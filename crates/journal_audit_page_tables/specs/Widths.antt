-- The width that is set for a device.
use Rattle.std.specs.Prelude.{Option, Some, None}
use Rattle.iofd_words.specs.Settings.{DeviceSettings}
use Rattle.iofd_words.specs.declared.width.Width.{Width}

abbrev pub width_set : Option DeviceSettings → Option Width
width_set None = None
width_set (Some device) = Some device.width
