-- The width that is set for a device is that of its settings.
use Rattle.std.proofs.Common.{◌≡◌, Option, Some, None, refl}
use Rattle.iofd_words.specs.Settings.{DeviceSettings}
use Rattle.iofd_words.specs.declared.width.Width.{Width}
use Rattle.journal_audit_page_tables.specs.Widths.{width_set}

pub set_for : (o : Option DeviceSettings) (width : Width) → width_set o ≡ Some width
    → (d : DeviceSettings) × (o ≡ Some d) × (d.width ≡ width)
set_for None width is = cc
set_for (Some d) width is = let same : d.width ≡ width = cc in (d, refl, same)
