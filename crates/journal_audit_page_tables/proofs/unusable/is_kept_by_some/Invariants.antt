use Rattle.std.proofs.Common.{◌≡◌, drop}
use Rattle.std.specs.List.{list_any}
use Rattle.iofd_words.specs.Files.{device_of}
use Rattle.iofd_words.specs.Ranges.{meets_some}
use Rattle.iofd_words.specs.Usable.{reserved_of}
use Rattle.journal_audit_page_tables.proofs.unusable.is_kept_by_some.Given as goal

abbrev pub invariant-loop-device : goal.invariant-loop-device
invariant-loop-device g l =
    list_any (λ device. meets_some (reserved_of (device_of l.config device)) l.range)
    (drop l.device-index l.devices)
    ≡ list_any (λ device. meets_some (reserved_of (device_of l.config device)) l.range) l.devices
