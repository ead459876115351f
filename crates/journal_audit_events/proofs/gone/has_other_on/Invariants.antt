use Rattle.std.proofs.Common.{◌≡◌, ◌==◌, ◌&&◌, not, drop}
use Rattle.std.specs.List.{list_any}
use Rattle.iofd_words.specs.Attachments.{has_device_on, without_attachment}
use Rattle.journal_audit_events.proofs.gone.has_other_on.Given as goal

abbrev pub invariant-loop-attachment : goal.invariant-loop-attachment
invariant-loop-attachment l =
    list_any (λ a. not (a.device.0 == l.device.0) && (a.file.0 == l.file.0 && a.hwpt.0 == l.hwpt.0))
    (drop l.attachment-index l.attachments)
    ≡ has_device_on (without_attachment l.device l.attachments) l.file l.hwpt
