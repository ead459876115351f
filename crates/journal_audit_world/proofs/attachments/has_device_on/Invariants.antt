use Rattle.std.proofs.Common.{◌≡◌, ◌==◌, ◌&&◌, drop}
use Rattle.std.specs.List.{list_any}
use Rattle.journal_audit_world.proofs.attachments.has_device_on.Given as goal

abbrev pub invariant-loop-attachment : goal.invariant-loop-attachment
invariant-loop-attachment l =
    list_any (λ a. a.file.0 == l.file.0 && a.hwpt.0 == l.hwpt.0) (drop l.attachment-index l.attachments)
    ≡ list_any (λ a. a.file.0 == l.file.0 && a.hwpt.0 == l.hwpt.0) l.attachments
