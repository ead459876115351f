use Rattle.std.proofs.Common.{◌≡◌, drop}
use Rattle.std.specs.List.{list_any}
use Rattle.iofd_rows.specs.Reached.{keeps_of}
use Rattle.journal_audit_events.proofs.usable.are_kept.Given as goal

abbrev pub invariant-loop-attachment : goal.invariant-loop-attachment
invariant-loop-attachment g l =
    list_any (λ a. list_any (λ range. keeps_of l.config l.objects l.file l.ioas range a) l.ranges)
    (drop l.attachment-index l.attachments)
    ≡ list_any (λ a. list_any (λ range. keeps_of l.config l.objects l.file l.ioas range a) l.ranges) l.attachments
