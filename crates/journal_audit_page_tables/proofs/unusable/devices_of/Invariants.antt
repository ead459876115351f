use Rattle.std.proofs.Common.{◌≡◌, ◌++◌, drop, filter, map}
use Rattle.iofd_words.specs.Attachments.{is_attached_to}
use Rattle.journal_audit_page_tables.proofs.unusable.devices_of.Given as goal

abbrev pub invariant-loop-attachment : goal.invariant-loop-attachment
invariant-loop-attachment g l =
    l.devices.items ++ map (λ a. a.device)
    (filter (is_attached_to l.objects l.file l.ioas) (drop l.attachment-index l.attachments))
    ≡ map (λ a. a.device) (filter (is_attached_to l.objects l.file l.ioas) l.attachments)
