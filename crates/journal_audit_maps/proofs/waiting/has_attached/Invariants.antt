use Rattle.std.proofs.Common.{◌≡◌, drop}
use Rattle.std.specs.List.{list_any}
use Rattle.iofd_words.specs.Attachments.{is_attached_to}
use Rattle.journal_audit_maps.proofs.waiting.has_attached.Given as goal

abbrev pub invariant-loop-attachment : goal.invariant-loop-attachment
invariant-loop-attachment l =
    list_any (is_attached_to l.objects l.file l.ioas) (drop l.attachment-index l.attachments)
    ≡ list_any (is_attached_to l.objects l.file l.ioas) l.attachments
