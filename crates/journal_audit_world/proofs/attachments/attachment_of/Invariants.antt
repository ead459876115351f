use Rattle.std.proofs.Common.{◌≡◌, drop}
use Rattle.iofd_words.specs.Attachments.{attachment_of}
use Rattle.journal_audit_world.proofs.attachments.attachment_of.Given as goal

abbrev pub invariant-loop-attachment : goal.invariant-loop-attachment
invariant-loop-attachment l =
    attachment_of (drop l.attachment-index l.attachments) l.device
    ≡ attachment_of l.attachments l.device
