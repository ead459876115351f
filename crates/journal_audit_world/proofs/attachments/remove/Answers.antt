use Rattle.std.proofs.Common.{not, eqb, rules}
use Rattle.std.proofs.lemmas.Fn.{filter_same}
use Rattle.iofd_words.specs.declared.rows.Attachment.{Attachment}
use Rattle.journal_audit_world.proofs.attachments.remove.Goals as goal

pub returns : goal.returns
returns g c = filter_same _ (λ (row : Attachment). not (eqb row.device.0 c.args.device.0)) _
    (λ x b f k. search rules) _ _ c.retain.ensures.filtered
