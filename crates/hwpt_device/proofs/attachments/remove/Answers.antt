use Rattle.std.proofs.Common.{not, eqb, rules}
use borrow.Author.Tests.{tests}
use Rattle.std.proofs.lemmas.Fn.{filter_same}
use Rattle.iofd_words.specs.declared.rows.Attachment.{Attachment}
use Rattle.hwpt_device.proofs.attachments.remove.Goals as goal

pub returns : goal.returns
returns g c = filter_same _ (λ (a : Attachment). not (eqb a.device.0 c.args.device.0)) _
    (λ x b f k. search (rules, tests)) _ _ c.retain.ensures.filtered
