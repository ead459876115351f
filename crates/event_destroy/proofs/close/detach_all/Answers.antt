use Rattle.std.proofs.Common.{not, eqb, rules}
use borrow.Author.Tests.{tests}
use Rattle.std.proofs.lemmas.Fn.{filter_same}
use Rattle.iofd_words.specs.declared.rows.Attachment.{Attachment}
use Rattle.event_destroy.proofs.close.detach_all.Goals as goal

pub returns : goal.returns
returns g c = filter_same _ (λ (a : Attachment). not (eqb a.file.0 c.args.file.0)) _ (λ x b f k. search (rules, tests))
    _ _ c.retain.ensures.filtered
