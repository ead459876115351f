use Rattle.std.proofs.Common.{not, ◌&&◌, eqb, rules}
use Rattle.std.proofs.lemmas.Fn.{filter_same}
use Rattle.iofd_words.specs.declared.rows.UserPage.{UserPage}
use Rattle.journal_audit_world.proofs.frames.remove_page.Goals as goal

pub returns : goal.returns
returns g c = filter_same _ (λ (p : UserPage). not (eqb p.user.0 c.args.user.0 && eqb p.page c.args.page)) _
    (λ x b f k. search rules) _ _ c.retain.ensures.filtered
