use Rattle.std.proofs.Common.{◌≡◌, ◌<◌, length, ◌∙◌, ap, subst}
use Rattle.std.specs.Result.{IfOk}
use Rattle.iofd_words.specs.Accesses.{notices}
use Rattle.iofd_words.specs.FirstTrue.{first_true}
use Rattle.iofd_steps.specs.Look.{notices_checks}
use Rattle.iofd_words.specs.View.{View}
use Rattle.iommufd_core.proofs.Histories.{same_kept}
use Rattle.iommufd_core.proofs.apply.Core.notices.Goals as goal

pub returns-clause-refused : goal.returns-clause-refused
returns-clause-refused g c =
    let same = same_kept c.self.inside.state c.self.inside.turns.items c.self.inside.records.items c.self.invariant in
    rw (← c.self.view_is) (c.notices.ensures.refused
    ∙ ap (λ (v : View). first_true (notices_checks v c.args.file c.args.access)) same)

pub returns-clause-spans : goal.returns-clause-spans
returns-clause-spans g c =
    let same = same_kept c.self.inside.state c.self.inside.turns.items c.self.inside.records.items c.self.invariant in
    rw (← c.self.view_is) (subst
    (λ (v : View). IfOk c.notices.result (λ spans. spans.items ≡ notices v c.args.file c.args.access)) same
    c.notices.ensures.spans)

pub returns-clause-memory : goal.returns-clause-memory
returns-clause-memory g c =
    let same = same_kept c.self.inside.state c.self.inside.turns.items c.self.inside.records.items c.self.invariant in
    rw (← c.self.view_is) (λ is. subst (λ (v : View). 0 < length (notices v c.args.file c.args.access)) same
    (c.notices.ensures.memory is))
