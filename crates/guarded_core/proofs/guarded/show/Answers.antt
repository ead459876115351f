use Rattle.std.proofs.Common.{refl, rules}
use Rattle.guarded_core.proofs.Guards.{shown}
use Rattle.guarded_core.proofs.guarded.show.Goals as goal

pub returns-clause-shown : goal.returns-clause-shown
returns-clause-shown g c =
    let get = c.get.ensures in
    let end = c.end.ensures in (
      c.get.result.now,
      shown _ _ _ _ _ c.read-guard.ensures.lock get.seen get.opened get.legal end.same_pass end.history end.blank _
          (search rules),
      (c.get.result, refl, c.ask-answer.ensures),
    )
