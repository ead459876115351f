use Rattle.std.proofs.Common.{refl, rules}
use Rattle.guarded_core.proofs.Guards.{sees_if_refused, shown}
use Rattle.guarded_core.proofs.guarded.try_show_later.Goals as goal

pub returns-in-Ok-clause-shown : goal.returns-in-Ok-clause-shown
returns-in-Ok-clause-shown g c =
    let get = c.get.ensures in
    let end = c.end.ensures in (
      c.get.result.now,
      shown _ _ _ _ _ c.in-Ok.ensures.lock get.seen get.opened get.legal end.same_pass end.history end.blank _
          (search rules),
      (c.get.result, refl, c.ask-answer.ensures),
    )

pub returns-clause-sees : goal.returns-clause-sees
returns-clause-sees g c =
    sees_if_refused c.try_read.result c.in-Err.error _ _ _ _ c.in-Err.is c.try_read.follows.holds-at-none
