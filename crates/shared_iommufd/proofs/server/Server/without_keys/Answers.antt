use Rattle.std.proofs.Common.{◌≤◌, ◌∙◌, ap, sym, subst}
use Rattle.iofd_words.specs.Settings.{Settings}
use Rattle.lane_lock.specs.Passes.{AllNew}
use Rattle.guarded_core.specs.Opening.{opened_with}
use Rattle.shared_iommufd.proofs.Bounds.{passes_fit}
use Rattle.guarded_core.proofs.Entered.{opened_so}
use Rattle.shared_iommufd.proofs.server.Server.without_keys.Goals as goal

pub new-requires-2-clause-passes : goal.new-requires-2-clause-passes
new-requires-2-clause-passes g c = subst (λ n. (1 ≤ n) × (n ≤ 1024)) (sym c.passes-passes.ensures)
    (passes_fit c.args.config.now c.pool-pool.ensures.within)

pub invariant_of-result-clause-fresh : goal.invariant_of-result-clause-fresh
invariant_of-result-clause-fresh g c =
    (opened_so (opened_with c.in-Ok-new.lock) c.in-Ok.core.history c.args.config.now c.in-Ok-new.ensures.opening
    c.in-Ok.ensures).1

pub invariant_of-result-clause-counted : goal.invariant_of-result-clause-counted
invariant_of-result-clause-counted g c =
    let o = opened_so (opened_with c.in-Ok-new.lock) c.in-Ok.core.history c.args.config.now c.in-Ok-new.ensures.opening
    c.in-Ok.ensures in
    c.in-Ok-new.ensures.sizes.1 ∙ (c.passes-passes.ensures ∙ ap (λ (s : Settings). s.passes) (sym o.0))

pub returns-in-Ok-new-clause-settings : goal.returns-in-Ok-new-clause-settings
returns-in-Ok-new-clause-settings g c =
    (opened_so (opened_with c.in-Ok-new.lock) c.in-Ok.core.history c.args.config.now c.in-Ok-new.ensures.opening
    c.in-Ok.ensures).0

pub returns-in-Ok-new-clause-lanes : goal.returns-in-Ok-new-clause-lanes
returns-in-Ok-new-clause-lanes g c = c.in-Ok-new.ensures.sizes.0

pub returns-in-Ok-new-clause-passes : goal.returns-in-Ok-new-clause-passes
returns-in-Ok-new-clause-passes g c = subst (λ n. AllNew c.in-Ok-new.lock n c.in-Ok-new.passes.items)
    c.passes-passes.ensures c.in-Ok-new.ensures.dealt
