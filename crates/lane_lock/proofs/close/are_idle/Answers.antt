use Rattle.std.proofs.Common.{◌≡◌, false, rules}
use Rattle.std.specs.Prelude.{is_some}
use Rattle.lane_lock.proofs.PassLists.{get_is, one_further, all_of}
use Rattle.lane_lock.proofs.close.are_idle.Goals as goal

pub returns-then-is_some : goal.returns-then-is_some
returns-then-is_some g c = (
  c.loop-pass.pass-index,
  c.pass-item.result,
  get_is c.args.passes.now.items _ _ (search rules) (search (rules, c.pass-item.is)),
  search rules,
)

pub loop-pass-preserved : goal.loop-pass-preserved
loop-pass-preserved g c =
    one_further (λ p. is_some p.share ≡ false) c.args.passes.now.items c.loop-pass.pass-index c.pass-item.result
    c.loop-pass.invariant (get_is c.args.passes.now.items _ _ (search rules) (search (rules, c.pass-item.is)))
    (search rules)

pub returns : goal.returns
returns g c = all_of (λ p. is_some p.share ≡ false) c.args.passes.now.items c.loop-pass.pass-index
    (search rules) c.loop-pass.invariant
