use Rattle.std.proofs.Common.{◌≢◌, rules}
use Rattle.lane_lock.proofs.PassLists.{get_is, one_further, all_of}
use Rattle.lane_lock.proofs.close.has_pass.Goals as goal

pub returns-then-pass-number : goal.returns-then-pass-number
returns-then-pass-number g c = (
  c.loop-pass.pass-index,
  c.pass-item.result,
  get_is c.args.passes.now.items _ _ (search rules) (search (rules, c.pass-item.is)),
  c.if-pass-number.true,
)

pub loop-pass-preserved : goal.loop-pass-preserved
loop-pass-preserved g c =
    one_further (λ p. p.number ≢ c.args.number) c.args.passes.now.items c.loop-pass.pass-index c.pass-item.result
    c.loop-pass.invariant (get_is c.args.passes.now.items _ _ (search rules) (search (rules, c.pass-item.is)))
    c.if-pass-number.false

pub returns : goal.returns
returns g c = all_of (λ p. p.number ≢ c.args.number) c.args.passes.now.items c.loop-pass.pass-index
    (search rules) c.loop-pass.invariant
