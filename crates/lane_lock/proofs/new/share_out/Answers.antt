use Rattle.std.proofs.Common.{◌≡◌, ℕ, ◌+◌, IfSome, sym, rules, arith, subst}
use Rattle.lane_lock.specs.Opening.{AreShares}
use Rattle.lane_lock.specs.Rule.{place}
use Rattle.lane_lock.proofs.Starts.{more_shares}
use Rattle.lane_lock.proofs.new.share_out.Goals as goal

pub returns-in_err-slots : goal.returns-in_err-slots
returns-in_err-slots g c = subst (λ r. IfSome r (λ slots. AreShares c.args.first.now (place c.args.lanes) slots.items))
    (sym c.from_residual.ensures) tt

pub returns-in_err-ok : goal.returns-in_err-ok
returns-in_err-ok g c = subst (λ r. IfSome r (λ slots. AreShares c.args.first.now (place c.args.lanes) slots.items))
    (sym c.from_residual-in_err-ok.ensures) tt

pub loop-slot-preserved : goal.loop-slot-preserved
loop-slot-preserved g c = record {
  room = search rules;
  shares = subst (AreShares c.args.first.now (c.loop-slot.slot + 1)) (sym c.push_reserved-in-loop-slot.ensures.items)
      (more_shares _ _ _ _ (let some_slot = c.loop-slot.auto.slot in omega arith)
      c.loop-slot.invariant.shares (λ a e. search rules));
}

pub returns : goal.returns
returns g c = let all : c.loop-slot.slot ≡ place c.args.lanes = (let most = c.loop-slot.auto.slot-end in
    let end = c.loop-slot-test.false in omega (arith, most, end)) in
    subst (λ (n : ℕ). AreShares c.args.first.now n c.loop-slot.slots.items) all c.loop-slot.invariant.shares
