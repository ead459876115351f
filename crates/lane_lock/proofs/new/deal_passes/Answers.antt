use Rattle.std.proofs.Common.{◌≡◌, ◌+◌, length, ◌-◌, rules, arith, sym, subst, ap, ◌∙◌, []}
use Rattle.lane_lock.specs.Passes.{AllNew, opening_of}
use Rattle.lane_lock.proofs.NewPasses.{more_new, none_there}
use Rattle.lane_lock.proofs.Starts.{apart_in, cut_off_in, left_over_in, starts_full}
use Rattle.lane_lock.proofs.new.deal_passes.Goals as goal

pub loop-number-init : goal.loop-number-init
loop-number-init g c = let lock = c.args.lock.now in let room = c.requires.room in record {
  room = room.1;
  table = c.requires.seat.0;
  view = c.requires.seat.1 ∙ starts_full (opening_of g.K.Kept.history lock) lock.passes lock.table.shared.key.passes
      lock.lanes lock.table.shared.key.lanes lock.counted (sym lock.sized.2);
  new = record { count = ap length room.0; each = λ i p e. absurd (none_there room.0 i p e) };
}

pub split_off_pass-cut-requires-clause-table : goal.split_off_pass-cut-requires-clause-table
split_off_pass-cut-requires-clause-table g c = let lock = c.args.lock.now in
    let some = lock.few.0 in let words = lock.sized.0 in (c.loop-number.invariant.table, omega (arith, some, words))

pub split_off_pass-cut-requires-clause-pass : goal.split_off_pass-cut-requires-clause-pass
split_off_pass-cut-requires-clause-pass g c = let lock = c.args.lock.now in
    apart_in (opening_of g.K.Kept.history lock) lock.passes lock.lanes c.loop-number.number (lock.passes - 1)
    c.loop-number-test.true c.loop-number.seat.me c.loop-number.invariant.view

pub new_pass-requires : goal.new_pass-requires
new_pass-requires g c = let lock = c.args.lock.now in (
  search rules,
  c.split_off_pass-cut.ensures.dealt.1
      ∙ ap (λ v. (v, [])) (cut_off_in (opening_of g.K.Kept.history lock) lock.passes lock.lanes c.loop-number.number
      (lock.passes - 1) c.loop-number-test.true c.loop-number.seat.me c.loop-number.invariant.view),
)

pub loop-number-preserved : goal.loop-number-preserved
loop-number-preserved g c = let lock = c.args.lock.now in record {
  room = search rules;
  table = search rules;
  view = left_over_in (opening_of g.K.Kept.history lock) lock.passes lock.lanes c.loop-number.number (lock.passes - 1)
      c.loop-number-test.true c.loop-number.seat.me c.loop-number.invariant.view _ c.split_off_pass-cut.ensures.kept.1;
  new = subst (AllNew lock (c.loop-number.number + 1)) (sym c.push_reserved.ensures.items)
      (more_new _ _ _ _ c.loop-number.invariant.new c.new_pass.ensures);
}

pub returns : goal.returns
returns g c = let lock = c.args.lock.now in
    subst (λ n. AllNew lock n c.push_reserved-2.new.self.items) (let few = lock.few in let e : (lock.passes - 1)
    + 1 ≡ lock.passes = omega arith in e)
    (subst (AllNew lock ((lock.passes - 1) + 1)) (sym c.push_reserved-2.ensures.items)
    (more_new _ _ _ _ (search rules) c.new_pass-2.ensures))
