use Rattle.std.proofs.Common.{◌-◌, [], ◌∷◌, None, rules, ap, ◌∙◌}
use Rattle.atomic_table.specs.Table.{rest}
use Rattle.lane_lock.specs.Hands.{Shows}
use Rattle.lane_lock.proofs.Drops.{stack_drop, stack_on}
use Rattle.lane_lock.proofs.Writes.{all_home}
use Rattle.lane_lock.proofs.lock.LaneLock.stop_write.Goals as goal

pub put_back_upper-requires-clause-stack : goal.put_back_upper-requires-clause-stack
put_back_upper-requires-clause-stack g c =
    stack_on (Shows g.K.Kept.history c.args.pass.now.seat.me.0.seen) (c.args.self.now.lanes - 1)
    c.args.pass.now.seat.me.1 ((0, None) ∷ []) c.requires.writing.stack

pub put_back_with-requires-clause-hand : goal.put_back_with-requires-clause-hand
put_back_with-requires-clause-hand g c =
    let h = c.put_back_upper.ensures.lowered.stack
    ∙ stack_drop (Shows g.K.Kept.history c.args.pass.now.seat.me.0.seen) (c.args.self.now.lanes - 1)
    c.args.pass.now.seat.me.1 ((0, None) ∷ []) c.requires.writing.stack in
    (None, search (rules, h))

pub invariant_of-pass : goal.invariant_of-pass
invariant_of-pass g c =
    let pass = c.args.pass.now in let lanes = c.args.self.now.lanes in let low = c.put_back_upper.ensures.lowered in
    let view = ap (λ m. m.0) c.put_back_with.ensures.told in
    let below = low.stack ∙ stack_drop (Shows g.K.Kept.history pass.seat.me.0.seen) (lanes - 1) pass.seat.me.1
    ((0, None) ∷ []) c.requires.writing.stack in
    let blank = all_home (Shows g.K.Kept.history pass.seat.me.0.seen) pass.seat.me c.put_back_upper.new.seat.me
    c.put_back_with.new.seat.me lanes low (search rules) (search rules) view in record {
      stands = search rules;
      sized = search rules;
      has_seen = search rules;
      idle = λ e. (ap (λ m. m.1) c.put_back_with.ensures.told ∙ ap rest below, blank);
      pinned = λ n. absurd (n (ap (λ v. v.pin) view));
      guarded = search rules;
    }
