use Rattle.std.proofs.Common.{ℕ, ◌<◌, None, rules, sym, ap, ◌∙◌, subst, arith}
use Rattle.lane_lock.specs.Rule.{place}
use Rattle.lane_lock.proofs.Writes.{grown_alone, grown_back, grown_last, grown_pass, grown_stack, recording_pass}
use Rattle.lane_lock.proofs.write.put_back_grown.Goals as goal

pub exchange-requires : goal.exchange-requires
exchange-requires g c = (c.requires.table.0, (None, c.requires.hand.0))

pub put_back_with_record-requires-clause-table : goal.put_back_with_record-requires-clause-table
put_back_with_record-requires-clause-table g c = let t = c.requires.table in let some = t.1 in let words = t.2 in
    (c.exchange.ensures.0 ∙ t.0, omega (arith, some, words), ap place (sym t.4) ∙ t.3)

pub put_back_with_record-requires-clause-pass : goal.put_back_with_record-requires-clause-pass
put_back_with_record-requires-clause-pass g c =
    recording_pass c.args.seat.now.me.0 c.exchange.new.seat.me.0 c.args.count c.args.lanes.now.key.lanes
    (ap (λ m. m.0) c.exchange.ensures.3) c.requires.table.4 c.requires.pass

pub put_back_with_record-requires-clause-share : goal.put_back_with_record-requires-clause-share
put_back_with_record-requires-clause-share g c =
    (c.args.share, c.requires.share.0, search rules, search rules, search rules)

pub refill-requires-clause-table : goal.refill-requires-clause-table
refill-requires-clause-table g c = let t = c.requires.table in let words = t.2 in (
  c.put_back_with_record.ensures.same_seat.0 ∙ (c.exchange.ensures.0 ∙ t.0),
  c.if-count-gt1-2.true,
  omega (arith, words),
)

pub refill-requires-clause-pass : goal.refill-requires-clause-pass
refill-requires-clause-pass g c =
    let told = c.put_back_with_record.ensures.told in
    grown_pass g.K.Kept.history c.args.seat.now.me c.exchange.new.seat.me c.put_back_with_record.new.seat.me
    c.args.count c.args.share c.requires.hand.0 c.requires.hand.1 c.exchange.ensures.3 told.0 c.requires.pass.0
    (told.1 (subst (λ (n : ℕ). 1 < n) c.requires.table.4 c.if-count-gt1-2.true)) c.requires.pass.3

pub refill-requires-clause-stack : goal.refill-requires-clause-stack
refill-requires-clause-stack g c = grown_stack g.K.Kept.history c.args.seat.now.me c.exchange.new.seat.me
    c.put_back_with_record.new.seat.me c.args.count c.args.share c.requires.hand.0 c.requires.hand.1
    c.exchange.ensures.3 c.put_back_with_record.ensures.told.0

pub put_back_with-requires-clause-table : goal.put_back_with-requires-clause-table
put_back_with-requires-clause-table g c = let t = c.requires.table in let words = t.2 in
    let some = c.if-count-gt1-2.true in (
      c.refill.ensures.same_seat.0
          ∙ (c.put_back_with_record.ensures.same_seat.0 ∙ (c.exchange.ensures.0 ∙ t.0)),
      omega (arith, words, some),
    )

pub put_back_with-requires-clause-pass : goal.put_back_with-requires-clause-pass
put_back_with-requires-clause-pass g c =
    grown_last g.K.Kept.history c.args.seat.now.me c.exchange.new.seat.me c.put_back_with_record.new.seat.me
    c.args.count c.args.share c.requires.hand.0 c.requires.hand.1 c.exchange.ensures.3
    c.put_back_with_record.ensures.told.0 c.refill.new.seat.me c.refill.ensures.lowered c.requires.pass.0
    c.if-count-gt1-2.true c.requires.pass.3

pub put_back_with-requires-clause-hand : goal.put_back_with-requires-clause-hand
put_back_with-requires-clause-hand g c = let stack = c.refill.ensures.lowered.stack in (stack.0, stack.1)

pub returns-then-count-gt1-2-clause-same_seat : goal.returns-then-count-gt1-2-clause-same_seat
returns-then-count-gt1-2-clause-same_seat g c = let a = c.put_back_with.ensures.same_seat in
    let b = c.refill.ensures.same_seat in let r = c.put_back_with_record.ensures.same_seat in
    let e = c.exchange.ensures in
    (a.0 ∙ (b.0 ∙ (r.0 ∙ e.0)), a.1 ∙ (b.1 ∙ (r.1 ∙ e.1)))

pub returns-then-count-gt1-2-clause-back : goal.returns-then-count-gt1-2-clause-back
returns-then-count-gt1-2-clause-back g c =
    grown_back g.K.Kept.history c.args.seat.now.me c.exchange.new.seat.me c.put_back_with_record.new.seat.me
    c.args.count c.args.share c.requires.hand.0 c.requires.hand.1 c.exchange.ensures.3
    c.put_back_with_record.ensures.told.0
    c.refill.new.seat.me c.put_back_with.new.seat.me c.refill.ensures.lowered c.if-count-gt1-2.true c.requires.pass.2
    c.put_back_with.ensures.told

pub returns-else-count-gt1-2-clause-same_seat : goal.returns-else-count-gt1-2-clause-same_seat
returns-else-count-gt1-2-clause-same_seat g c =
    let r = c.put_back_with_record.ensures.same_seat in let e = c.exchange.ensures in (r.0 ∙ e.0, r.1 ∙ e.1)

pub returns-else-count-gt1-2-clause-back : goal.returns-else-count-gt1-2-clause-back
returns-else-count-gt1-2-clause-back g c =
    let some = c.requires.table.1 in let last = c.if-count-gt1-2.false in
    grown_alone g.K.Kept.history c.args.seat.now.me c.exchange.new.seat.me c.put_back_with_record.new.seat.me
    c.args.count c.args.share c.requires.hand.0 c.requires.hand.1 c.exchange.ensures.3
    c.put_back_with_record.ensures.told.0 (omega (arith, some, last)) c.requires.pass.2
    c.put_back_with_record.ensures.told.2
