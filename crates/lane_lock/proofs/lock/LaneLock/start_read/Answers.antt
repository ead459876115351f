use Rattle.std.proofs.Common.{◌+◌, ◌*◌, length, refl, sym, ap, ◌∙◌}
use Rattle.lane_lock.specs.Rule.{place}
use Rattle.lane_lock.proofs.Climbs.{met}
use Rattle.lane_lock.proofs.Guards.{in_front}
use Rattle.lane_lock.proofs.PassKept.{key_words, lane_there, noted_had, noted_history, noted_lanes, noted_pass}
use Rattle.lane_lock.proofs.PassKept.{noted_sees}
use Rattle.lane_lock.proofs.ReaderPass.{empty_keeps, empty_offer, empty_pass, empty_refuses, empty_sees, odd_some}
use Rattle.lane_lock.proofs.ReaderPass.{reader_had, reader_has, reader_keeps, reader_met, reader_sees}
use Rattle.lane_lock.proofs.lock.LaneLock.start_read.Goals as goal

pub take_to_read-found-requires-clause-table : goal.take_to_read-found-requires-clause-table
take_to_read-found-requires-clause-table g c = let lock = c.args.self.now in let pass = c.args.pass.now in
    (c.requires.table, lane_there lock pass c.requires, key_words lock pass c.requires)

pub take_to_read-found-requires-clause-pass : goal.take_to_read-found-requires-clause-pass
take_to_read-found-requires-clause-pass g c = let stands = c.args.pass.now.stands in
    (stands.0, ap (λ n. 2 * n + 1) (c.from.ensures ∙ sym stands.1))

pub invariant_of-pass : goal.invariant_of-pass
invariant_of-pass g c = let t = c.take_to_read-found.ensures.told.1 c.if-found-ne0.true in
    let kept = noted_pass c.args.pass.now c.take_to_read-found.new.seat.table_id c.take_to_read-found.new.seat.me
    c.args.pass.now.lane c.take_to_read-found.result c.take_to_read-found.ensures.same_seat.0 t.0 in
    record {
      stands = kept.stands;
      sized = kept.sized;
      has_seen = kept.has_seen;
      idle = kept.idle;
      pinned = kept.pinned;
      guarded = kept.guarded;
    }

pub holder_of-requires : goal.holder_of-requires
holder_of-requires g c = (c.take_to_read-found.ensures.told.1 c.if-found-ne0.true).1

pub returns-then-found-ne0-clause-same : goal.returns-then-found-ne0-clause-same
returns-then-found-ne0-clause-same g c =
    record { table = c.take_to_read-found.ensures.same_seat.0; number = refl; lane = refl }

pub returns-then-found-ne0-clause-sees : goal.returns-then-found-ne0-clause-sees
returns-then-found-ne0-clause-sees g c =
    noted_sees c.args.pass.now.seat.me c.take_to_read-found.new.seat.me c.args.pass.now.lane c.take_to_read-found.result
    (c.take_to_read-found.ensures.told.1 c.if-found-ne0.true).0

pub returns-then-found-ne0-clause-refused : goal.returns-then-found-ne0-clause-refused
returns-then-found-ne0-clause-refused g c =
    let t = c.take_to_read-found.ensures.told.1 c.if-found-ne0.true in let m = c.args.pass.now.seat.me in
    let lane = c.args.pass.now.lane in let found = c.take_to_read-found.result in
    let after = c.take_to_read-found.new.seat.me in (
      noted_history m after lane found t.0,
      noted_lanes m after lane found t.0,
      refl,
      met m after lane found c.holder_of.result.0 t.0 c.holder_of.ensures t.2 t.3,
      ap (λ u. u.0.empty) t.0,
      noted_had m after lane found t.0,
    )

pub exchange-requires : goal.exchange-requires
exchange-requires g c = let t = c.take_to_read-found.ensures.told.0 c.if-found-ne0.false in
    let below = c.args.pass.now.seat.me.1 in let hand = c.take_to_read-found.new.seat.me.1 in
    (c.take_to_read-found.ensures.same_seat.0 ∙ c.requires.table, (t.0, in_front hand below (place c.args.pass.now.lane, t.0) t.1))

pub put_back_last-requires-clause-table : goal.put_back_last-requires-clause-table
put_back_last-requires-clause-table g c = (
  c.in-None.ensures.0 ∙ (c.take_to_read-found.ensures.same_seat.0 ∙ c.requires.table),
  lane_there c.args.self.now c.args.pass.now c.requires,
)

pub put_back_last-requires-clause-pass : goal.put_back_last-requires-clause-pass
put_back_last-requires-clause-pass g c = let t = c.take_to_read-found.ensures.told.0 c.if-found-ne0.false in
    let e = c.in-None.ensures in
    empty_pass c.args.pass.now (2 * c.from.result + 1) (odd_some c.from.result)
    t.0 c.take_to_read-found.new.seat.me c.exchange.new.seat.me t.1 t.2 t.3 e.2 e.3

pub put_back_last-requires-clause-share : goal.put_back_last-requires-clause-share
put_back_last-requires-clause-share g c = let t = c.take_to_read-found.ensures.told.0 c.if-found-ne0.false in
    let e = c.in-None.ensures in
    empty_offer c.args.pass.now (2 * c.from.result + 1) (odd_some c.from.result)
    t.0 c.take_to_read-found.new.seat.me c.exchange.new.seat.me t.1 t.2 t.3 e.2 e.3

pub invariant_of-pass-in-None : goal.invariant_of-pass-in-None
invariant_of-pass-in-None g c = let t = c.take_to_read-found.ensures.told.0 c.if-found-ne0.false in
    let e = c.in-None.ensures in
    let kept = empty_keeps c.args.pass.now (2 * c.from.result + 1) (odd_some c.from.result) t.0 c.take_to_read-found.new.seat.me c.exchange.new.seat.me t.1 t.2 t.3 e.2 e.3
    c.put_back_last.new.seat.me c.put_back_last.ensures.told c.put_back_last.new.seat.table_id
    (c.put_back_last.ensures.same_seat.0 ∙ (e.0 ∙ c.take_to_read-found.ensures.same_seat.0)) in
    record {
      stands = kept.stands;
      sized = kept.sized;
      has_seen = kept.has_seen;
      idle = kept.idle;
      pinned = kept.pinned;
      guarded = kept.guarded;
    }

pub invariant_of-pass-in-Some : goal.invariant_of-pass-in-Some
invariant_of-pass-in-Some g c = let t = c.take_to_read-found.ensures.told.0 c.if-found-ne0.false in
    let e = c.in-Some.ensures in
    let kept = reader_keeps c.args.pass.now (2 * c.from.result + 1) (odd_some c.from.result) t.0 c.take_to_read-found.new.seat.me c.exchange.new.seat.me t.1 t.2 t.3 c.in-Some.share e.2
    e.3 c.exchange.new.seat.table_id c.len-pass.result (e.0 ∙ c.take_to_read-found.ensures.same_seat.0)
    (c.len-pass.ensures ∙ ap (λ a. length (g.K.Kept.history a)) c.deref.ensures) in
    record {
      stands = kept.stands;
      sized = kept.sized;
      has_seen = kept.has_seen;
      idle = kept.idle;
      pinned = kept.pinned;
      guarded = kept.guarded;
    }

pub returns-in-None-clause-same : goal.returns-in-None-clause-same
returns-in-None-clause-same g c = record {
  table = c.put_back_last.ensures.same_seat.0 ∙ (c.in-None.ensures.0 ∙ c.take_to_read-found.ensures.same_seat.0);
  number = refl;
  lane = refl;
}

pub returns-in-None-clause-sees : goal.returns-in-None-clause-sees
returns-in-None-clause-sees g c = let t = c.take_to_read-found.ensures.told.0 c.if-found-ne0.false in
    let e = c.in-None.ensures in
    empty_sees c.args.pass.now (2 * c.from.result + 1) (odd_some c.from.result)
    t.0 c.take_to_read-found.new.seat.me c.exchange.new.seat.me t.1 t.2 t.3 e.2 e.3 c.put_back_last.new.seat.me
    c.put_back_last.ensures.told

pub returns-in-None-clause-refused : goal.returns-in-None-clause-refused
returns-in-None-clause-refused g c = let t = c.take_to_read-found.ensures.told.0 c.if-found-ne0.false in
    let e = c.in-None.ensures in
    empty_refuses c.args.pass.now (2 * c.from.result + 1) (odd_some c.from.result) t.0 c.take_to_read-found.new.seat.me c.exchange.new.seat.me t.1 t.2 t.3 e.2 e.3
    c.put_back_last.new.seat.me c.put_back_last.ensures.told

pub returns-in-Some-clause-same : goal.returns-in-Some-clause-same
returns-in-Some-clause-same g c =
    record { table = c.in-Some.ensures.0 ∙ c.take_to_read-found.ensures.same_seat.0; number = refl; lane = refl }

pub returns-in-Some-clause-sees : goal.returns-in-Some-clause-sees
returns-in-Some-clause-sees g c = let t = c.take_to_read-found.ensures.told.0 c.if-found-ne0.false in
    let e = c.in-Some.ensures in
    reader_sees c.args.pass.now (2 * c.from.result + 1) (odd_some c.from.result)
    t.0 c.take_to_read-found.new.seat.me c.exchange.new.seat.me t.1 t.2 t.3 c.in-Some.share e.2 e.3

pub returns-in-Some-clause-reading : goal.returns-in-Some-clause-reading
returns-in-Some-clause-reading g c = let t = c.take_to_read-found.ensures.told.0 c.if-found-ne0.false in
    let e = c.in-Some.ensures in
    reader_has c.args.pass.now (2 * c.from.result + 1) (odd_some c.from.result)
    t.0 c.take_to_read-found.new.seat.me c.exchange.new.seat.me t.1 t.2 t.3 c.in-Some.share e.2 e.3

pub returns-in-Some-clause-met : goal.returns-in-Some-clause-met
returns-in-Some-clause-met g c = let t = c.take_to_read-found.ensures.told.0 c.if-found-ne0.false in
    let e = c.in-Some.ensures in
    reader_met c.args.pass.now (2 * c.from.result + 1) (odd_some c.from.result)
    t.0 c.take_to_read-found.new.seat.me c.exchange.new.seat.me t.1 t.2 t.3 c.in-Some.share e.2 e.3

pub returns-in-Some-clause-had : goal.returns-in-Some-clause-had
returns-in-Some-clause-had g c = let t = c.take_to_read-found.ensures.told.0 c.if-found-ne0.false in
    let e = c.in-Some.ensures in
    reader_had c.args.pass.now (2 * c.from.result + 1) (odd_some c.from.result)
    t.0 c.take_to_read-found.new.seat.me c.exchange.new.seat.me t.1 t.2 t.3 c.in-Some.share e.2 e.3
