use Rattle.std.proofs.Common.{◌+◌, ◌-◌, ◌*◌, None, length, refl, sym, ap, ◌∙◌, arith}
use Rattle.lane_lock.specs.Hands.{Shows}
use Rattle.lane_lock.proofs.Climbs.{met}
use Rattle.lane_lock.proofs.Guards.{in_front}
use Rattle.lane_lock.proofs.PassKept.{all_held, key_words, noted_had, noted_lanes, noted_pass, noted_sees, some_held}
use Rattle.lane_lock.proofs.PassKept.{some_words}
use Rattle.lane_lock.proofs.PassKept.{stopped_keeps, stopped_refuses, stopped_sees, word_some, writer_has, writer_keeps}
use Rattle.lane_lock.proofs.Writes.{climbed_had, climbed_met, climbed_sees, first_pass, stopped_first, stopped_hand}
use Rattle.lane_lock.proofs.Writes.{stopped_pass, stopped_share}
use Rattle.lane_lock.proofs.Writes.{stopped_stack, took_first}
use Rattle.lane_lock.proofs.lock.LaneLock.start_write.Goals as goal

pub take_to_write-found-requires-clause-table : goal.take_to_write-found-requires-clause-table
take_to_write-found-requires-clause-table g c =
    let lock = c.args.self.now in
    let pass = c.args.pass.now in (c.requires.table, some_words lock pass c.requires, key_words lock pass c.requires)

pub take_to_write-found-requires-clause-pass : goal.take_to_write-found-requires-clause-pass
take_to_write-found-requires-clause-pass g c = let stands = c.args.pass.now.stands in
    (stands.0, ap (λ n. 2 * n + 2) (c.from.ensures ∙ sym stands.1))

pub invariant_of-pass : goal.invariant_of-pass
invariant_of-pass g c = let t = c.take_to_write-found.ensures.told.1 c.if-found-ne0.true in
    let kept = noted_pass c.args.pass.now c.take_to_write-found.new.seat.table_id c.take_to_write-found.new.seat.me
    0 c.take_to_write-found.result c.take_to_write-found.ensures.same_seat.0 t.0 in
    record {
      stands = kept.stands;
      sized = kept.sized;
      has_seen = kept.has_seen;
      idle = kept.idle;
      pinned = kept.pinned;
      guarded = kept.guarded;
    }

pub holder_of-requires : goal.holder_of-requires
holder_of-requires g c = (c.take_to_write-found.ensures.told.1 c.if-found-ne0.true).1

pub returns-then-found-ne0-clause-same : goal.returns-then-found-ne0-clause-same
returns-then-found-ne0-clause-same g c =
    record { table = c.take_to_write-found.ensures.same_seat.0; number = refl; lane = refl }

pub returns-then-found-ne0-clause-sees : goal.returns-then-found-ne0-clause-sees
returns-then-found-ne0-clause-sees g c =
    noted_sees c.args.pass.now.seat.me c.take_to_write-found.new.seat.me 0 c.take_to_write-found.result
    (c.take_to_write-found.ensures.told.1 c.if-found-ne0.true).0

pub returns-then-found-ne0-clause-refused : goal.returns-then-found-ne0-clause-refused
returns-then-found-ne0-clause-refused g c =
    let t = c.take_to_write-found.ensures.told.1 c.if-found-ne0.true in let m = c.args.pass.now.seat.me in
    let found = c.take_to_write-found.result in let after = c.take_to_write-found.new.seat.me in (
      noted_sees m after 0 found t.0,
      noted_lanes m after 0 found t.0,
      c.args.self.now.few.0,
      met m after 0 found c.holder_of.result.0 t.0 c.holder_of.ensures t.2 t.3,
      noted_had m after 0 found t.0,
    )

pub exchange-requires : goal.exchange-requires
exchange-requires g c = let t = c.take_to_write-found.ensures.told.0 c.if-found-ne0.false in
    let below = c.args.pass.now.seat.me.1 in let hand = c.take_to_write-found.new.seat.me.1 in
    (c.take_to_write-found.ensures.same_seat.0 ∙ c.requires.table, (t.0, in_front hand below (0, t.0) t.1))

pub take_upper-requires-clause-table : goal.take_upper-requires-clause-table
take_upper-requires-clause-table g c = let lock = c.args.self.now in (
  c.in-Some.ensures.0 ∙ (c.take_to_write-found.ensures.same_seat.0 ∙ c.requires.table),
  lock.few.0,
  lock.sized.0,
  key_words lock c.args.pass.now c.requires,
)

pub take_upper-requires-clause-pass : goal.take_upper-requires-clause-pass
take_upper-requires-clause-pass g c = let t = c.take_to_write-found.ensures.told.0 c.if-found-ne0.false in
    let pass = c.args.pass.now in let lock = c.args.self.now in let m = c.exchange.new.seat.me in
    let w = 2 * c.from.result + 2 in
    let f = took_first g.K.Kept.history g.K.Kept.maker pass.seat.me c.take_to_write-found.new.seat.me m w t.0
    c.in-Some.share t.1 t.2 c.in-Some.ensures.2 c.in-Some.ensures.3 t.3 in
    let h = first_pass g.K.Kept.history g.K.Kept.maker pass.seat.me m w c.in-Some.share f lock.lanes pass.stands.0
    (all_held lock pass c.requires) in
    (h.0, h.1, h.2, ap (λ n. 2 * n + 2) (c.from.ensures ∙ sym (h.3 ∙ pass.stands.1)))

pub invariant_of-pass-in-None : goal.invariant_of-pass-in-None
invariant_of-pass-in-None g c = let t = c.take_to_write-found.ensures.told.0 c.if-found-ne0.false in
    let pass = c.args.pass.now in let lock = c.args.self.now in let m = c.exchange.new.seat.me in
    let w = 2 * c.from.result + 2 in
    let f = took_first g.K.Kept.history g.K.Kept.maker pass.seat.me c.take_to_write-found.new.seat.me m w t.0
    c.in-Some.share t.1 t.2 c.in-Some.ensures.2 c.in-Some.ensures.3 t.3 in
    let kept = writer_keeps lock pass c.requires m w c.in-Some.share f c.take_upper.new.seat.me
    (word_some c.from.result) c.in-None.ensures.told c.take_upper.new.seat.table_id c.len-pass.result
    (c.in-None.ensures.same_seat.0 ∙ (c.in-Some.ensures.0 ∙ c.take_to_write-found.ensures.same_seat.0))
    (c.len-pass.ensures ∙ ap (λ a. length (g.K.Kept.history a)) c.deref.ensures) in
    record {
      stands = kept.stands;
      sized = kept.sized;
      has_seen = kept.has_seen;
      idle = kept.idle;
      pinned = kept.pinned;
      guarded = kept.guarded;
    }

pub put_back_upper-requires-clause-table : goal.put_back_upper-requires-clause-table
put_back_upper-requires-clause-table g c = let told = c.in-Some-take_upper.ensures.told in (
  c.in-Some-take_upper.ensures.same_seat.0
      ∙ (c.in-Some.ensures.0 ∙ (c.take_to_write-found.ensures.same_seat.0 ∙ c.requires.table)),
  told.1.above,
  (let lt = told.0 in let count = c.args.self.now.sized.0 in omega (arith, lt, count)),
)

pub put_back_upper-requires-clause-pass : goal.put_back_upper-requires-clause-pass
put_back_upper-requires-clause-pass g c = let t = c.take_to_write-found.ensures.told.0 c.if-found-ne0.false in
    let pass = c.args.pass.now in let m = c.exchange.new.seat.me in let w = 2 * c.from.result + 2 in
    let f = took_first g.K.Kept.history g.K.Kept.maker pass.seat.me c.take_to_write-found.new.seat.me m w t.0
    c.in-Some.share t.1 t.2 c.in-Some.ensures.2 c.in-Some.ensures.3 t.3 in
    stopped_pass g.K.Kept.history g.K.Kept.maker pass.seat.me m w c.in-Some.share f c.take_upper.new.seat.me
    c.in-Some-take_upper.busy c.in-Some-take_upper.ensures.told.1 pass.stands.0 (word_some c.from.result) pass.pinned

pub put_back_upper-requires-clause-stack : goal.put_back_upper-requires-clause-stack
put_back_upper-requires-clause-stack g c = let t = c.take_to_write-found.ensures.told.0 c.if-found-ne0.false in
    let pass = c.args.pass.now in let m = c.exchange.new.seat.me in let w = 2 * c.from.result + 2 in
    let f = took_first g.K.Kept.history g.K.Kept.maker pass.seat.me c.take_to_write-found.new.seat.me m w t.0
    c.in-Some.share t.1 t.2 c.in-Some.ensures.2 c.in-Some.ensures.3 t.3 in
    stopped_stack g.K.Kept.history g.K.Kept.maker pass.seat.me m w c.in-Some.share f c.take_upper.new.seat.me
    c.in-Some-take_upper.busy c.in-Some-take_upper.ensures.told.1

pub put_back_with-requires-clause-table : goal.put_back_with-requires-clause-table
put_back_with-requires-clause-table g c = (
  c.put_back_upper.ensures.same_seat.0 ∙ (c.in-Some-take_upper.ensures.same_seat.0
      ∙ (c.in-Some.ensures.0 ∙ (c.take_to_write-found.ensures.same_seat.0 ∙ c.requires.table))),
  some_words c.args.self.now c.args.pass.now c.requires,
)

pub put_back_with-requires-clause-pass : goal.put_back_with-requires-clause-pass
put_back_with-requires-clause-pass g c = let t = c.take_to_write-found.ensures.told.0 c.if-found-ne0.false in
    let pass = c.args.pass.now in let m = c.exchange.new.seat.me in let w = 2 * c.from.result + 2 in
    let f = took_first g.K.Kept.history g.K.Kept.maker pass.seat.me c.take_to_write-found.new.seat.me m w t.0
    c.in-Some.share t.1 t.2 c.in-Some.ensures.2 c.in-Some.ensures.3 t.3 in
    let lock = c.args.self.now in
    stopped_first g.K.Kept.history g.K.Kept.maker pass.seat.me m w c.in-Some.share f c.take_upper.new.seat.me
    c.in-Some-take_upper.busy c.in-Some-take_upper.ensures.told.1 c.put_back_upper.new.seat.me
    (Shows g.K.Kept.history c.take_upper.new.seat.me.0.seen) c.put_back_upper.ensures.lowered pass.stands.0
    (some_held lock pass c.requires) (word_some c.from.result)

pub put_back_with-requires-clause-hand : goal.put_back_with-requires-clause-hand
put_back_with-requires-clause-hand g c = let t = c.take_to_write-found.ensures.told.0 c.if-found-ne0.false in
    let pass = c.args.pass.now in let m = c.exchange.new.seat.me in let w = 2 * c.from.result + 2 in
    let f = took_first g.K.Kept.history g.K.Kept.maker pass.seat.me c.take_to_write-found.new.seat.me m w t.0
    c.in-Some.share t.1 t.2 c.in-Some.ensures.2 c.in-Some.ensures.3 t.3 in (
      None,
      in_front c.put_back_upper.new.seat.me.1 pass.seat.me.1 (0, None)
          (stopped_hand g.K.Kept.history g.K.Kept.maker pass.seat.me m w c.in-Some.share f c.take_upper.new.seat.me
          c.in-Some-take_upper.busy c.in-Some-take_upper.ensures.told.1 c.put_back_upper.new.seat.me
          (Shows g.K.Kept.history c.take_upper.new.seat.me.0.seen) c.put_back_upper.ensures.lowered),
    )

pub put_back_with-requires-clause-share : goal.put_back_with-requires-clause-share
put_back_with-requires-clause-share g c = let t = c.take_to_write-found.ensures.told.0 c.if-found-ne0.false in
    let pass = c.args.pass.now in let m = c.exchange.new.seat.me in let w = 2 * c.from.result + 2 in
    let f = took_first g.K.Kept.history g.K.Kept.maker pass.seat.me c.take_to_write-found.new.seat.me m w t.0
    c.in-Some.share t.1 t.2 c.in-Some.ensures.2 c.in-Some.ensures.3 t.3 in
    stopped_share g.K.Kept.history g.K.Kept.maker pass.seat.me m w c.in-Some.share f c.take_upper.new.seat.me
    c.in-Some-take_upper.busy c.in-Some-take_upper.ensures.told.1 c.put_back_upper.new.seat.me
    (Shows g.K.Kept.history c.take_upper.new.seat.me.0.seen) c.put_back_upper.ensures.lowered

pub invariant_of-pass-in-Some-take_upper : goal.invariant_of-pass-in-Some-take_upper
invariant_of-pass-in-Some-take_upper g c = let t = c.take_to_write-found.ensures.told.0 c.if-found-ne0.false in
    let pass = c.args.pass.now in let m = c.exchange.new.seat.me in let w = 2 * c.from.result + 2 in
    let f = took_first g.K.Kept.history g.K.Kept.maker pass.seat.me c.take_to_write-found.new.seat.me m w t.0
    c.in-Some.share t.1 t.2 c.in-Some.ensures.2 c.in-Some.ensures.3 t.3 in
    let kept = stopped_keeps c.args.self.now pass c.requires m w c.in-Some.share f c.take_upper.new.seat.me
    c.in-Some-take_upper.busy c.in-Some-take_upper.ensures.told.1
    (Shows g.K.Kept.history c.take_upper.new.seat.me.0.seen)
    c.put_back_upper.new.seat.me c.put_back_with.new.seat.me c.put_back_upper.ensures.lowered
    c.put_back_with.ensures.told c.put_back_with.new.seat.table_id c.len-pass.result
    (c.put_back_with.ensures.same_seat.0 ∙ (c.put_back_upper.ensures.same_seat.0
    ∙ (c.in-Some-take_upper.ensures.same_seat.0 ∙ (c.in-Some.ensures.0 ∙ c.take_to_write-found.ensures.same_seat.0))))
    (c.len-pass.ensures ∙ ap (λ a. length (g.K.Kept.history a)) c.deref.ensures) in
    record {
      stands = kept.stands;
      sized = kept.sized;
      has_seen = kept.has_seen;
      idle = kept.idle;
      pinned = kept.pinned;
      guarded = kept.guarded;
    }

pub returns-in-None-clause-same : goal.returns-in-None-clause-same
returns-in-None-clause-same g c = record {
  table = c.in-None.ensures.same_seat.0 ∙ (c.in-Some.ensures.0 ∙ c.take_to_write-found.ensures.same_seat.0);
  number = refl;
  lane = refl;
}

pub returns-in-None-clause-sees : goal.returns-in-None-clause-sees
returns-in-None-clause-sees g c = let t = c.take_to_write-found.ensures.told.0 c.if-found-ne0.false in
    let pass = c.args.pass.now in let m = c.exchange.new.seat.me in let w = 2 * c.from.result + 2 in
    let f = took_first g.K.Kept.history g.K.Kept.maker pass.seat.me c.take_to_write-found.new.seat.me m w t.0
    c.in-Some.share t.1 t.2 c.in-Some.ensures.2 c.in-Some.ensures.3 t.3 in
    climbed_sees g.K.Kept.history g.K.Kept.maker pass.seat.me m w c.in-Some.share f c.take_upper.new.seat.me
    (c.args.self.now.lanes - 1) c.in-None.ensures.told

pub returns-in-None-clause-met : goal.returns-in-None-clause-met
returns-in-None-clause-met g c = let t = c.take_to_write-found.ensures.told.0 c.if-found-ne0.false in
    let pass = c.args.pass.now in let m = c.exchange.new.seat.me in let w = 2 * c.from.result + 2 in
    let f = took_first g.K.Kept.history g.K.Kept.maker pass.seat.me c.take_to_write-found.new.seat.me m w t.0
    c.in-Some.share t.1 t.2 c.in-Some.ensures.2 c.in-Some.ensures.3 t.3 in
    climbed_met g.K.Kept.history g.K.Kept.maker pass.seat.me m w c.in-Some.share f c.take_upper.new.seat.me
    (c.args.self.now.lanes - 1) c.in-None.ensures.told

pub returns-in-None-clause-had : goal.returns-in-None-clause-had
returns-in-None-clause-had g c = let t = c.take_to_write-found.ensures.told.0 c.if-found-ne0.false in
    let pass = c.args.pass.now in let m = c.exchange.new.seat.me in let w = 2 * c.from.result + 2 in
    let f = took_first g.K.Kept.history g.K.Kept.maker pass.seat.me c.take_to_write-found.new.seat.me m w t.0
    c.in-Some.share t.1 t.2 c.in-Some.ensures.2 c.in-Some.ensures.3 t.3 in
    climbed_had g.K.Kept.history g.K.Kept.maker pass.seat.me m w c.in-Some.share f c.take_upper.new.seat.me
    c.args.self.now.lanes c.in-None.ensures.told c.args.self.now.few.0 (all_held c.args.self.now pass c.requires)

pub returns-in-None-clause-writing : goal.returns-in-None-clause-writing
returns-in-None-clause-writing g c = let t = c.take_to_write-found.ensures.told.0 c.if-found-ne0.false in
    let pass = c.args.pass.now in let m = c.exchange.new.seat.me in let w = 2 * c.from.result + 2 in
    let f = took_first g.K.Kept.history g.K.Kept.maker pass.seat.me c.take_to_write-found.new.seat.me m w t.0
    c.in-Some.share t.1 t.2 c.in-Some.ensures.2 c.in-Some.ensures.3 t.3 in
    writer_has c.args.self.now pass c.requires m w c.in-Some.share f c.take_upper.new.seat.me
    (word_some c.from.result) c.in-None.ensures.told

pub returns-in-Some-take_upper-clause-same : goal.returns-in-Some-take_upper-clause-same
returns-in-Some-take_upper-clause-same g c = record {
  table = c.put_back_with.ensures.same_seat.0 ∙ (c.put_back_upper.ensures.same_seat.0
      ∙ (c.in-Some-take_upper.ensures.same_seat.0 ∙ (c.in-Some.ensures.0 ∙ c.take_to_write-found.ensures.same_seat.0)));
  number = refl;
  lane = refl;
}

pub returns-in-Some-take_upper-clause-sees : goal.returns-in-Some-take_upper-clause-sees
returns-in-Some-take_upper-clause-sees g c = let t = c.take_to_write-found.ensures.told.0 c.if-found-ne0.false in
    let pass = c.args.pass.now in let m = c.exchange.new.seat.me in let w = 2 * c.from.result + 2 in
    let f = took_first g.K.Kept.history g.K.Kept.maker pass.seat.me c.take_to_write-found.new.seat.me m w t.0
    c.in-Some.share t.1 t.2 c.in-Some.ensures.2 c.in-Some.ensures.3 t.3 in
    stopped_sees c.args.self.now pass c.requires m w c.in-Some.share f c.take_upper.new.seat.me
    c.in-Some-take_upper.busy c.in-Some-take_upper.ensures.told.1
    (Shows g.K.Kept.history c.take_upper.new.seat.me.0.seen) c.put_back_upper.new.seat.me c.put_back_with.new.seat.me
    c.put_back_upper.ensures.lowered c.put_back_with.ensures.told

pub returns-in-Some-take_upper-clause-refused : goal.returns-in-Some-take_upper-clause-refused
returns-in-Some-take_upper-clause-refused g c = let t = c.take_to_write-found.ensures.told.0 c.if-found-ne0.false in
    let pass = c.args.pass.now in let m = c.exchange.new.seat.me in let w = 2 * c.from.result + 2 in
    let f = took_first g.K.Kept.history g.K.Kept.maker pass.seat.me c.take_to_write-found.new.seat.me m w t.0
    c.in-Some.share t.1 t.2 c.in-Some.ensures.2 c.in-Some.ensures.3 t.3 in
    stopped_refuses c.args.self.now pass c.requires m w c.in-Some.share f c.take_upper.new.seat.me
    c.in-Some-take_upper.busy c.in-Some-take_upper.ensures.told.1
    (Shows g.K.Kept.history c.take_upper.new.seat.me.0.seen) c.put_back_upper.new.seat.me c.put_back_with.new.seat.me
    c.put_back_upper.ensures.lowered c.put_back_with.ensures.told c.in-Some-take_upper.ensures.told.0
