use Rattle.std.proofs.Common.{◌≡◌, ◌-◌, [], ◌∷◌, ◌++◌, None, Some, is_some, length, ap, ◌∙◌, sym, refl}
use Rattle.std.proofs.lemmas.Bool.{false≢true}
use Rattle.lane_lock.specs.Hands.{Shows}
use Rattle.std.specs.Arc.{arc_value}
use Rattle.lane_lock.specs.Steps.{share_history}
use Rattle.lane_lock.proofs.Drops.{any_stack, drop_all}
use Rattle.lane_lock.proofs.PassKept.{back_had, back_history, back_keeps, back_seen, dropped_pass}
use Rattle.lane_lock.proofs.Writes.{appended}
use Rattle.lane_lock.proofs.lock.LaneLock.finish_write.Goals as goal

pub unreachable-requires : goal.unreachable-requires
unreachable-requires g c =
    false≢true (sym (ap (λ s. is_some s) (sym c.take.ensures.value ∙ c.in_default.is)) ∙ c.requires.writing.there)

pub drop_shares-requires-clause-table : goal.drop_shares-requires-clause-table
drop_shares-requires-clause-table g c = (c.requires.owned.table, c.args.self.now.few.0)

pub drop_shares-requires-clause-stack : goal.drop_shares-requires-clause-stack
drop_shares-requires-clause-stack g c = any_stack (Shows g.K.Kept.history c.args.pass.now.seat.me.0.seen)
    (c.args.self.now.lanes - 1) c.args.pass.now.seat.me.1 ((0, None) ∷ []) c.requires.writing.stack

pub apply_alone-requires : goal.apply_alone-requires
apply_alone-requires g c = c.requires.may (arc_value c.in-Some.share)
    (c.in-Some.share, sym c.take.ensures.value ∙ c.in-Some.is, refl)

pub put_back_grown-requires-clause-table : goal.put_back_grown-requires-clause-table
put_back_grown-requires-clause-table g c = let lock = c.args.self.now in (
  c.drop_shares.ensures.same_seat.0 ∙ c.requires.owned.table,
  lock.few.0,
  lock.sized.0,
  lock.sized.0 ∙ sym lock.sized.1,
  sym lock.sized.2,
)

pub put_back_grown-requires-clause-pass : goal.put_back_grown-requires-clause-pass
put_back_grown-requires-clause-pass g c =
    dropped_pass c.args.self.now c.args.pass.now c.requires.owned c.args.pass.now.share c.drop_shares.new.seat.me
    c.requires.writing c.drop_shares.ensures.view

pub put_back_grown-requires-clause-hand : goal.put_back_grown-requires-clause-hand
put_back_grown-requires-clause-hand g c =
    drop_all (c.args.self.now.lanes - 1) c.drop_shares.new.seat.me.1 c.drop_shares.ensures.dropped

pub put_back_grown-requires-clause-share : goal.put_back_grown-requires-clause-share
put_back_grown-requires-clause-share g c =
    let held : c.args.pass.now.share ≡ Some c.in-Some.share = sym c.take.ensures.value ∙ c.in-Some.is in
    let shown : g.K.Kept.history (arc_value c.in-Some.share) ≡ c.args.pass.now.seat.me.0.seen =
    ap (λ x. share_history g.K.Kept.history x []) (sym held) ∙ c.requires.writing.shows in
    let r = c.in-Ok.ensures.record in let was = c.drop_shares.ensures.view in (
      r.0,
      r.1 ∙ ap (λ l. l ++ r.0 ∷ []) (shown ∙ sym (ap (λ v. v.seen) was)),
      r.2 ∙ sym (ap (λ v. v.number) was ∙ c.args.pass.now.stands.1),
    )

pub invariant_of-pass : goal.invariant_of-pass
invariant_of-pass g c =
    let kept = back_keeps c.args.pass.now c.drop_shares.new.seat.me c.put_back_grown.new.seat.me
    (g.K.Kept.history (arc_value c.apply_alone.new.share)) c.drop_shares.ensures.view c.put_back_grown.ensures.back
    c.put_back_grown.new.seat.table_id c.len-pass.result (is_some c.take.new.self)
    (c.put_back_grown.ensures.same_seat.0 ∙ c.drop_shares.ensures.same_seat.0)
    (c.len-pass.ensures ∙ ap (λ a. length (g.K.Kept.history a)) c.deref.ensures)
    (ap (λ s. is_some s) c.take.ensures.after) in
    record {
      stands = kept.stands;
      sized = kept.sized;
      has_seen = kept.has_seen;
      idle = kept.idle;
      pinned = kept.pinned;
      guarded = kept.guarded;
    }

pub put_back_emptied-requires-clause-table : goal.put_back_emptied-requires-clause-table
put_back_emptied-requires-clause-table g c = let lock = c.args.self.now in
    (c.drop_shares.ensures.same_seat.0 ∙ c.requires.owned.table, lock.few.0, lock.sized.0)

pub put_back_emptied-requires-clause-pass : goal.put_back_emptied-requires-clause-pass
put_back_emptied-requires-clause-pass g c =
    let has = dropped_pass c.args.self.now c.args.pass.now c.requires.owned c.args.pass.now.share
    c.drop_shares.new.seat.me c.requires.writing c.drop_shares.ensures.view in (has.0, has.2, has.3, has.4)

pub put_back_emptied-requires-clause-hand : goal.put_back_emptied-requires-clause-hand
put_back_emptied-requires-clause-hand g c =
    drop_all (c.args.self.now.lanes - 1) c.drop_shares.new.seat.me.1 c.drop_shares.ensures.dropped

pub put_back_emptied-requires-clause-share : goal.put_back_emptied-requires-clause-share
put_back_emptied-requires-clause-share g c =
    let held : c.args.pass.now.share ≡ Some c.in-Some.share = sym c.take.ensures.value ∙ c.in-Some.is in
    c.in-Err.ensures.err ∙ (ap (λ x. share_history g.K.Kept.history x []) (sym held)
    ∙ (c.requires.writing.shows ∙ sym (ap (λ v. v.seen) c.drop_shares.ensures.view)))

pub invariant_of-pass-in-Err : goal.invariant_of-pass-in-Err
invariant_of-pass-in-Err g c =
    let was = c.drop_shares.ensures.view in
    let kept = back_keeps c.args.pass.now c.drop_shares.new.seat.me c.put_back_emptied.new.seat.me
    c.drop_shares.new.seat.me.0.seen was c.put_back_emptied.ensures.back c.put_back_emptied.new.seat.table_id
    c.args.pass.now.seen (is_some c.take.new.self)
    (c.put_back_emptied.ensures.same_seat.0 ∙ c.drop_shares.ensures.same_seat.0)
    (c.args.pass.now.has_seen ∙ ap (λ v. length v.seen) (sym was)) (ap (λ s. is_some s) c.take.ensures.after) in
    record {
      stands = kept.stands;
      sized = kept.sized;
      has_seen = kept.has_seen;
      idle = kept.idle;
      pinned = kept.pinned;
      guarded = kept.guarded;
    }

pub returns-in-Ok-clause-same : goal.returns-in-Ok-clause-same
returns-in-Ok-clause-same g c = record {
  table = c.put_back_grown.ensures.same_seat.0 ∙ c.drop_shares.ensures.same_seat.0;
  number = refl;
  lane = refl;
}

pub returns-in-Ok-clause-blank : goal.returns-in-Ok-clause-blank
returns-in-Ok-clause-blank g c = c.put_back_grown.ensures.back.blank

pub returns-in-Ok-clause-commits : goal.returns-in-Ok-clause-commits
returns-in-Ok-clause-commits g c =
    let held : c.args.pass.now.share ≡ Some c.in-Some.share = sym c.take.ensures.value ∙ c.in-Some.is in
    let shown : g.K.Kept.history (arc_value c.in-Some.share) ≡ c.args.pass.now.seat.me.0.seen =
    ap (λ x. share_history g.K.Kept.history x []) (sym held) ∙ c.requires.writing.shows in
    let r = c.in-Ok.ensures.record in let back = c.put_back_grown.ensures.back in
    let after = g.K.Kept.history (arc_value c.apply_alone.new.share) in record {
      value = arc_value c.in-Some.share;
      shown = (c.in-Some.share, held, refl);
      applied = arc_value c.apply_alone.new.share;
      gives = c.in-Ok.ensures.gives;
      seen = back_seen c.args.pass.now c.drop_shares.new.seat.me c.put_back_grown.new.seat.me after
          c.drop_shares.ensures.view back;
      entry = r.0;
      appends = appended g.K.Kept.maker c.drop_shares.new.seat.me c.put_back_grown.new.seat.me c.args.pass.now.seat.me.0
          after r.0 back c.drop_shares.ensures.view
          (r.1 ∙ ap (λ l. l ++ r.0 ∷ []) shown) (r.2 ∙ sym c.args.pass.now.stands.1);
    }

pub returns-in-Ok-clause-met : goal.returns-in-Ok-clause-met
returns-in-Ok-clause-met g c =
    ap (λ v. v.busy) c.put_back_grown.ensures.back.view ∙ ap (λ v. v.busy) c.drop_shares.ensures.view

pub returns-in-Ok-clause-had : goal.returns-in-Ok-clause-had
returns-in-Ok-clause-had g c = back_had c.args.pass.now c.drop_shares.new.seat.me c.put_back_grown.new.seat.me
    (g.K.Kept.history (arc_value c.apply_alone.new.share)) c.drop_shares.ensures.view c.put_back_grown.ensures.back

pub returns-in-Err-clause-same : goal.returns-in-Err-clause-same
returns-in-Err-clause-same g c = record {
  table = c.put_back_emptied.ensures.same_seat.0 ∙ c.drop_shares.ensures.same_seat.0;
  number = refl;
  lane = refl;
}

pub returns-in-Err-clause-blank : goal.returns-in-Err-clause-blank
returns-in-Err-clause-blank g c = c.put_back_emptied.ensures.back.blank

pub returns-in-Err-clause-err : goal.returns-in-Err-clause-err
returns-in-Err-clause-err g c = let was = c.drop_shares.ensures.view in
    back_history c.args.pass.now c.drop_shares.new.seat.me c.put_back_emptied.new.seat.me
    c.drop_shares.new.seat.me.0.seen was c.put_back_emptied.ensures.back (ap (λ v. v.seen) was)

pub returns-in-Err-clause-memory : goal.returns-in-Err-clause-memory
returns-in-Err-clause-memory g c = let held : c.args.pass.now.share ≡ Some c.in-Some.share =
    sym c.take.ensures.value ∙ c.in-Some.is in
    (arc_value c.in-Some.share, (c.in-Some.share, held, refl), c.in-Err.ensures.memory)

pub returns-in-Err-clause-met : goal.returns-in-Err-clause-met
returns-in-Err-clause-met g c =
    ap (λ v. v.busy) c.put_back_emptied.ensures.back.view ∙ ap (λ v. v.busy) c.drop_shares.ensures.view

pub returns-in-Err-clause-had : goal.returns-in-Err-clause-had
returns-in-Err-clause-had g c = back_had c.args.pass.now c.drop_shares.new.seat.me c.put_back_emptied.new.seat.me
    c.drop_shares.new.seat.me.0.seen c.drop_shares.ensures.view c.put_back_emptied.ensures.back
