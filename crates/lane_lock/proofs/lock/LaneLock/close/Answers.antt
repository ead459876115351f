use Rattle.std.proofs.Common.{inl, inr, refl, rules, ap, ◌∙◌}
use Rattle.lane_lock.proofs.Gathered.{all_here, ends_with}
use Rattle.lane_lock.proofs.PassLists.{last_at, front_at}
use Rattle.lane_lock.proofs.lock.LaneLock.close.Goals as goal
use Rattle.lane_lock.proofs.lock.LaneLock.close.Goals.{then-not-are_idle-via-then-not-are_idle}
use Rattle.lane_lock.proofs.lock.LaneLock.close.Goals.{then-not-are_idle-via-else-not-are_idle+then-not-are_all}

pub returns-then-not-are_idle-clause-refused : goal.returns-then-not-are_idle-clause-refused
returns-then-not-are_idle-clause-refused g c = (
  refl,
  refl,
  elim c.then-not-are_idle.branch [
    | then-not-are_idle-via-then-not-are_idle w ↦ let b =
        w.if-not-are_idle.ensures in inr (b.0, b.1, b.2, (b.1.lane, b.1.guarded b.3))
    | then-not-are_idle-via-else-not-are_idle+then-not-are_all w ↦ inl w.if-not-are_all.ensures
  ],
)

pub into_seat-requires : goal.into_seat-requires
into_seat-requires g c = c.if-not-are_idle.ensures _ _ (last_at _ _ _ c.in-Some.ensures.items)

pub gather_all-seat-requires-clause-table : goal.gather_all-seat-requires-clause-table
gather_all-seat-requires-clause-table g c = (
  ap (λ s. s.table_id) c.into_seat.ensures.seat ∙ (c.requires _ _ (last_at _ _ _ c.in-Some.ensures.items)).table,
  search rules,
)

pub gather_all-seat-requires-clause-owned : goal.gather_all-seat-requires-clause-owned
gather_all-seat-requires-clause-owned g c =
    λ i p e. (c.requires i p (front_at _ _ _ p i c.in-Some.ensures.items e)).table

pub gather_all-seat-requires-clause-idle : goal.gather_all-seat-requires-clause-idle
gather_all-seat-requires-clause-idle g c =
    λ i p e. c.if-not-are_idle.ensures i p (front_at _ _ _ p i c.in-Some.ensures.items e)

pub finish-requires : goal.finish-requires
finish-requires g c = (
  c.gather_all-seat.ensures.same_seat ∙ (ap (λ s. s.table_id) c.into_seat.ensures.seat
      ∙ (c.requires _ _ (last_at _ _ _ c.in-Some.ensures.items)).table),
  all_here c.args.self c.args.passes.items _ c.in-Some.last c.in-Some.ensures.items _ _
      (ap (λ s. s.me.0) c.into_seat.ensures.seat) c.gather_all-seat.ensures.gathered c.if-not-are_all.ensures
      c.if-not-are_idle.ensures,
)

pub returns-in-Ok-clause-ends : goal.returns-in-Ok-clause-ends
returns-in-Ok-clause-ends g c =
    ends_with c.args.self c.args.passes.items _ c.in-Some.last c.in-Some.ensures.items _ _
    (ap (λ s. s.me.0) c.into_seat.ensures.seat) c.gather_all-seat.ensures.gathered
    c.if-not-are_all.ensures _ c.in-Ok.ensures

pub returns-in-Err-clause-refused : goal.returns-in-Err-clause-refused
returns-in-Err-clause-refused g c =
    ends_with c.args.self c.args.passes.items _ c.in-Some.last c.in-Some.ensures.items _ _
    (ap (λ s. s.me.0) c.into_seat.ensures.seat) c.gather_all-seat.ensures.gathered
    c.if-not-are_all.ensures _ c.in-Err.ensures
