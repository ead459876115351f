use Rattle.std.proofs.Common.{◌<◌, ℕ, rules, subst, arith, true, inl}
use Rattle.lane_lock.specs.Steps.{took}
use Rattle.lane_lock.proofs.Keeps.{can_take, lane_of_place}
use Rattle.lane_lock.proofs.steps.take_to_read.Goals as goal

pub compare_exchange-requires : goal.compare_exchange-requires
compare_exchange-requires g c = let t = c.requires.table in let p = c.requires.pass in
    let lane : c.args.lane < c.args.lanes.now.key.lanes = omega arith in (
      search rules,
      search rules,
      can_take _ _ _ _ true _ _ _ _ _ _ c.place.ensures p.0 (inl p.1) lane,
    )

pub returns-clause-told : goal.returns-clause-told
returns-clause-told g c = subst (λ (k : ℕ). took true g.K.Kept.history g.K.Kept.maker k c.args.word
    c.args.seat.now.me c.compare_exchange.result c.compare_exchange.new.seat.me) (lane_of_place _ _ c.place.ensures)
    c.compare_exchange.ensures.2
