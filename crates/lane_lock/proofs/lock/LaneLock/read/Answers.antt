use Rattle.std.proofs.Common.{refl, sym, ◌∙◌}
use Rattle.lane_lock.proofs.Retries.{lane_then, none_had, none_then, owned_still, read_had, same_then, sees_same}
use Rattle.lane_lock.proofs.Retries.{sees_then, told_if_ok, told_if_refused}
use Rattle.lane_lock.proofs.lock.LaneLock.read.Goals as goal

pub loop-init : goal.loop-init
loop-init g c = record {
  can_next = tt;
  is_finite = tt;
  owned = c.requires;
  same = record { table = refl; number = refl; lane = refl };
  sees = sees_same c.args.pass.now.seat.me.0;
  had = none_had c.args.pass.now.seat.me.0;
}

pub start_read-requires : goal.start_read-requires
start_read-requires g c = c.loop.invariant.owned

pub invariant_of-result : goal.invariant_of-result
invariant_of-result g c = record {
  owned = owned_still c.args.self.now c.loop.pass c.start_read.new.pass c.loop.invariant.owned c.start_read.ensures.same
      c.start_read.ensures.sees;
}

pub returns-then-is_ok-clause-same_reference : goal.returns-then-is_ok-clause-same_reference
returns-then-is_ok-clause-same_reference g c = refl

pub returns-then-is_ok-clause-lock : goal.returns-then-is_ok-clause-lock
returns-then-is_ok-clause-lock g c = refl

pub returns-then-is_ok-clause-same_pass : goal.returns-then-is_ok-clause-same_pass
returns-then-is_ok-clause-same_pass g c =
    same_then c.args.pass.now c.loop.pass c.start_read.new.pass c.loop.invariant.same c.start_read.ensures.same

pub returns-then-is_ok-clause-reading : goal.returns-then-is_ok-clause-reading
returns-then-is_ok-clause-reading g c =
    told_if_ok c.start_read.result (sym c.is_ok.ensures.value ∙ c.if-is_ok.true) c.start_read.ensures.reading

pub returns-then-is_ok-clause-sees : goal.returns-then-is_ok-clause-sees
returns-then-is_ok-clause-sees g c =
    sees_then c.args.pass.now.seat.me.0 c.loop.pass.seat.me.0 c.start_read.new.pass.seat.me.0
    c.loop.invariant.sees c.start_read.ensures.sees

pub returns-then-is_ok-clause-had : goal.returns-then-is_ok-clause-had
returns-then-is_ok-clause-had g c =
    lane_then c.args.pass.now.seat.me.0 c.loop.pass.seat.me.0 c.start_read.new.pass.seat.me.0 c.loop.invariant.had
    (told_if_ok c.start_read.result (sym c.is_ok.ensures.value ∙ c.if-is_ok.true) c.start_read.ensures.had)

pub loop-preserved : goal.loop-preserved
loop-preserved g c = let i = c.loop.invariant in let e = c.start_read.ensures in record {
  can_next = tt;
  is_finite = tt;
  owned = owned_still c.args.self.now c.loop.pass c.start_read.new.pass i.owned e.same e.sees;
  same = same_then c.args.pass.now c.loop.pass c.start_read.new.pass i.same e.same;
  sees = sees_then c.args.pass.now.seat.me.0 c.loop.pass.seat.me.0 c.start_read.new.pass.seat.me.0 i.sees e.sees;
  had = none_then c.args.pass.now.seat.me.0 c.loop.pass.seat.me.0 c.start_read.new.pass.seat.me.0 i.had
      (told_if_refused c.start_read.result _ (sym c.is_ok.ensures.value ∙ c.if-is_ok.false)
      (read_had c.loop.pass.seat.me.0 c.start_read.new.pass.seat.me.0 c.loop.pass.lane) e.refused);
}
