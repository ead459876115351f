-- What a pass ends as where a write was refused.
use Rattle.std.specs.Prelude.{ℕ, Result, IfErr}
use Rattle.std.specs.Borrow.{Fml, RattleType, MutBor, RestsIfErr}
use Rattle.lane_lock.specs.declared.kept.Kept as kept
use Rattle.lane_lock.specs.declared.pass.Pass.{Pass}
use Rattle.lane_lock.specs.contracts.pass.Pass.{the_row}
use Rattle.lane_lock.specs.declared.refusal.Busy.{Busy}
use Rattle.lane_lock.specs.declared.write_guard.WriteGuard.{WriteGuard}
use Rattle.lane_lock.specs.Outcomes.{RefusesWrite}
use Rattle.lane_lock.specs.Passes.{SamePass, view_of}

module _ (K A S E : RattleType) (g : kept.Ghosts K.Denot A.Denot S.Denot E.Denot) (lanes : ℕ) where
  -- where the write was refused, the pass has made nothing and holds what it held; else it ends as it is once the guard
  -- is gone
  abbrev pub RestsUnlessWriting : MutBor (Pass K.Denot A.Denot S.Denot E.Denot g)
      → Result (WriteGuard K.Denot A.Denot S.Denot E.Denot g) Busy → Fml
  RestsUnlessWriting p r = RestsIfErr (the_row K A S E g) p (λ it. it.pass.ghost_name) r
      (λ last. IfErr r (λ b. SamePass p.now last × RefusesWrite (view_of p.now) (view_of last) lanes b))
