-- What a pass ends as where a read was refused.
use Rattle.std.specs.Prelude.{Result, IfErr}
use Rattle.std.specs.Borrow.{Fml, RattleType, MutBor, RestsIfErr}
use Rattle.lane_lock.specs.declared.kept.Kept as kept
use Rattle.lane_lock.specs.declared.pass.Pass.{Pass}
use Rattle.lane_lock.specs.contracts.pass.Pass.{the_row}
use Rattle.lane_lock.specs.declared.refusal.NotNow.{NotNow}
use Rattle.lane_lock.specs.declared.read_guard.ReadGuard.{ReadGuard}
use Rattle.lane_lock.specs.Outcomes.{RefusesRead}
use Rattle.lane_lock.specs.Passes.{SamePass, view_of}

module _ (K A S E : RattleType) (g : kept.Ghosts K.Denot A.Denot S.Denot E.Denot) where
  -- where the read was refused, the pass ends as it was but for what it notes; else it ends as it is once the guard is
  -- gone
  abbrev pub RestsUnlessReading : MutBor (Pass K.Denot A.Denot S.Denot E.Denot g)
      → Result (ReadGuard K.Denot A.Denot S.Denot E.Denot g) NotNow → Fml
  RestsUnlessReading p r = RestsIfErr (the_row K A S E g) p (λ it. it.pass.ghost_name) r
      (λ last. IfErr r (λ e. SamePass p.now last × RefusesRead (view_of p.now) (view_of last) p.now.lane e))
