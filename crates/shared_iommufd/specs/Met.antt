-- Which lanes a call that doesn't wait met held.
use Rattle.lane_lock.specs.Outcomes.{MetHeld, MetNone}
use Rattle.lane_lock.specs.declared.refusal.NotNow.TheVariants as refusal
use Rattle.lane_lock.specs.declared.table.View.{View}
use Rattle.guarded_core.specs.declared.try_error.TryError.{TryError}
use Rattle.guarded_core.specs.declared.try_error.TryError.TheVariants as tried

-- a call that tells this error met the lane held that it names, once and by that holder; and where it names none, none
abbrev pub MetAsTold : {C E : Type 0} → View E → View E → TryError C → Type 0
MetAsTold v w (tried.NotNow (refusal.Busy busy)) = MetHeld v w busy.lane busy.holder.0
MetAsTold v w (tried.NotNow refusal.Shared) = MetNone v w
MetAsTold v w (tried.Call cause) = MetNone v w
