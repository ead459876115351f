-- Which lanes a call that doesn't wait met held.
use Rattle.std.proofs.Common.{◌≡◌, ℕ, ◌+◌, ◌<◌, ap, sym, subst, ◌∙◌}
use Rattle.iofd_words.specs.declared.refusal.NoMemory.{NoMemory}
use Rattle.lane_lock.specs.Outcomes.{MetHeld, MetNone, RefusesRead}
use Rattle.lane_lock.specs.Passes.{SamePass, view_of}
use Rattle.lane_lock.specs.declared.refusal.NotNow.{NotNow}
use Rattle.lane_lock.specs.declared.refusal.NotNow.TheVariants.{Shared}
use Rattle.lane_lock.specs.declared.refusal.NotNow.TheVariants as refusal
use Rattle.lane_lock.specs.declared.table.View.{View}
use Rattle.guarded_core.specs.Guarded.{RefusesCommit}
use Rattle.guarded_core.specs.Passes.{CoreGhosts, CorePass}
use Rattle.guarded_core.specs.declared.try_error.TryError.{TryError}
use Rattle.guarded_core.specs.declared.try_error.TryError.TheVariants as tried
use Rattle.shared_iommufd.specs.Met.{MetAsTold}
use Rattle.shared_iommufd.specs.Servers.{IsPassOf}
use Rattle.shared_iommufd.specs.declared.server.Server.{Server}

module _ {E : Type 0} where
  -- a read that was refused met its own lane, or none
  pub read_met : (C : Type 0) (v w : View E) (lane : ℕ) (refused : NotNow) → RefusesRead v w lane refused
      → MetAsTold {C = C} v w (tried.NotNow refused)
  read_met C v w lane (refusal.Busy busy) denied = subst (λ (n : ℕ). MetHeld v w n busy.holder.0) (sym denied.2) denied.3
  read_met C v w lane Shared denied = denied.3

  -- and a commit the one that it names, or none
  pub commit_met : (lanes : ℕ) (v w : View E) (error : TryError NoMemory) → RefusesCommit lanes v w error
      → MetAsTold v w error
  commit_met lanes v w (tried.NotNow (refusal.Busy busy)) denied = denied.3
  commit_met lanes v w (tried.NotNow Shared) denied = denied.1
  commit_met lanes v w (tried.Call no_memory) denied = denied.1

module _ {A : Type 0} {g : CoreGhosts A} where
  -- a take that met a lane held is the first that did where those before met none
  held_then : (server : Server A) (o p q : CorePass A g) (lane holder : ℕ) → IsPassOf server o → IsPassOf server p
      → SamePass o p → MetNone (view_of o) (view_of p) → MetHeld (view_of p) (view_of q) lane holder
      → MetHeld (view_of o) (view_of q) lane holder
  held_then server o p q lane holder first owned same none held =
      let passes : (view_of p).passes ≡ (view_of o).passes = owned.owned.passes ∙ sym first.owned.passes in
      let number : (view_of p).number ≡ (view_of o).number = p.stands.1 ∙ (same.number ∙ sym o.stands.1) in
      record {
        counted = held.counted ∙ ap (λ n. n + 1) none;
        noted = held.noted;
        by_holder = held.by_holder;
        among = subst (λ (n : ℕ). holder < n) passes held.among;
        own = λ is. absurd (held.own (is ∙ sym number) (owned.home lane));
      }

  -- what a call that met none before tells is what it met
  pub met_then : {C : Type 0} (server : Server A) (o p q : CorePass A g) (error : TryError C) → IsPassOf server o → IsPassOf server p
      → SamePass o p → MetNone (view_of o) (view_of p) → MetAsTold (view_of p) (view_of q) error
      → MetAsTold (view_of o) (view_of q) error
  met_then server o p q (tried.NotNow (refusal.Busy busy)) first owned same none held =
      held_then server o p q busy.lane busy.holder.0 first owned same none held
  met_then server o p q (tried.NotNow Shared) first owned same none met = met ∙ none
  met_then server o p q (tried.Call cause) first owned same none met = met ∙ none
