-- What is kept for a world of a run is orderly.
use Rattle.std.proofs.Common.{ℕ}
use Rattle.iofd_words.specs.World.{World}
use Rattle.server_state.specs.Shows.{Shows}
use Rattle.server_state.specs.Spaces.{IsOrderly}
use Rattle.server_state.specs.Step.{IsTidy}
use Rattle.server_state.specs.declared.state.State.{State}

module _ {A : Type 0} where
  pub orderly : (at : ℕ) (w : World) (s : State A) → IsTidy at w → Shows w s → IsOrderly s.objects
  orderly at w s tidy shows = record { ids = rw shows.objects.rows at tidy.ids }
