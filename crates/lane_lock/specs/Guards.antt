-- What a pass has under a guard.
use Rattle.std.specs.Prelude.{◌≡◌, ◌≢◌, ℕ, ◌-◌, ◌<◌, true, List, [], ◌∷◌, slice_index}
use Rattle.std.specs.Prelude.{Option, None, is_some}
use Rattle.std.specs.declared.sync.Arc.{Arc}
use Rattle.lane_lock.specs.Hands.{Stack, Shows}
use Rattle.lane_lock.specs.History.{StartsWith}
use Rattle.lane_lock.specs.Rule.{place}
use Rattle.lane_lock.specs.Steps.{Mine, share_history}
use Rattle.lane_lock.specs.Views.{IsLegal}

-- The pass has lane k alone, which it has emptied, and beside it a share of all that it has seen, which is legal for
-- it.
pub record HasOneLane {K E Z : Type 0} (hist : K → List E) (by : E
    → ℕ) (m : Mine K E Z) (k : ℕ) (share : Option (Arc K Z)) : Type 0 where
  pub there : is_some share ≡ true
  pub shows : share_history hist share [] ≡ m.0.seen
  pub opened : StartsWith m.0.seen m.0.opening
  pub legal : IsLegal by m.0
  pub hand : m.1 ≡ (place k, None) ∷ []
  pub held : slice_index m.0.held k ≢ 0
  pub alone : (i : ℕ) → i ≢ k → slice_index m.0.held i ≡ 0
  pub pinned : m.0.pin ≢ 0

-- The pass has all lanes. It has emptied lane 0, and has beside it a share of all that it has seen, which is legal for
-- it.
pub record HasAllLanes {K E Z : Type 0} (hist : K → List E) (by : E
    → ℕ) (lanes : ℕ) (m : Mine K E Z) (share : Option (Arc K Z)) : Type 0 where
  pub there : is_some share ≡ true
  pub shows : share_history hist share [] ≡ m.0.seen
  pub opened : StartsWith m.0.seen m.0.opening
  pub legal : IsLegal by m.0
  pub stack : Stack (Shows hist m.0.seen) (lanes - 1) m.1 ((0, None) ∷ [])
  pub held : (k : ℕ) → k < lanes → slice_index m.0.held k ≢ 0
  pub pinned : m.0.pin ≡ 1
