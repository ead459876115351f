-- What is left of a lock at its end.
use Rattle.std.specs.Prelude.{◌≡◌, ◌⊎◌, ℕ, ◌<◌, ◌≤◌, true, List, [], length, drop, slice_index}
use mathlib.Core.Option.{some}
use lib.ListN.{get_elem?}
use Rattle.lane_lock.specs.declared.table.View.{View}
use Rattle.lane_lock.specs.declared.table.Known.{Known}
use Rattle.lane_lock.specs.declared.table.Setup.{Setup}
use Rattle.lane_lock.specs.History.{StartsWith, made_by, Legal}

-- every pass stands in this view, which holds no lane
pub record AllHere {E : Type 0} (passes : ℕ) (v : View E) : Type 0 where
  pub stands : v.stands ≡ true
  pub blank : (k : ℕ) → slice_index v.held k ≡ 0
  pub all : (p : ℕ) → p < passes → (p ≡ v.number)
      ⊎ ((i : ℕ) × (o : Known E) × (get_elem? v.others i ≡ some o) × (p ≡ o.number))

-- the history h is the opening one and then the records of all passes of the view, each once and no others, and begins
-- with what each had seen
pub record Closes {K E : Type 0} (hist : K → List E) (by : E → ℕ) (key : Setup K) (v : View E) (h : List E) : Type 0
  where
    pub opened : StartsWith h (hist key.value.value)
    pub mine : Legal by (length (hist key.value.value)) h v.number v.seen v.made
    pub others : (i : ℕ) (o : Known E) → get_elem? v.others i ≡ some o
        → Legal by (length (hist key.value.value)) h o.number o.seen o.made
    pub foreign : (p : ℕ) → key.passes ≤ p → made_by by p (drop (length (hist key.value.value)) h) ≡ []
