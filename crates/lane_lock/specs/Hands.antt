-- The slots that a writer has taken.
use Rattle.std.specs.Prelude.{◌≡◌, ◌⊎◌, ℕ, ◌+◌, ◌<◌, ◌≤◌, List, [], ◌∷◌, ◌++◌, length}
use Rattle.std.specs.Prelude.{drop, slice_index, Option, Some, None}
use Rattle.std.specs.Prelude.{zero, suc}
use Rattle.std.specs.Arc.{arc_value}
use Rattle.std.specs.declared.sync.Arc.{Arc}
use Rattle.atomic_table.specs.Table.{rest}
use Rattle.lane_lock.specs.Rule.{place}
use Rattle.lane_lock.specs.Steps.{Mine}

module _ {K Z : Type 0} where
  -- a share of this history, or none
  abbrev pub Shows : {E : Type 0} → (K → List E) → List E → Option (Arc K Z) → Type 0
  Shows hist h None = Unit {0}
  Shows hist h (Some a) = hist (arc_value a) ≡ h

  -- whatever a slot has
  abbrev pub Anything : Option (Arc K Z) → Type 0
  Anything x = Unit {0}

  -- the lanes from n down to 1 were taken last, the highest in front, each with something in its slot of which P holds;
  -- below them lies the rest
  abbrev pub Stack : (Option (Arc K Z) → Type 0) → ℕ → List (ℕ × Option (Arc K Z)) →
      List (ℕ × Option (Arc K Z))
      → Type 0
  Stack P zero hand below = hand ≡ below
  Stack P (suc n) hand below =
      (x : Option (Arc K Z)) × (hand ≡ (place (suc n), x) ∷ rest hand) × P x × Stack P n (rest hand) below

  -- of the lanes from n down to 1 those above k were emptied and lie behind lane 0
  pub record Dropped (n k : ℕ) (hand : List (ℕ × Option (Arc K Z))) : Type 0 where
    pub back : List (ℕ × Option (Arc K Z))
    pub stack : Stack Anything k hand ((0, None) ∷ back)
    pub rests : (tl : List (ℕ × Option (Arc K Z))) → Stack Anything k tl [] → Stack Anything n (back ++ tl) []

module _ {K E Z : Type 0} where
  -- The pass has taken the lanes from 1 up to n by the word w. With the last lane it has had all lanes once more, and
  -- not before. What it knows is otherwise as in m.
  pub record Climbed (hist : K → List E) (m : Mine K E Z) (w n : ℕ) (m' : Mine K E Z) : Type 0 where
    pub stack : Stack (Shows hist m.0.seen) n m'.1 m.1
    pub view : m'.0 ≡ record m.0 { held = m'.0.held; writes = m'.0.writes }
    pub not_all : (n ≡ 0) ⊎ (n + 1 < length m.0.held) → m'.0.writes ≡ m.0.writes
    pub all : 0 < n → n + 1 ≡ length m.0.held → m'.0.writes ≡ m.0.writes + 1
    pub long : length m'.0.held ≡ length m.0.held
    pub low : (k : ℕ) → 0 < k → k ≤ n → (slice_index m'.0.held k ≡ w) × (slice_index m.0.held k ≡ 0)
    pub else_same : (k : ℕ) → (k ≡ 0) ⊎ (n < k) → slice_index m'.0.held k ≡ slice_index m.0.held k

  -- of the lanes from n down to 1 the pass has put back those above k, and what it knows is otherwise as in m
  pub record Lowered (P : Option (Arc K Z) → Type 0) (n k : ℕ) (m m' : Mine K E Z) : Type 0 where
    pub stack : Stack P k m'.1 (drop n m.1)
    pub view : m'.0 ≡ record m.0 { held = m'.0.held }
    pub long : length m'.0.held ≡ length m.0.held
    pub high : (j : ℕ) → k < j → j ≤ n → slice_index m'.0.held j ≡ 0
    pub else_same : (j : ℕ) → (j ≤ k) ⊎ (n < j) → slice_index m'.0.held j ≡ slice_index m.0.held j

  -- all lanes were put back, with the history h, and what the pass made grew by what h has more than the pass had seen
  pub record AllBack (m : Mine K E Z) (h : List E) (m' : Mine K E Z) : Type 0 where
    pub view : m'.0 ≡ record m.0 {
      held = m'.0.held;
      seen = h;
      made = m.0.made ++ drop (length m.0.seen) h;
      pin = m'.0.pin;
    }
    pub hand : m'.1 ≡ []
    pub long : length m'.0.held ≡ length m.0.held
    pub blank : (k : ℕ) → slice_index m'.0.held k ≡ 0
    pub unpinned : m'.0.pin ≡ 0
