-- The rule of a lock: what its words, its slots and the views of its passes have to do with one history. Every step
-- keeps it.
use Rattle.std.specs.Prelude.{◌≡◌, ◌≢◌, ◌⊎◌, ℕ, ◌+◌, ◌-◌, ◌*◌, ◌/◌, ◌<◌, ◌≤◌}
use Rattle.std.specs.Prelude.{true, List, [], ◌∷◌, length, drop, replicate}
use Rattle.std.specs.Prelude.{slice_index, Option, Some, None, zero, suc}
use mathlib.Core.Option.{some, none}
use lib.ListN.{get_elem?}
use Rattle.std.specs.Arc.{arc_value}
use Rattle.std.specs.declared.sync.Arc.{Arc}
use Rattle.atomic_table.specs.Table.{State}
use Rattle.lane_lock.specs.declared.table.View.{View}
use Rattle.lane_lock.specs.declared.table.Known.{Known}
use Rattle.lane_lock.specs.declared.table.Setup.{Setup}
use Rattle.lane_lock.specs.History.{StartsWith, made_by, Legal}

-- where in the table lane k has its word, and where its slot: 8 apart, so that no two lanes share a line of cache
abbrev pub place : ℕ → ℕ
place k = k * 8

-- the lane of a place
abbrev pub lane_at : ℕ → ℕ
lane_at i = i / 8

-- the word says that pass p has the lane, to read or to write
abbrev pub Names : ℕ → ℕ → Type 0
Names p w = (w ≡ 2 * p + 1) ⊎ (w ≡ 2 * p + 2)

-- What seat j knows, by its view: each pass in it has its seat here, and the history is legal for it; a lane that it
-- holds has its word; and a pin says that it has seen the whole history, while it holds the lane of the pin.
module _ {E : Type 0} (by : E → ℕ) (lanes passes : ℕ) (opening : List E) (seat : ℕ
    → ℕ) (history : List E) (words : List ℕ) (j : ℕ) where
  pub record Knows (v : View E) : Type 0 where
    pub begins : StartsWith history v.seen
    pub stands : v.stands ≡ true → (v.number < passes) × (seat v.number ≡ j)
        × ((v.opening ≡ opening) × (v.passes ≡ passes)) × (length v.held ≡ lanes)
        × Legal by (length opening) history v.number v.seen v.made
    pub others : (i : ℕ) (o : Known E) → get_elem? v.others i ≡ some o →
        (o.number < passes) × (seat o.number ≡ j)
        × Legal by (length opening) history o.number o.seen o.made
    pub held : (k : ℕ) → slice_index v.held k ≢ 0 →
        (slice_index words (place k) ≡ slice_index v.held k) × (v.stands ≡ true)
        × Names v.number (slice_index v.held k)
    pub pin : v.pin ≢ 0 → (history ≡ v.seen) × (slice_index v.held (v.pin - 1) ≢ 0)

-- the view of seat j stands for pass q, which holds lane k by the word w
abbrev pub Has : {E : Type 0} → List (View E) → ℕ → ℕ → ℕ → ℕ → Type 0
Has {E} views j q k w =
    (v : View E) × (get_elem? views j ≡ some v) × (v.stands ≡ true) × (v.number ≡ q)
    × (slice_index v.held k ≡ w)

-- There is one history, which begins with the opening value's, and a seat for each pass. A lane with the word 0 is at
-- home, and its slot has a share of a value with that history, or is empty, but lane 0's never is. A lane with another
-- word is out with the pass that the word names. Each seat knows what its view says, and the history has no records of
-- passes that aren't there.
pub record Ruled {K E Z : Type 0} (hist : K → List E) (by : E
    → ℕ) (key : Setup K) (s : State (Option (Arc K Z)) (View E)) : Type 0 where
  pub history : List E
  pub seat : ℕ → ℕ
  pub wide : length s.words ≡ place key.lanes
  pub deep : length s.homes ≡ place key.lanes
  pub few : (0 < key.lanes) × (key.passes ≤ 1024)
  pub opened : StartsWith history (hist key.value.value)
  pub home : (k : ℕ) → k < key.lanes → slice_index s.words (place k) ≡ 0
      → (x : Option (Arc K Z)) × (get_elem? s.homes (place k) ≡ some (some x))
  pub out : (k : ℕ) → slice_index s.words (place k) ≢ 0 → get_elem? s.homes (place k) ≡ some none
  pub shown : (k : ℕ) (a : Arc K Z) → get_elem? s.homes (place k) ≡ some (some (Some a)) →
      hist (arc_value a) ≡ history
  pub filled : get_elem? s.homes 0 ≢ some (some None)
  pub named : (k : ℕ) → slice_index s.words (place k) ≢ 0 →
      (q : ℕ) × (q < key.passes) × Names q (slice_index s.words (place k))
      × Has s.views (seat q) q k (slice_index s.words (place k))
  pub each : (j : ℕ) (v : View E) → get_elem? s.views j ≡ some v
      → Knows by key.lanes key.passes (hist key.value.value) seat history s.words j v
  pub foreign : (p : ℕ) → key.passes ≤ p → made_by by p (drop (length (hist key.value.value)) history) ≡ []

-- the passes from p on, n of them, which have seen and made nothing
abbrev pub crowd : {E : Type 0} → ℕ → ℕ → List (Known E)
crowd p zero = []
crowd p (suc n) = record { number = p; seen = []; made = [] } ∷ crowd (p + 1) n

-- a pass that has seen and made nothing and holds no lane, and further passes
abbrev pub newcomer : {E : Type 0} → ℕ → List E → ℕ → ℕ → List (Known E) → View E
newcomer p opening passes lanes others = record {
  stands = true;
  number = p;
  opening = opening;
  passes = passes;
  seen = [];
  made = [];
  others = others;
  held = replicate lanes 0;
  pin = 0;
  busy = 0;
  lane = 0;
  word = 0;
  empty = 0;
  empty_lane = 0;
  reads = 0;
  writes = 0;
}

-- the view of the first seat: the last pass, and all others before it
abbrev pub starting : {K E : Type 0} → (K → List E) → Setup K → View E
starting hist key = newcomer (key.passes - 1) (hist key.value.value) key.passes key.lanes (crowd 0 (key.passes - 1))

-- what a table begins with: lanes at home, each with a share of the opening value or none, and lane 0 with one
pub record Opens {K E Z : Type 0} (hist : K
    → List E) (key : Setup K) (words : List ℕ) (slots : List (Option (Arc K Z))) : Type 0 where
  pub wide : length words ≡ place key.lanes
  pub deep : length slots ≡ place key.lanes
  pub few : (0 < key.lanes) × (key.passes ≤ 1024)
  pub some_pass : 0 < key.passes
  pub blank : (k : ℕ) → slice_index words k ≡ 0
  pub shares : (k : ℕ) (a : Arc K Z) → get_elem? slots k ≡ some (Some a) →
      hist (arc_value a) ≡ hist key.value.value
  pub first : get_elem? slots 0 ≢ some None
