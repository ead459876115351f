-- What each step on the table asks, and what it tells the seat that makes it.
use Rattle.std.specs.Prelude.{◌≡◌, ◌≢◌, ℕ, Bool, ◌-◌, ◌<◌, List, [], ◌∷◌, ◌++◌, slice_index}
use Rattle.std.specs.Prelude.{slice_set, Option, Some, None}
use Rattle.std.specs.Arc.{arc_value}
use Rattle.std.specs.declared.sync.Arc.{Arc}
use Rattle.atomic_table.specs.declared.shared.Seat.{Seat}
use Rattle.atomic_table.specs.Table.{Me, rest}
use Rattle.lane_lock.specs.declared.table.View.{View}
use Rattle.lane_lock.specs.History.{StartsWith}
use Rattle.lane_lock.specs.Rule.{Names, place}
use Rattle.lane_lock.specs.Views.{holding, seeing, freed, written, noted, found_empty, IsLegal}

-- what a seat knows, and the slots that it has taken, the last one in front
abbrev pub Mine : Type 0 → Type 0 → Type 0 → Type 0
Mine K E Z = Me (Option (Arc K Z)) (View E)

-- it is the same seat
abbrev pub SameSeat : {S V : Type 0} → Seat S V → Seat S V → Type 0
SameSeat old new = (new.table_id ≡ old.table_id) × (new.id ≡ old.id)

module _ {K E Z : Type 0} where
  -- A lane was taken, to read or to write, whose slot has x. With a share its history is seen, which begins with the
  -- opening one and is legal for the pass; if a lane pins what it has seen, it has seen it all before. Lane 0 always
  -- has one.
  abbrev pub Takes : Bool → (K → List E) → (E → ℕ) → View E → ℕ → ℕ → Option (Arc K Z) → View E → Type 0
  Takes to_read hist by v k w None v' = (v' ≡ found_empty to_read (holding to_read v k w) k) × (k ≢ 0)
  Takes to_read hist by v k w (Some a) v' =
      (v' ≡ seeing to_read v k w (hist (arc_value a))) × StartsWith (hist (arc_value a)) v.seen × IsLegal by v'
      × (v.pin ≢ 0 → hist (arc_value a) ≡ v.seen) × StartsWith (hist (arc_value a)) v.opening

  -- Taking lane k by the word w, to read or to write. At 0 it was at home, and the pass has it and what its slot had;
  -- at another word it was held, and the pass notes that. The word names a pass of the lock, and this pass only if it
  -- held the lane.
  abbrev pub took : Bool → (K → List E) → (E → ℕ) → ℕ → ℕ → Mine K E Z → ℕ → Mine K E Z → Type 0
  took to_read hist by k w m r m' =
      (r ≡ 0 → (x : Option (Arc K Z)) × (m'.1 ≡ (place k, x) ∷ m.1) × Takes to_read hist by m.0 k w x m'.0
      × (slice_index m.0.held k ≡ 0))
      × (r ≢ 0 → (m' ≡ (noted m.0 k r, m.1)) × ((q : ℕ) × (q < 1024) × Names q r)
      × (Names m.0.number r → slice_index m.0.held k ≡ r) × ((q : ℕ) → Names q r → q < m.0.passes))

  -- the history of a share, or h where there is none
  abbrev pub share_history : (K → List E) → Option (Arc K Z) → List E → List E
  share_history hist None h = h
  share_history hist (Some a) h = hist (arc_value a)

  -- what a pass may put back on lane k: a share of the history, all of which it has seen, or nothing
  abbrev pub IsShare : (K → List E) → View E → ℕ → Option (Arc K Z) → Type 0
  IsShare hist v k None = k ≢ 0
  IsShare hist v k (Some a) = (v.pin ≢ 0) × (hist (arc_value a) ≡ v.seen)

  -- lane k was taken last, and can be put back
  abbrev pub Offers : (K → List E) → View E → ℕ → List (ℕ × Option (Arc K Z)) → Type 0
  Offers hist v k hand = (x : Option (Arc K Z)) × (hand ≡ (place k, x) ∷ rest hand) × IsShare hist v k x

  -- lane k was put back, and no lane pins what the pass has seen any more
  abbrev pub ended : ℕ → Mine K E Z → Mine K E Z → Type 0
  ended k m m' = m' ≡ (freed m.0 k 0, rest m.1)

  -- lane k was put back, while another pins what the pass has seen
  abbrev pub returned : ℕ → Mine K E Z → Mine K E Z → Type 0
  returned k m m' = m' ≡ (freed m.0 k m.0.pin, rest m.1)

  -- the history of the share that was taken last
  abbrev pub top_history : (K → List E) → List (ℕ × Option (Arc K Z)) → List E → List E
  top_history hist [] h = h
  top_history hist (x ∷ xs) h = share_history hist x.1 h

  -- lane 0 can be put back with one more record: its share shows all that the pass has seen, and one more record of the
  -- pass
  abbrev pub Writes : (K → List E) → (E → ℕ) → Mine K E Z → Type 0
  Writes hist by m = (a : Arc K Z) × (x : E) × (m.1 ≡ (0, Some a) ∷ rest m.1)
      × (hist (arc_value a) ≡ m.0.seen ++ x ∷ []) × (by x ≡ m.0.number)

  -- Lane 0, of so many, was put back with one more record. Lane 1, if there is one, now pins what the pass has seen,
  -- and else no lane does.
  abbrev pub committed : (K → List E) → ℕ → Mine K E Z → Mine K E Z → Type 0
  committed hist lanes m m' =
      (m' ≡ (written m.0 0 (top_history hist m.1 m.0.seen) m'.0.pin, rest m.1))
      × (1 < lanes → m'.0.pin ≡ 2)
      × (m'.0.pin ≢ 0 → slice_index (slice_set m.0.held 0 0) (m'.0.pin - 1) ≢ 0)
