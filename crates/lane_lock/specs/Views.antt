-- What a step makes of the view of the seat that makes it.
use Rattle.std.specs.Prelude.{◌≡◌, ◌≢◌, ℕ, ◌+◌, ◌==◌, Bool, true, false, if◌then◌else◌, List, []}
use Rattle.std.specs.Prelude.{◌∷◌, ◌++◌, length, drop, replicate, slice_index}
use Rattle.std.specs.Prelude.{slice_set, zero, suc}
use mathlib.Core.Option.{some}
use lib.ListN.{get_elem?}
use Rattle.lane_lock.specs.declared.table.View.{View}
use Rattle.lane_lock.specs.declared.table.Known.{Known}
use Rattle.lane_lock.specs.History.{made_by, longer}

-- the pin, or n where there is none
abbrev pub pin_or : ℕ → ℕ → ℕ
pin_or zero n = n
pin_or (suc m) n = suc m

module _ {E : Type 0} where
  -- how often a take to write had the last lane, once lane k was taken too, to read or to write
  abbrev pub writes_with : Bool → View E → ℕ → ℕ
  writes_with to_read v k =
      if to_read then v.writes else (if k + 1 == length v.held then v.writes + 1 else v.writes)

  -- the view, holding lane k by the word w, to read or to write
  abbrev pub holding : Bool → View E → ℕ → ℕ → View E
  holding to_read v k w = record v { held = slice_set v.held k w; writes = writes_with to_read v k }

  -- the view, holding lane k by the word w, that has seen the history h; a reader has what it came for
  abbrev pub seeing : Bool → View E → ℕ → ℕ → List E → View E
  seeing to_read v k w h = record v {
    held = slice_set v.held k w;
    seen = h;
    pin = pin_or v.pin (k + 1);
    reads = if to_read then v.reads + 1 else v.reads;
    writes = writes_with to_read v k;
  }

  -- the view after lane k was put back, pinned by pin
  abbrev pub freed : View E → ℕ → ℕ → View E
  freed v k pin = record v { held = slice_set v.held k 0; pin = pin }

  -- the view after lane k was put back with the history h, which one more record of its pass ends
  abbrev pub written : View E → ℕ → List E → ℕ → View E
  written v k h pin =
      record v { held = slice_set v.held k 0; seen = h; made = v.made ++ drop (length v.seen) h; pin = pin }

  -- one more take found a lane held: lane k, by the word w
  abbrev pub noted : View E → ℕ → ℕ → View E
  noted v k w = record v { busy = v.busy + 1; lane = k; word = w }

  -- lane k was taken and its slot was empty, which a reader notes
  abbrev pub found_empty : Bool → View E → ℕ → View E
  found_empty to_read v k = record v {
    empty = if to_read then v.empty + 1 else v.empty;
    empty_lane = if to_read then k else v.empty_lane;
  }

  -- of the records after the opening that the view has seen, those of its pass are those that it made
  abbrev pub IsLegal : (E → ℕ) → View E → Type 0
  IsLegal by v = made_by by v.number (drop (length v.opening) v.seen) ≡ v.made

  -- the pass holds no lane
  abbrev pub IsBlank : View E → Type 0
  IsBlank v = (k : ℕ) → slice_index v.held k ≡ 0

  abbrev pub tail : List (Known E) → List (Known E)
  tail [] = []
  tail (o ∷ os) = os

  -- a view that stands for no pass, and knows that the history begins so
  abbrev pub note_of : List E → View E
  note_of seen = record {
    stands = false;
    number = 0;
    opening = [];
    passes = 0;
    seen = seen;
    made = [];
    others = [];
    held = [];
    pin = 0;
    busy = 0;
    lane = 0;
    word = 0;
    empty = 0;
    empty_lane = 0;
    reads = 0;
    writes = 0;
  }

  -- the first of these passes, alone in a view
  abbrev pub alone : List E → ℕ → ℕ → List (Known E) → View E
  alone opening passes lanes [] = note_of []
  alone opening passes lanes (o ∷ os) = record {
    stands = true;
    number = o.number;
    opening = opening;
    passes = passes;
    seen = o.seen;
    made = o.made;
    others = [];
    held = replicate lanes 0;
    pin = 0;
    busy = 0;
    lane = 0;
    word = 0;
    empty = 0;
    empty_lane = 0;
    reads = 0;
    writes = 0;
  }

  -- the view without its first further pass, and that pass alone
  abbrev pub without_one : View E → View E
  without_one v = record v { others = tail v.others }

  abbrev pub first_alone : View E → View E
  first_alone v = alone v.opening v.passes (length v.held) v.others

  -- there is a first further pass, with a number of its own
  abbrev pub HasApart : View E → Type 0
  HasApart v = (o : Known E) × (v.others ≡ o ∷ tail v.others) × (v.number ≢ o.number)
      × ((i : ℕ) (u : Known E) → get_elem? (tail v.others) i ≡ some u → u.number ≢ o.number)

  -- a note of what the view has seen, for another pass to learn
  abbrev pub note : View E → View E
  note v = note_of v.seen

  abbrev pub learned : View E → View E → View E
  learned v w = record v { seen = longer v.seen w.seen }

  -- both passes in one view
  abbrev pub gathered : View E → View E → View E
  gathered v w = record v { others = v.others ++ record { number = w.number; seen = w.seen; made = w.made } ∷ [] }
