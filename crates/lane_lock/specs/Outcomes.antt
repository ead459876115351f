-- What a call makes of what its pass knows: the view before, and the view after.
use Rattle.std.specs.Prelude.{◌≡◌, ◌≢◌, ℕ, ◌+◌, ◌-◌, ◌<◌, List, []}
use Rattle.std.specs.Prelude.{◌∷◌, ◌++◌, slice_index}
use Rattle.lane_lock.specs.declared.table.View.{View}
use Rattle.lane_lock.specs.declared.refusal.Busy.{Busy}
use Rattle.lane_lock.specs.declared.refusal.NotNow.{NotNow}
use Rattle.lane_lock.specs.declared.refusal.NotNow.TheVariants.{Shared}
use Rattle.lane_lock.specs.declared.refusal.NotNow.TheVariants as refusal
use Rattle.lane_lock.specs.History.{StartsWith}
use Rattle.lane_lock.specs.Rule.{Names}
use Rattle.lane_lock.specs.Hands.{Climbed}
use Rattle.lane_lock.specs.Steps.{Mine}
use Rattle.lane_lock.specs.Views.{noted}

module _ {E : Type 0} where
  -- the pass made no record, and has seen no less
  pub record OnlySees (v w : View E) : Type 0 where
    pub number : w.number ≡ v.number
    pub opening : w.opening ≡ v.opening
    pub passes : w.passes ≡ v.passes
    pub made : w.made ≡ v.made
    pub later : StartsWith w.seen v.seen

  -- the pass made no record, and has seen what it had seen
  pub record KeepsHistory (v w : View E) : Type 0 where
    pub number : w.number ≡ v.number
    pub opening : w.opening ≡ v.opening
    pub passes : w.passes ≡ v.passes
    pub made : w.made ≡ v.made
    pub seen : w.seen ≡ v.seen

  -- the pass holds the lanes that it held
  abbrev pub KeepsLanes : View E → View E → Type 0
  KeepsLanes v w = (k : ℕ) → slice_index w.held k ≡ slice_index v.held k

  -- One more take met a lane that was held: this lane, by this holder, a pass of the lock. It is another pass unless
  -- this one held the lane before.
  pub record MetHeld (v w : View E) (lane holder : ℕ) : Type 0 where
    pub counted : w.busy ≡ v.busy + 1
    pub noted : w.lane ≡ lane
    pub by_holder : Names holder w.word
    pub among : holder < v.passes
    pub own : holder ≡ v.number → slice_index v.held lane ≢ 0

  -- no take met a lane that was held
  abbrev pub MetNone : View E → View E → Type 0
  MetNone v w = w.busy ≡ v.busy

  -- one more take to read met a slot that was empty: this lane's, which isn't lane 0
  pub record MetEmpty (v w : View E) (lane : ℕ) : Type 0 where
    pub counted : w.empty ≡ v.empty + 1
    pub noted : w.empty_lane ≡ lane
    pub upper : lane ≢ 0

  -- no take of the pass to read had a share, and none to write the last lane
  pub record HadNone (v w : View E) : Type 0 where
    pub reads : w.reads ≡ v.reads
    pub writes : w.writes ≡ v.writes

  -- one take to read had a share, and none to write the last lane
  pub record HadLane (v w : View E) : Type 0 where
    pub reads : w.reads ≡ v.reads + 1
    pub writes : w.writes ≡ v.writes

  -- one take to write had the last lane, and none to read a share
  pub record HadAll (v w : View E) : Type 0 where
    pub reads : w.reads ≡ v.reads
    pub writes : w.writes ≡ v.writes + 1

  -- no take to read had a share, however often one to write had the last lane
  abbrev pub HadNoLane : View E → View E → Type 0
  HadNoLane v w = w.reads ≡ v.reads

  -- a read was refused: its lane was met held, or its slot empty
  abbrev pub RefusesRead : View E → View E → ℕ → NotNow → Type 0
  RefusesRead v w lane (refusal.Busy b) =
      KeepsHistory v w × KeepsLanes v w × (b.lane ≡ lane) × MetHeld v w lane b.holder.0
      × (w.empty ≡ v.empty) × HadNone v w
  RefusesRead v w lane Shared =
      KeepsHistory v w × KeepsLanes v w × MetEmpty v w lane × (w.busy ≡ v.busy) × HadNone v w

  -- a write was refused: a lane was held, and all lanes that were taken are home again
  abbrev pub RefusesWrite : View E → View E → ℕ → Busy → Type 0
  RefusesWrite v w lanes b =
      OnlySees v w × KeepsLanes v w × (b.lane < lanes) × MetHeld v w b.lane b.holder.0 × HadNone v w

  -- the pass has seen these records, and nothing else has changed
  abbrev pub Learns : View E → List E → View E → Type 0
  Learns v seen w = w ≡ record v { seen = seen }

  -- the pass made this record, which ends all that it has seen
  pub record Appends (by : E → ℕ) (v w : View E) (x : E) : Type 0 where
    pub number : w.number ≡ v.number
    pub opening : w.opening ≡ v.opening
    pub passes : w.passes ≡ v.passes
    pub seen : w.seen ≡ v.seen ++ x ∷ []
    pub made : w.made ≡ v.made ++ x ∷ []
    pub maker : by x ≡ v.number

-- a writer that took the lanes below b's by the word w met this lane held
pub record Stops {K E Z : Type 0} (hist : K → List E) (m : Mine K E Z) (w : ℕ) (b : Busy) (m' : Mine K E Z) : Type 0
  where
    pub above : 0 < b.lane
    pub before : Mine K E Z
    pub climbed : Climbed hist m w (b.lane - 1) before
    pub found : ℕ
    pub noting : m' ≡ (noted before.0 b.lane found, before.1)
    pub met : MetHeld m.0 m'.0 b.lane b.holder.0
