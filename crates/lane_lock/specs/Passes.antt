-- Passes, as the contracts of public calls see them.
use Rattle.std.specs.Prelude.{◌≡◌, ℕ, ◌%◌, List, [], length, slice_get, Some}
use Rattle.std.specs.Arc.{arc_value}
use Rattle.std.specs.declared.sync.Arc.{Arc}
use Rattle.std.specs.declared.alloc.Global.{Global}
use Rattle.lane_lock.specs.declared.kept.Kept as kept
use Rattle.lane_lock.specs.declared.lock.LaneLock.{LaneLock}
use Rattle.lane_lock.specs.declared.pass.Pass.{Pass}
use Rattle.lane_lock.specs.declared.refusal.CommitError.{CommitError}
use Rattle.lane_lock.specs.declared.refusal.CommitError.TheVariants.{Shared}
use Rattle.lane_lock.specs.declared.refusal.CommitError.TheVariants as refusal
use Rattle.lane_lock.specs.declared.table.View.{View}
use Rattle.lane_lock.specs.Guards.{HasOneLane, HasAllLanes}
use Rattle.lane_lock.specs.Outcomes.{Appends}
use Rattle.lane_lock.specs.Views.{IsBlank}

-- the history of the value that the lock was made with
abbrev pub opening_of : {K A S E : Type 0} → (K → List E) → LaneLock K A S E → List E
opening_of hist lock = hist lock.table.shared.key.value.value

abbrev pub lanes_of : {K A S E : Type 0} → LaneLock K A S E → ℕ
lanes_of lock = lock.lanes

abbrev pub passes_of : {K A S E : Type 0} → LaneLock K A S E → ℕ
passes_of lock = lock.passes

-- an act that failed so on the value: where it was for want of memory, memory may be wanting there
abbrev pub MayWant : {K A : Type 0} → (K → A → Type 0) → K → A → CommitError → Type 0
MayWant wants value act (refusal.Memory error) = wants value act
MayWant wants value act Shared = Unit {0}

module _ {K A S E : Type 0} {g : kept.Ghosts K A S E} where
  -- what the pass has seen and made, and which lanes it holds
  abbrev pub view_of : Pass K A S E g → View E
  view_of p = p.seat.me.0

  abbrev pub number_of : Pass K A S E g → ℕ
  number_of p = p.number

  abbrev pub lane_of : Pass K A S E g → ℕ
  lane_of p = p.lane

  -- the pass came from this lock's `new`
  pub record Owns (lock : LaneLock K A S E) (p : Pass K A S E g) : Type 0 where
    pub table : p.seat.table_id ≡ lock.table.shared.table_id
    pub opening : p.seat.me.0.opening ≡ opening_of g.history lock
    pub passes : p.seat.me.0.passes ≡ passes_of lock

  -- it is the same pass
  pub record SamePass (p q : Pass K A S E g) : Type 0 where
    pub table : q.seat.table_id ≡ p.seat.table_id
    pub number : q.number ≡ p.number
    pub lane : q.lane ≡ p.lane

  -- the pass is under a guard that reads
  abbrev pub IsReading : Pass K A S E g → Type 0
  IsReading p = HasOneLane g.history g.maker p.seat.me p.lane p.share

  -- the pass is under a guard of this lock that writes
  abbrev pub IsWriting : LaneLock K A S E → Pass K A S E g → Type 0
  IsWriting lock p = HasAllLanes g.history g.maker lock.lanes p.seat.me p.share

  -- the guard over the pass shows this value
  abbrev pub ShowsValue : Pass K A S E g → K → Type 0
  ShowsValue p value = (a : Arc K Global) × (p.share ≡ Some a) × (arc_value a ≡ value)

  -- Under the guard the act was applied to the value that the guard showed, and gave this stamp: one record was
  -- appended, which the pass made. All that the pass has seen is then the history of the new value.
  pub record Commits (before : Pass K A S E g) (act : A) (stamp : S) (after : Pass K A S E g) : Type 0 where
    pub value : K
    pub shown : ShowsValue before value
    pub applied : K
    pub gives : g.gives value before.number act stamp applied
    pub seen : (view_of after).seen ≡ g.history applied
    pub entry : E
    pub appends : Appends g.maker (view_of before) (view_of after) entry

  -- the pass is new: it has seen and made nothing, and holds no lane
  pub record IsNew (lock : LaneLock K A S E) (i : ℕ) (p : Pass K A S E g) : Type 0 where
    pub owned : Owns lock p
    pub number : p.number ≡ i
    pub lane : p.lane ≡ i % lock.lanes
    pub seen : p.seat.me.0.seen ≡ []
    pub made : p.seat.me.0.made ≡ []
    pub idle : IsBlank p.seat.me.0

  -- so many passes, each new, in the order of their numbers
  pub record AllNew (lock : LaneLock K A S E) (n : ℕ) (passes : List (Pass K A S E g)) : Type 0 where
    pub count : length passes ≡ n
    pub each : (i : ℕ) (p : Pass K A S E g) → slice_get passes i ≡ Some p → IsNew lock i p

  -- all these passes came from this lock's `new`
  abbrev pub OwnsAll : LaneLock K A S E → List (Pass K A S E g) → Type 0
  OwnsAll lock passes = (i : ℕ) (p : Pass K A S E g) → slice_get passes i ≡ Some p → Owns lock p
