-- What a lock gives back at its end.
use Rattle.std.specs.Prelude.{◌≡◌, ◌≢◌, ◌⊎◌, ℕ, ◌<◌, ◌≤◌, true, false, List, [], length}
use Rattle.std.specs.Prelude.{drop, slice_get, slice_index}
use Rattle.std.specs.Prelude.{Some, is_some}
use mathlib.Core.Option.{some}
use lib.ListN.{get_elem?}
use Rattle.std.specs.Arc.{arc_value}
use Rattle.lane_lock.specs.declared.kept.Kept as kept
use Rattle.lane_lock.specs.declared.lock.LaneLock.{LaneLock}
use Rattle.lane_lock.specs.declared.pass.Pass.{Pass}
use Rattle.lane_lock.specs.declared.refusal.CloseError.{CloseError}
use Rattle.lane_lock.specs.declared.refusal.CloseError.TheVariants as refusal
use Rattle.lane_lock.specs.declared.table.View.{View}
use Rattle.lane_lock.specs.declared.table.Known.{Known}
use Rattle.lane_lock.specs.History.{StartsWith, made_by, Legal}
use Rattle.lane_lock.specs.Passes.{opening_of, passes_of, view_of, number_of}

module _ {K A S E : Type 0} {g : kept.Ghosts K A S E} where
  -- one of the passes has this number
  abbrev pub HasNumber : List (Pass K A S E g) → ℕ → Type 0
  HasNumber passes n = (i : ℕ) × (p : Pass K A S E g) × (slice_get passes i ≡ Some p) × (p.number ≡ n)

  -- none of them has it
  abbrev pub IsAbsent : List (Pass K A S E g) → ℕ → Type 0
  IsAbsent passes n = (i : ℕ) (p : Pass K A S E g) → slice_get passes i ≡ Some p → p.number ≢ n

  -- none of the passes is under a guard
  abbrev pub AllIdle : List (Pass K A S E g) → Type 0
  AllIdle passes = (i : ℕ) (p : Pass K A S E g) → slice_get passes i ≡ Some p → is_some p.share ≡ false

  -- one of the passes is
  abbrev pub SomeBusy : List (Pass K A S E g) → Type 0
  SomeBusy passes = (i : ℕ) × (p : Pass K A S E g) × (slice_get passes i ≡ Some p) × (is_some p.share ≡ true)

  abbrev pub known_of : Pass K A S E g → Known E
  known_of p = record { number = p.seat.me.0.number; seen = p.seat.me.0.seen; made = p.seat.me.0.made }

  -- the view has these passes besides, and is otherwise as it was
  pub record Gathers (v : View E) (passes : List (Pass K A S E g)) (w : View E) : Type 0 where
    pub view : w ≡ record v { others = w.others }
    pub others : (i : ℕ) (p : Pass K A S E g) → slice_get passes i ≡ Some p
        → (j : ℕ) × (get_elem? w.others j ≡ some (known_of p))

  -- The history is the opening value's and then the records of all passes: of each just those that it made, in its
  -- order, and of no others. It begins with what each had seen.
  pub record EndsWith (lock : LaneLock K A S E) (passes : List (Pass K A S E g)) (history : List E) : Type 0 where
    pub opened : StartsWith history (opening_of g.history lock)
    pub all : (n : ℕ) → n < passes_of lock → HasNumber passes n
    pub each : (i : ℕ) (p : Pass K A S E g) → slice_get passes i ≡ Some p
        → Legal g.maker (length (opening_of g.history lock)) history (number_of p) (view_of p).seen (view_of p).made
    pub foreign : (n : ℕ) → passes_of lock ≤ n
        → made_by g.maker n (drop (length (opening_of g.history lock)) history) ≡ []

  -- a pass is missing, or holds a lane
  abbrev pub IsNotAll : LaneLock K A S E → List (Pass K A S E g) → Type 0
  IsNotAll lock passes = ((n : ℕ) × (n < passes_of lock) × IsAbsent passes n)
      ⊎ ((i : ℕ) × (p : Pass K A S E g) × (slice_get passes i ≡ Some p)
      × ((k : ℕ) × (slice_index (view_of p).held k ≢ 0)))

  -- lock and passes come back, since a pass is missing or holds a lane; or a share of the value at the lock's end
  abbrev pub GivesAllBack : LaneLock K A S E → List (Pass K A S E g) → CloseError K A S E g → Type 0
  GivesAllBack lock passes (refusal.NotAll back all) = (back ≡ lock) × (all.items ≡ passes) × IsNotAll lock passes
  GivesAllBack lock passes (refusal.Shared share) = EndsWith lock passes (g.history (arc_value share))
