-- What a pass has seen and made once its guard is gone, over any kept value.
use Rattle.std.specs.Prelude.{◌≡◌, ℕ, [], ◌∷◌, ◌++◌, length, drop}
use Rattle.iofd_words.specs.declared.refusal.NoMemory.{NoMemory}
use Rattle.lane_lock.specs.History.{Legal, StartsWith, made_by}
use Rattle.lane_lock.specs.Outcomes.{HadAll, MetNone, OnlySees, RefusesWrite}
use Rattle.lane_lock.specs.Passes.{number_of, opening_of, view_of}
use Rattle.lane_lock.specs.Views.{IsBlank}
use Rattle.lane_lock.specs.declared.kept.Kept as kept
use Rattle.lane_lock.specs.declared.lock.LaneLock.{LaneLock}
use Rattle.lane_lock.specs.declared.pass.Pass.{Pass}
use Rattle.lane_lock.specs.declared.refusal.NotNow.TheVariants.{Shared}
use Rattle.lane_lock.specs.declared.refusal.NotNow.TheVariants as refusal
use Rattle.lane_lock.specs.declared.table.View.{View}
use Rattle.guarded_core.specs.declared.try_error.TryError.{TryError}
use Rattle.guarded_core.specs.declared.try_error.TryError.TheVariants as tried

module _ {K A S E : Type 0} {g : kept.Ghosts K A S E} where
  -- The pass was shown this value, and has seen just its history, which begins as the lock's did and is legal for it.
  -- It holds no lane now.
  pub record Shown (lock : LaneLock K A S E) (p : Pass K A S E g) (value : K) : Type 0 where
    pub seen : (view_of p).seen ≡ g.history value
    pub opened : StartsWith (g.history value) (opening_of g.history lock)
    pub legal : Legal g.maker (length (opening_of g.history lock)) (g.history value) (number_of p)
        (view_of p).seen (view_of p).made
    pub home : IsBlank (view_of p)

  -- The act was applied to a value whose history begins as the lock's did, and with all that the pass had seen; of its
  -- entries those of the pass are just those that it had made. The pass made one entry more, which ends what it has
  -- seen now, the history of the value after the act, and it holds no lane.
  pub record Committed (lock : LaneLock K A S E) (p : Pass K A S E g) (act : A) (stamp : S) (q : Pass K A S E g)
      : Type 0 where
    pub before : K
    pub after : K
    pub entry : E
    pub opened : StartsWith (g.history before) (opening_of g.history lock)
    pub later : StartsWith (g.history before) (view_of p).seen
    pub mine : made_by g.maker (number_of p) (drop (length (opening_of g.history lock)) (g.history before))
        ≡ (view_of p).made
    pub gives : g.gives before (number_of p) act stamp after
    pub seen : (view_of q).seen ≡ g.history after
    pub grown : (view_of q).seen ≡ g.history before ++ entry ∷ []
    pub own : (view_of q).made ≡ (view_of p).made ++ entry ∷ []
    pub home : IsBlank (view_of q)

-- Nothing was made, where so many lanes are: one of them was met held; or none was, the pass had all lanes once, and a
-- share of the value was still held elsewhere, or memory was wanting, and all lanes are home again.
abbrev pub RefusesCommit : {E : Type 0} → ℕ → View E → View E → TryError NoMemory → Type 0
RefusesCommit lanes v w (tried.NotNow (refusal.Busy busy)) = RefusesWrite v w lanes busy
RefusesCommit lanes v w (tried.NotNow Shared) = OnlySees v w × MetNone v w × IsBlank w × HadAll v w
RefusesCommit lanes v w (tried.Call no_memory) = OnlySees v w × MetNone v w × IsBlank w × HadAll v w
