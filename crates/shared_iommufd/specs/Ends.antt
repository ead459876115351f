-- What a server gives back at its end.
use Rattle.std.specs.Prelude.{◌≡◌, ℕ, ◌<◌, ◌≤◌, List, [], drop, slice_get, Some}
use Rattle.iofd_steps.specs.Run.{IsRun}
use Rattle.iommufd_core.specs.History.{History}
use Rattle.lane_lock.specs.Ending.{HasNumber}
use Rattle.lane_lock.specs.History.{Legal, made_by}
use Rattle.lane_lock.specs.Passes.{number_of, view_of}
use Rattle.guarded_core.specs.Entries.{maker_of, told}
use Rattle.guarded_core.specs.Opening.{opened_with}
use Rattle.guarded_core.specs.Passes.{CoreGhosts, CoreLock, CorePass}

module _ {A : Type 0} {g : CoreGhosts A} where
  -- The records of the server's core are a run of its settings. All passes are there, and of the records those of each
  -- are just those that it made, in its order, all of which it has seen; it has seen a beginning of them. There are no
  -- records of others.
  pub record Ends (lock : CoreLock A)
      (passes : List (CorePass A g)) (h : History A) : Type 0 where
    pub settings : h.settings ≡ (opened_with lock).settings
    pub run : IsRun h.settings h.records
    pub all : (n : ℕ) → n < h.settings.passes → HasNumber passes n
    pub each : (i : ℕ) (p : CorePass A g) → slice_get passes i ≡ Some p
        → Legal maker_of 1 (told h) (number_of p) (view_of p).seen (view_of p).made
    pub foreign : (n : ℕ) → h.settings.passes ≤ n → made_by maker_of n (drop 1 (told h)) ≡ []
