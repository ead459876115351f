-- Servers, as contracts see them.
use Rattle.std.specs.Prelude.{◌≡◌, ℕ, List, slice_get, Some}
use Rattle.iofd_words.specs.Settings.{Settings}
use Rattle.lane_lock.specs.Passes.{Owns, view_of}
use Rattle.lane_lock.specs.Views.{IsBlank}
use Rattle.shared_iommufd.specs.declared.server.Server.{Server}
use Rattle.guarded_core.specs.Opening.{opened_with}
use Rattle.guarded_core.specs.Passes.{CoreGhosts, CorePass}

-- what the server was opened with
abbrev pub settings_of : {A : Type 0} → Server A → Settings
settings_of server = (opened_with server.lock).settings

module _ {A : Type 0} {g : CoreGhosts A} where
  -- the pass came from this server's `new`, and holds no lane
  pub record IsPassOf (server : Server A) (pass : CorePass A g) : Type 0 where
    pub owned : Owns server.lock pass
    pub home : IsBlank (view_of pass)

  -- so are all these passes
  abbrev pub ArePassesOf : Server A → List (CorePass A g) → Type 0
  ArePassesOf server passes = (i : ℕ) (pass : CorePass A g) → slice_get passes i ≡ Some pass → IsPassOf server pass
