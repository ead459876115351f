-- What a core tells through its lock: first what it was opened with, and then its records.
use Rattle.std.specs.Prelude.{ℕ, List, ◌∷◌, map}
use Rattle.iofd_words.specs.Record.{Record}
use Rattle.iofd_words.specs.Settings.{Settings}
use Rattle.iommufd_core.specs.History.{History}
use Rattle.guarded_core.specs.declared.kept_core.Entry.{Entry}
use Rattle.guarded_core.specs.declared.kept_core.Entry.TheVariants as entry

module _ {A : Type 0} where
  abbrev pub told : History A → List (Entry A)
  told h = entry.Opened h.settings ∷ map entry.Made h.records

  -- the number of the pass that made an entry; what stands first is nobody's, and isn't asked
  abbrev pub maker_of : Entry A → ℕ
  maker_of (entry.Opened settings) = 0
  maker_of (entry.Made made) = made.pass.0

  -- these records of a server that was opened with these settings
  abbrev pub history_of : Settings → List (Record A) → History A
  history_of settings records = record { settings = settings; records = records }
