-- What a pass makes from one moment to a later one, and where it stands.
use Rattle.std.specs.Prelude.{◌≡◌, ℕ, Option, Some, None, List, [], ◌∷◌, ◌++◌, length, map}
use Rattle.iofd_words.specs.Record.{Record}
use Rattle.iofd_words.specs.Settings.{Settings}
use Rattle.lane_lock.specs.History.{StartsWith}
use Rattle.lane_lock.specs.Passes.{view_of}
use Rattle.guarded_core.specs.Entries.{history_of, told}
use Rattle.guarded_core.specs.Passes.{CoreGhosts, CorePass}
use Rattle.guarded_core.specs.declared.kept_core.Entry.TheVariants as entry

module _ {A : Type 0} {g : CoreGhosts A} where
  -- the pass made just these records, in this order, behind those that it had made before
  abbrev pub HasMade : CorePass A g → List (Record A) → CorePass A g → Type 0
  HasMade p records q = (view_of q).made ≡ (view_of p).made ++ map entry.Made records

  -- the record has this place among all records of the server, which the pass has seen up to it
  pub record StandsAt (settings : Settings) (p : CorePass A g) (made : Record A) (place : ℕ) : Type 0 where
    pub before : List (Record A)
    pub seen : StartsWith (view_of p).seen (told (history_of settings (before ++ made ∷ [])))
    pub count : length before ≡ place

  -- the last of these records has this place; there is none where there are no records
  abbrev pub EndsAt : Settings → CorePass A g → List (Record A) → Option ℕ → Type 0
  EndsAt settings p records None = records ≡ []
  EndsAt settings p records (Some place) =
      (others : List (Record A)) × (last : Record A) × (records ≡ others ++ last ∷ []) × StandsAt settings p last place
