-- What a call makes.
use Rattle.std.specs.Prelude.{◌≡◌, ℕ, Option, Some, None, Result, Ok, Err, List, [], ◌∷◌, ◌++◌, map}
use Rattle.iofd_words.specs.Record.{Record}
use Rattle.iofd_words.specs.Settings.{Settings}
use Rattle.iofd_words.specs.declared.event.Act.{Act}
use Rattle.iofd_words.specs.declared.event.Event.{Event}
use Rattle.iommufd_core.specs.declared.apply.Stamp.{Stamp}
use Rattle.lane_lock.specs.History.{StartsWith, made_by}
use Rattle.lane_lock.specs.Outcomes.{HadNoLane}
use Rattle.lane_lock.specs.Passes.{number_of, view_of}
use Rattle.lane_lock.specs.Views.{IsBlank}
use Rattle.guarded_core.specs.Applied.{IsApplied}
use Rattle.guarded_core.specs.Entries.{history_of, maker_of, told}
use Rattle.guarded_core.specs.Passes.{CoreGhosts, CorePass}
use Rattle.guarded_core.specs.declared.kept_core.Entry.TheVariants as entry

-- the act that applies an event, with no cached frame
abbrev pub act_of : {A : Type 0} → Event A → Act A
act_of event = record { event = event; via = None }

-- the place of the record that a call made, if it made one
abbrev pub place_of : {E : Type 0} → Result Stamp E → Option ℕ
place_of (Ok stamp) = Some stamp.at
place_of (Err error) = None

module _ {A : Type 0} {g : CoreGhosts A} where
  -- The pass made one record: of this act, with its own number, and with the reply and at the place of the stamp. It
  -- stands behind all records that there were, which are all that the pass had seen and maybe more, and of which those
  -- of the pass are just those that it had made. It is the last record that the pass has seen now, and the pass holds
  -- no lane; meanwhile no take of it to read had a share.
  pub record Makes (settings : Settings) (p : CorePass A g) (act : Act A) (stamp : Stamp) (q : CorePass A g)
      : Type 0 where
    pub before : List (Record A)
    pub made : Record A
    pub later : StartsWith (told (history_of settings before)) (view_of p).seen
    pub mine : made_by maker_of (number_of p) (map entry.Made before) ≡ (view_of p).made
    pub applied : IsApplied (record { 0 = number_of p }) act stamp (history_of settings before)
        (history_of settings (before ++ made ∷ []))
    pub seen : (view_of q).seen ≡ told (history_of settings (before ++ made ∷ []))
    pub own : (view_of q).made ≡ (view_of p).made ++ entry.Made made ∷ []
    pub home : IsBlank (view_of q)
    pub had : HadNoLane (view_of p) (view_of q)
