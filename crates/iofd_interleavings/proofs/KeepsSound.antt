-- Each step keeps the records a run and every cache sound.
use Rattle.std.proofs.Common.{◌≡◌, ℕ, Bool, true, false, not, eqb, cond, Option, Some, None, is_none, List, [], ◌∷◌}
use Rattle.std.proofs.Common.{◌++◌, length, refl, sym, subst, ◌⊎◌, inl, inr, Contains}
use Rattle.std.specs.List.{list_any}
use Rattle.iofd_steps.specs.Answers.{Answers, write_reply}
use Rattle.iofd_refusals.specs.Checks.{access_checks, device_write_checks, refusal}
use Rattle.iofd_words.specs.FirstTrue.{first_true}
use Rattle.iofd_words.specs.Policy.{Passes, is_pass_at, outcomes}
use Rattle.iofd_steps.specs.Run.{IsAnswer, IsRun, Lawful, MovesFrames, world_of}
use Rattle.iofd_words.specs.Record.{Record}
use Rattle.iofd_words.specs.Settings.{Settings}
use Rattle.iofd_words.specs.Turns.{is_turn_of}
use Rattle.iofd_words.specs.View.{view}
use Rattle.iofd_words.specs.World.{World}
use Rattle.iofd_words.specs.declared.fault.AccessKind.TheVariants.{Write}
use Rattle.iofd_words.specs.declared.numbers.DeviceNo.{DeviceNo}
use Rattle.iofd_words.specs.declared.numbers.Iova.{Iova}
use Rattle.iofd_words.specs.declared.numbers.PassNo.{PassNo}
use Rattle.iofd_words.specs.declared.refusal.Cause.{Cause}
use Rattle.iofd_rows.proofs.Bools.{and_true}
use Rattle.iofd_rows.proofs.Each.{IsIn, in_filter}
use Rattle.iofd_rows.proofs.Moves.{device_is}
use Rattle.iofd_runs.proofs.OneMore.{run_more}
use Rattle.iofd_runs.proofs.StillTabled.{stays_tabled}
use Rattle.iofd_promises.proofs.Facts.{tables_of}
use Rattle.iofd_promises.proofs.Rows.{contains, within}
use Rattle.iofd_promises.proofs.Spaces.{in_mapped}
use Rattle.iofd_interleavings.specs.Caches.{Caches, Entry, IsBacked, Sound}
use Rattle.iofd_interleavings.specs.Steps.{AreStepsFrom, IsHit, MayMake, State, Step, Made, Looked, Filled, ReadHit}
use Rattle.iofd_interleavings.specs.Steps.{WriteHit, Dropped, hit_record, made_by, state_from, with_cache, without_page}
use Rattle.iofd_interleavings.proofs.Passes.{entry_outcome, entry_passes}
use Rattle.iofd_interleavings.proofs.StaysSound.{sound_after}

-- ---- caches that change

pub nothing_cached : (w : World) (device : DeviceNo) (entries : List Entry) → entries ≡ [] → Sound w device entries
nothing_cached w device entries empty = λ entry cached.
    absurd (within [] entry (subst (λ (es : List Entry). Contains es entry) empty cached))

sound_fill : (w : World) (device : DeviceNo) (entry : Entry) (entries : List Entry) → IsBacked w device entry
    → Sound w device entries → Sound w device (entry ∷ entries)
sound_fill w device entry entries backed sound = λ x cached. by_place x (within (entry ∷ entries) x cached)
  where
    by_place : (x : Entry) → (entry ≡ x) ⊎ IsIn entries x → IsBacked w device x
    by_place x (inl same) = subst (IsBacked w device) same backed
    by_place x (inr later) = sound x (contains entries x later)

sound_drop : (w : World) (device : DeviceNo) (page : ℕ) (entries : List Entry) → Sound w device entries
    → Sound w device (without_page page entries)
sound_drop w device page entries sound = λ x cached.
    let left = in_filter (λ (e : Entry). not (eqb e.page page)) entries x
    (within (without_page page entries) x cached) in
    sound x (contains entries x left.0)

-- one device's cache is another, and it is sound
sound_with : (w : World) (caches : Caches) (device : DeviceNo) (entries : List Entry)
    → ((other : DeviceNo) → Sound w other (caches other)) → Sound w device entries
    → (other : DeviceNo) → Sound w other (with_cache device entries caches other)
sound_with w caches device entries sound new other = by_test (eqb other.0 device.0) refl
  where
    by_test : (b : Bool) → eqb other.0 device.0 ≡ b → Sound w other (cond b entries (caches other))
    by_test true is = subst (λ (d : DeviceNo). Sound w d entries) (sym (device_is other device is)) new
    by_test false is = sound other

-- ---- a write hit is lawful

pub no_cause : (o : Option Cause) → is_none o ≡ true → o ≡ None
no_cause None is = refl
no_cause (Some cause) is = cc

module _ {A : Type 0} (settings : Settings) (s : State A) (pass : PassNo) (device : DeviceNo) (iova : Iova)
    (bytes : List ℕ) (entry : Entry) (run : IsRun settings s.records)
    (sound : Sound (world_of settings s.records) device (s.caches device))
    (hit : IsHit (s.caches device) iova (length bytes) Write entry) where
  abbrev w : World
  w = world_of settings s.records

  abbrev r : Record A
  r = hit_record pass device iova bytes entry

  checked : first_true (access_checks (view w) device iova (length bytes)) ≡ None
  checked = no_cause _ (and_true (is_none (first_true (access_checks (view w) device iova (length bytes))))
      (list_any (is_pass_at entry.frame) (outcomes w device iova.0 Write))
      (entry_passes settings s.records device entry iova (length bytes) Write run (sound entry hit.cached) hit.page
      hit.right hit.inside)).0

  none : refusal w r.event ≡ None
  unfolding device_write_checks
  none = checked

  answers : Answers w r.event r.reply
  unfolding Answers
  answers = contains _ _ (in_mapped (write_reply w device iova.0) (outcomes w device iova.0 Write)
      (Passes entry.frame)
      (entry_outcome settings s.records device entry iova Write run (sound entry hit.cached) hit.page hit.right))

  moves : MovesFrames (length s.records) w r None
  moves = stays_tabled (length s.records) w r.event r.reply answers tt tt (tables_of settings s.records run).tables

  pub hit_lawful : Lawful (length s.records) w r
  unfolding Lawful
  hit_lawful = subst (λ (o : Option Cause). IsAnswer w r o × MovesFrames (length s.records) w r o) (sym none)
      (answers, moves)

-- ---- each step

pub record IsGood {A : Type 0} (settings : Settings) (s : State A) : Type 0 where
  pub run : IsRun settings s.records
  pub sound : (device : DeviceNo) → Sound (world_of settings s.records) device (s.caches device)

sound_made : {A : Type 0} (settings : Settings) (s : State A) (r : Record A) → IsGood settings s
    → IsRun settings (s.records ++ r ∷ [])
    → ((device : DeviceNo) → is_turn_of device r.event ≡ true → s.caches device ≡ [])
    → (device : DeviceNo) → Sound (world_of settings (s.records ++ r ∷ [])) device (s.caches device)
sound_made settings s r good run empty device = by_turn (is_turn_of device r.event) refl
  where
    by_turn : (b : Bool) → is_turn_of device r.event ≡ b
        → Sound (world_of settings (s.records ++ r ∷ [])) device (s.caches device)
    by_turn true is = nothing_cached _ device (s.caches device) (empty device is)
    by_turn false is = sound_after settings s.records r device (s.caches device) run is (good.sound device)

pub keeps_good : {A : Type 0} (settings : Settings) (s : State A) (step : Step A) → MayMake settings s step
    → IsGood settings s → IsGood settings (made_by s step)
keeps_good settings s (Made r) may good =
    let run = run_more settings s.records r good.run may.0 in
    record { run = run; sound = sound_made settings s r good run may.1 }
keeps_good settings s (Looked query answer) may good = good
keeps_good settings s (Filled device entry) may good = record {
  run = good.run;
  sound = sound_with _ s.caches device (entry ∷ s.caches device) good.sound
      (sound_fill _ device entry (s.caches device) may.backed (good.sound device));
}
keeps_good settings s (ReadHit device iova len entry) may good = good
keeps_good settings s (WriteHit pass device iova bytes entry) may good =
    let lawful = hit_lawful settings s pass device iova bytes entry good.run (good.sound device) may in
    let run = run_more settings s.records (hit_record pass device iova bytes entry) good.run lawful in
    record {
      run = run;
      sound = sound_made settings s (hit_record pass device iova bytes entry) good run (λ d never. cc);
    }
keeps_good settings s (Dropped device page) may good = record {
  run = good.run;
  sound = sound_with _ s.caches device (without_page page (s.caches device)) good.sound
      (sound_drop _ device page (s.caches device) (good.sound device));
}

pub steps_good : {A : Type 0} (settings : Settings) (s : State A) (steps : List (Step A))
    → AreStepsFrom settings s steps → IsGood settings s → IsGood settings (state_from s steps)
steps_good settings s [] are good = good
steps_good settings s (step ∷ steps) are good =
    steps_good settings (made_by s step) steps are.1 (keeps_good settings s step are.0 good)
