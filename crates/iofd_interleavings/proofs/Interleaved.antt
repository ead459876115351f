-- The law of every interleaving, out of what each step keeps.
use Rattle.std.proofs.Common.{◌≡◌, ℕ, Bool, true, false, ◌||◌, eqb, Option, Some, None, List, [], ◌∷◌, ◌++◌, length}
use Rattle.std.proofs.Common.{refl, ap, subst, arith, Contains, ⊎_elim}
use Rattle.std.specs.List.{find, list_any}
use Rattle.std.proofs.lemmas.Bool.Decides.{nat_tests}
use Rattle.iofd_words.specs.Attachments.{attachment_of}
use Rattle.iofd_words.specs.Pins.{ObjectPage, is_page, page_of_pin, pinned_frame}
use Rattle.iofd_words.specs.Policy.{page_in}
use Rattle.iofd_steps.specs.Run.{IsRun, world_of}
use Rattle.iofd_words.specs.Record.{Record}
use Rattle.iofd_words.specs.Settings.{Settings}
use Rattle.iofd_words.specs.Tables.{with_tables}
use Rattle.iofd_words.specs.World.{World, opening}
use Rattle.iofd_words.specs.declared.numbers.DeviceNo.{DeviceNo}
use Rattle.iofd_words.specs.declared.numbers.FrameNo.{FrameNo}
use Rattle.iofd_words.specs.declared.reply.Reply.TheVariants as reply
use Rattle.iofd_words.specs.declared.rows.Attachment.{Attachment}
use Rattle.iofd_words.specs.declared.rows.Pin.{Pin}
use Rattle.iofd_rows.proofs.Bools.{clash}
use Rattle.iofd_rows.proofs.Each.{in_found, of_any}
use Rattle.iofd_runs.proofs.Runs.{run_keeps, run_keeps_tables}
use Rattle.iofd_laws.specs.Laws.{TablesAlone, WasFree, have_own_frames}
use Rattle.iofd_laws.proofs.OwnFrames.{keeps_own_frames, lawful_frame, lawful_taken}
use Rattle.iofd_laws.proofs.OwnTables.{OwnTables, keeps_own_tables, opening_own_tables}
use Rattle.iofd_interleavings.specs.Caches.{Entry, Sound, address_of}
use Rattle.iofd_interleavings.specs.FramesApart.{GivesOut, IsNobodys}
use Rattle.iofd_interleavings.specs.Interleavings.{EveryInterleaving}
use Rattle.iofd_interleavings.specs.Steps.{AreSteps, AreStepsFrom, MayMake, State, Step, Made, caches_after, made_by}
use Rattle.iofd_interleavings.specs.Steps.{opened, records_after, state_after, state_from}
use Rattle.iofd_interleavings.proofs.Allowed.{told_at}
use Rattle.iofd_interleavings.proofs.KeepsSound.{IsGood, nothing_cached, steps_good}
use Rattle.iofd_interleavings.proofs.OneUser.{one_user_of}
use Rattle.iofd_interleavings.proofs.Passes.{entry_passes}
use Rattle.iofd_interleavings.proofs.StaysSound.{sound_stays}
use Rattle.iofd_interleavings.proofs.Walks.{run_fills}

-- ---- what a step gives out

-- the pin of a page has its frame
pin_reaches : (pins : List Pin) (page : ObjectPage) (frame : FrameNo) → pinned_frame pins page ≡ Some frame
    → list_any (λ (pin : Pin). eqb pin.frame.0 frame.0) pins ≡ true
pin_reaches pins page frame is = by_found (find (λ (pin : Pin). is_page (page_of_pin pin) page) pins) refl is
  where
    by_found : (o : Option Pin) → find (λ (pin : Pin). is_page (page_of_pin pin) page) pins ≡ o
        → elim o [ Some pin ↦ Some pin.frame | None ↦ None ] ≡ Some frame
        → list_any (λ (pin : Pin). eqb pin.frame.0 frame.0) pins ≡ true
    by_found None found is = cc
    by_found (Some pin) found is =
        let same : pin.frame ≡ frame = cc in
        let number = ap (λ (f : FrameNo). f.0) same in
        of_any (λ (pin : Pin). eqb pin.frame.0 frame.0) pins pin
        (in_found (λ (pin : Pin). is_page (page_of_pin pin) page) pins pin found).0 (search (number, arith, nat_tests))

no_pin : (pages pins tables : Bool) → (pages || pins || tables) ≡ false → pins ≡ false
no_pin true pins tables is = cc
no_pin false true tables is = cc
no_pin false false tables is = refl

nobodys : {A : Type 0} (settings : Settings) (s : State A) (frame : FrameNo) → IsGood settings s
    → WasFree (world_of settings s.records) frame → IsNobodys (world_of settings s.records) s.caches frame
nobodys settings s frame good free = record {
  free = free;
  uncached = λ device entry cached same.
      let backed = good.sound device entry cached in
      let reached = pin_reaches (world_of settings s.records).pins (page_in backed.area (address_of entry)) entry.frame
      backed.pinned in
      clash _ (no_pin _ _ _ free.1)
      (subst (λ (n : ℕ). list_any (λ (pin : Pin). eqb pin.frame.0 n) (world_of settings s.records).pins ≡ true) same
      reached);
}

-- ---- whose frames are

own_frames : {A : Type 0} (settings : Settings) (records : List (Record A)) → IsRun settings records
    → have_own_frames (world_of settings records).user_pages ≡ true
unfolding IsRun world_of with_tables
own_frames settings records run = run_keeps (λ w. have_own_frames w.user_pages ≡ true) (λ w taken given p. p)
    keeps_own_frames 0 (opening settings) records run refl

alone : {A : Type 0} (settings : Settings) (records : List (Record A)) → IsRun settings records
    → TablesAlone (world_of settings records)
unfolding IsRun world_of
alone settings records run = (run_keeps_tables OwnTables keeps_own_tables 0 (opening settings) records run
    (opening_own_tables settings)).alone

-- ---- a step among others

-- each step may be made where those before it have led
at_step : {A : Type 0} (settings : Settings) (s : State A) (before : List (Step A)) (step : Step A)
    (later : List (Step A)) → AreStepsFrom settings s (before ++ step ∷ later)
    → AreStepsFrom settings s before × MayMake settings (state_from s before) step
at_step settings s [] step later are = (tt, are.0)
at_step settings s (first ∷ before) step later are =
    let rest = at_step settings (made_by s first) before step later are.1 in ((are.0, rest.0), rest.1)

good_after : {A : Type 0} (settings : Settings) (steps : List (Step A)) → AreSteps settings steps
    → IsGood settings (state_after steps)
unfolding AreSteps state_after IsRun
good_after {A = A} settings steps are = steps_good settings opened steps are begins
  where
    begins : IsGood {A = A} settings opened
    begins = record { run = tt; sound = λ device. nothing_cached _ device [] refl }

good_at : {A : Type 0} (settings : Settings) (before : List (Step A)) (step : Step A) (later : List (Step A))
    → AreSteps settings (before ++ step ∷ later)
    → IsGood settings (state_after before) × MayMake settings (state_after before) step
unfolding AreSteps state_after
good_at settings before step later are =
    let parts = at_step settings opened before step later are in (good_after settings before parts.0, parts.1)

-- without an attachment nothing backs an entry
none_cached : (w : World) (device : DeviceNo) (entries : List Entry) → Sound w device entries
    → attachment_of w.attachments device ≡ None → entries ≡ []
none_cached w device [] sound none = refl
none_cached w device (entry ∷ entries) sound none = clash_of (sound entry (0, omega arith, refl)).attached none
  where
    clash_of : {a : Attachment} → attachment_of w.attachments device ≡ Some a
        → attachment_of w.attachments device ≡ None → entry ∷ entries ≡ []
    clash_of is none = cc

-- ---- the law

given_at : {A : Type 0} (settings : Settings) (s : State A) (step : Step A) (frame : FrameNo) → IsGood settings s
    → MayMake settings s step → GivesOut step frame → IsNobodys (world_of settings s.records) s.caches frame
given_at settings s (Made r) frame good may gives = nobodys settings s frame good (⊎_elim
    (λ (is : r.reply ≡ reply.Frame frame). lawful_frame (length s.records) (world_of settings s.records) r frame
    may.0 is)
    (λ (has : Contains r.taken frame). lawful_taken (length s.records) (world_of settings s.records) r frame may.0
    has)
    gives)
given_at settings s step frame good may gives = absurd gives

pub every_interleaving : {A : Type 0} → EveryInterleaving A
every_interleaving {A = A} = record {
  runs = λ settings steps are. (good_after settings steps are).run;
  answers = λ settings before step later told are is.
      let at = good_at settings before step later are in
      told_at settings (state_after before) step told at.0 at.1 is;
  caches = λ settings steps device are. (good_after settings steps are).sound device;
  unattached = λ settings steps device are none.
      none_cached _ device (caches_after steps device) ((good_after settings steps are).sound device) none;
  given = λ settings before step later frame are gives.
      let at = good_at settings before step later are in
      given_at settings (state_after before) step frame at.0 at.1 gives;
  frames = λ settings steps are.
      let run = (good_after settings steps are).run in
      record {
        pages = own_frames settings (records_after steps) run;
        tables = alone settings (records_after steps) run;
        users = one_user_of settings (records_after steps) run;
      };
  stays = λ settings before later device entries run same sound.
      sound_stays settings device entries before later run same sound;
  passes = λ settings records device entries iova len kind entry run sound hit.
      entry_passes settings records device entry iova len kind run (sound entry hit.cached) hit.page hit.right
      hit.inside;
  fills = λ settings records device address t run found. run_fills settings records device address t run found;
}
