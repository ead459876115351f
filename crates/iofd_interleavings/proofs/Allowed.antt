-- What a device is answered at a step is what the policy allows in the world of the step.
use Rattle.std.proofs.Common.{map, ◌≡◌, ℕ, zero, suc, Bool, true, false, cond, Option, Some, None, is_none, List, []}
use Rattle.std.proofs.Common.{◌∷◌, length, refl, sym, subst, arith, Contains}
use Rattle.std.specs.List.{list_any}
use Rattle.iofd_steps.specs.Answers.{Answers, write_reply}
use Rattle.iofd_refusals.specs.Checks.{access_checks, device_write_checks, refusal}
use Rattle.iofd_words.specs.FirstTrue.{first_true}
use Rattle.iofd_words.specs.Frames.{bytes_at}
use Rattle.iofd_steps.specs.Look.{answers_in, answers_to, cached_answers, read_answer}
use Rattle.iofd_words.specs.Pages.{offset_of}
use Rattle.iofd_words.specs.Policy.{Passes, is_pass_at, outcomes}
use Rattle.iofd_steps.specs.Run.{IsAnswer, IsRun, Lawful, world_of}
use Rattle.iofd_words.specs.Record.{Record}
use Rattle.iofd_words.specs.Settings.{Settings}
use Rattle.iofd_words.specs.View.{view}
use Rattle.iofd_words.specs.World.{World}
use Rattle.iofd_words.specs.declared.event.Event.{Event}
use Rattle.iofd_words.specs.declared.event.Event.TheVariants as event
use Rattle.iofd_words.specs.declared.fault.AccessKind.TheVariants.{Read, Write}
use Rattle.iofd_words.specs.declared.numbers.DeviceNo.{DeviceNo}
use Rattle.iofd_words.specs.declared.numbers.FrameNo.{FrameNo}
use Rattle.iofd_words.specs.declared.numbers.Iova.{Iova}
use Rattle.iofd_words.specs.declared.query.Answer.{Answer}
use Rattle.iofd_words.specs.declared.query.Answer.TheVariants as answer
use Rattle.iofd_words.specs.declared.query.Query.{Query}
use Rattle.iofd_words.specs.declared.query.Query.TheVariants.{CachedRead, DeviceRead}
use Rattle.iofd_words.specs.declared.refusal.Cause.{Cause}
use Rattle.iofd_words.specs.declared.reply.Reply.{Reply}
use Rattle.iofd_words.specs.declared.reply.Reply.TheVariants as reply
use Rattle.iofd_rows.proofs.Bools.{and_true}
use Rattle.iofd_runs.proofs.PassFound.{contained_map, pass_found}
use Rattle.iofd_promises.proofs.Rows.{contains}
use Rattle.iofd_promises.proofs.Spaces.{in_mapped}
use Rattle.iofd_interleavings.specs.Caches.{Entry, Sound}
use Rattle.iofd_interleavings.specs.DeviceAnswers.{Allows, DeviceAnswer, OfRead, OfWrite, answer_of_event}
use Rattle.iofd_interleavings.specs.DeviceAnswers.{answer_of_look, bytes_of_hit, device_answer}
use Rattle.iofd_interleavings.specs.Steps.{IsHit, MayMake, State, Step, Made, Looked, Filled, ReadHit, WriteHit}
use Rattle.iofd_interleavings.specs.Steps.{Dropped, hit_record}
use Rattle.iofd_interleavings.proofs.KeepsSound.{IsGood, hit_lawful, no_cause}
use Rattle.iofd_interleavings.proofs.Passes.{entry_outcome, entry_passes}

-- ---- what a read hit answers

hit_reads : {A : Type 0} (settings : Settings) (s : State A) (device : DeviceNo) (iova : Iova) (len : ℕ) (entry : Entry)
    → IsRun settings s.records → Sound (world_of settings s.records) device (s.caches device)
    → IsHit (s.caches device) iova len Read entry
    → Contains (answers_to settings s.records (DeviceRead device iova len))
    (answer.Read (bytes_at (world_of settings s.records).writes entry.frame.0 (offset_of iova.0) len))
unfolding answers_in
hit_reads {A = A} settings s device iova len entry run sound hit =
    subst (λ (o : Option Cause). Contains (elim o [
      | Some cause ↦ answer.Refused (record { cause = cause }) ∷ []
      | None ↦ map (read_answer (world_of settings s.records) device iova.0 len)
          (outcomes (world_of settings s.records) device iova.0 Read)
    ]) (answer.Read (bytes_at (world_of settings s.records).writes entry.frame.0 (offset_of iova.0) len)))
    (sym none) (contains _ _ (in_mapped (read_answer (world_of settings s.records) device iova.0 len)
    (outcomes (world_of settings s.records) device iova.0 Read) (Passes entry.frame)
    (entry_outcome settings s.records device entry iova Read run (sound entry hit.cached) hit.page hit.right)))
  where
    none : first_true (access_checks (view (world_of settings s.records)) device iova len) ≡ None
    none = no_cause _ (and_true
        (is_none (first_true (access_checks (view (world_of settings s.records)) device iova len)))
        (list_any (is_pass_at entry.frame) (outcomes (world_of settings s.records) device iova.0 Read))
        (entry_passes settings s.records device entry iova len Read run (sound entry hit.cached) hit.page hit.right
        hit.inside)).0

-- ---- what a lawful record tells a device

told_of_event : {A : Type 0} (w : World) (e : Event A) (said : Reply) (told : DeviceAnswer)
    → answer_of_event e said ≡ Some told
    → ((cause : Cause) → refusal w e ≡ Some cause → said ≡ reply.Refused (record { cause = cause }))
    → (refusal w e ≡ None → Answers w e said) → Allows w told
unfolding device_write_checks Answers
told_of_event w (event.DeviceWrite device iova bytes) said told is refused allowed =
    let same : OfWrite device iova bytes said ≡ told = cc in
    subst (λ (t : DeviceAnswer). Allows w t) same
    (by_cause (first_true (access_checks (view w) device iova (length bytes))) refl)
  where
    by_cause : (o : Option Cause) → first_true (access_checks (view w) device iova (length bytes)) ≡ o
        → Contains (elim o [
          | Some cause ↦ reply.Refused (record { cause = cause }) ∷ []
          | None ↦ map (write_reply w device iova.0) (outcomes w device iova.0 Write)
        ]) said
    by_cause (Some cause) due = (0, omega arith, sym (refused cause due))
    by_cause None none = allowed none
told_of_event w e said told is refused allowed = cc

record_told : {A : Type 0} (at : ℕ) (w : World) (r : Record A) (told : DeviceAnswer) → Lawful at w r
    → answer_of_event r.event r.reply ≡ Some told → Allows w told
unfolding Lawful
record_told at w r told lawful is =
    told_of_event w r.event r.reply told is
    (λ cause due. subst (λ (o : Option Cause). IsAnswer w r o) due lawful.0)
    (λ none. subst (λ (o : Option Cause). IsAnswer w r o) none lawful.0)

-- ---- what a look tells it

-- a read at a kept frame is answered as the policy allows a read
pub cached_allowed : {A : Type 0} (settings : Settings) (records : List (Record A)) (device : DeviceNo) (iova : Iova)
    (len : ℕ) (frame : FrameNo) (said : Answer)
    → Contains (answers_to settings records (CachedRead device iova len frame)) said
    → Contains (answers_to settings records (DeviceRead device iova len)) said
unfolding answers_in
cached_allowed settings records device iova len frame said has =
    by_cause (first_true (access_checks (view (world_of settings records)) device iova len)) has
  where
    passed : (b : Bool) → list_any (is_pass_at frame) (outcomes (world_of settings records) device iova.0 Read) ≡ b
        → Contains (cond b (answer.Read
        (bytes_at (world_of settings records).writes frame.0 (offset_of iova.0) len) ∷ []) []) said
        → Contains (map (read_answer (world_of settings records) device iova.0 len)
        (outcomes (world_of settings records) device iova.0 Read)) said
    passed true is (zero, below, said_is) =
        subst (Contains (map (read_answer (world_of settings records) device iova.0 len)
        (outcomes (world_of settings records) device iova.0 Read))) said_is
        (contained_map (read_answer (world_of settings records) device iova.0 len)
        (outcomes (world_of settings records) device iova.0 Read) (Passes frame)
        (pass_found frame (outcomes (world_of settings records) device iova.0 Read) is))
    passed true is (suc place, below, said_is) = absurd (omega (arith, below))
    passed false is (place, below, said_is) = absurd (omega (arith, below))

    by_cause : (o : Option Cause) → Contains (elim o [
      | Some cause ↦ answer.Refused (record { cause = cause }) ∷ []
      | None ↦ cached_answers (world_of settings records) device iova len frame
    ]) said → Contains (elim o [
      | Some cause ↦ answer.Refused (record { cause = cause }) ∷ []
      | None ↦ map (read_answer (world_of settings records) device iova.0 len)
          (outcomes (world_of settings records) device iova.0 Read)
    ]) said
    by_cause (Some cause) has = has
    by_cause None has =
        passed (list_any (is_pass_at frame) (outcomes (world_of settings records) device iova.0 Read)) refl has

told_of_look : {A : Type 0} (settings : Settings) (records : List (Record A)) (query : Query) (said : Answer)
    (told : DeviceAnswer) → Contains (answers_to settings records query) said
    → answer_of_look query said ≡ Some told → Allows (world_of settings records) told
unfolding answers_in
told_of_look settings records (DeviceRead device iova len) said told has is =
    let same : OfRead device iova len said ≡ told = cc in
    subst (λ (t : DeviceAnswer). Allows (world_of settings records) t) same has
told_of_look settings records (CachedRead device iova len frame) said told has is =
    let same : OfRead device iova len said ≡ told = cc in
    subst (λ (t : DeviceAnswer). Allows (world_of settings records) t) same
    (cached_allowed settings records device iova len frame said has)
told_of_look settings records query said told has is = cc

-- ---- each step

pub told_at : {A : Type 0} (settings : Settings) (s : State A) (step : Step A) (told : DeviceAnswer)
    → IsGood settings s → MayMake settings s step → device_answer (world_of settings s.records) step ≡ Some told
    → Allows (world_of settings s.records) told
told_at settings s (Made r) told good may is =
    record_told (length s.records) (world_of settings s.records) r told may.0 is
told_at settings s (Looked query said) told good may is = told_of_look settings s.records query said told may is
told_at settings s (ReadHit device iova len entry) told good may is =
    let same : OfRead device iova len (bytes_of_hit (world_of settings s.records) iova len entry) ≡ told = cc in
    subst (λ (t : DeviceAnswer). Allows (world_of settings s.records) t) same
    (told_of_look settings s.records (DeviceRead device iova len)
    (bytes_of_hit (world_of settings s.records) iova len entry)
    (OfRead device iova len (bytes_of_hit (world_of settings s.records) iova len entry))
    (hit_reads settings s device iova len entry good.run (good.sound device) may) refl)
told_at {A = A} settings s (WriteHit pass device iova bytes entry) told good may is =
    record_told (length s.records) (world_of settings s.records) (hit_record {A = A} pass device iova bytes entry) told
    (hit_lawful settings s pass device iova bytes entry good.run (good.sound device) may) is
told_at settings s (Filled device entry) told good may is = cc
told_at settings s (Dropped device page) told good may is = cc
