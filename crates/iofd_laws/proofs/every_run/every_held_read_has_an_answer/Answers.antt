use Rattle.std.proofs.Common.{◌≡◌, ℕ, Option, Some, None, [], ◌∷◌, List, length, refl, arith}
use Rattle.iofd_rows.specs.Pinned.{ArePinned}
use Rattle.iofd_runs.proofs.AccessesPassed.{held_access_passed}
use Rattle.iofd_runs.proofs.HeldAccess.{ReachesHeld, reaches_held}
use Rattle.iofd_runs.proofs.KeepsFits.{keeps_fit, tabled_fit}
use Rattle.iofd_runs.proofs.KeepsPins.{keeps_pins, later_pinned, opening_pinned, tabled_pinned}
use Rattle.iofd_runs.proofs.KeepsPinsFit.{keeps_pins_fit, opening_pins_fit, tabled_pins_fit}
use Rattle.iofd_runs.proofs.Runs.{run_keeps, run_keeps_at}
use Rattle.iofd_runs.specs.Fits.{RowsFit}
use Rattle.iofd_runs.specs.PinsFit.{AccessPinsFit}
use Rattle.iofd_words.specs.Accesses.{accessed_frame}
use Rattle.iofd_refusals.specs.Checks.{held_access_checks}
use Rattle.iofd_words.specs.FirstTrue.{first_true}
use Rattle.iofd_steps.specs.Look.{answers_in, page_bytes}
use Rattle.iofd_steps.specs.Run.{IsRun, world_of}
use Rattle.iofd_words.specs.View.{view}
use Rattle.iofd_words.specs.World.{World, opening}
use Rattle.iofd_words.specs.declared.fault.AccessKind.TheVariants.{Read}
use Rattle.iofd_words.specs.declared.numbers.FileNo.{FileNo}
use Rattle.iofd_words.specs.declared.numbers.FrameNo.{FrameNo}
use Rattle.iofd_words.specs.declared.numbers.Iova.{Iova}
use Rattle.iofd_words.specs.declared.numbers.ObjId.{ObjId}
use Rattle.iofd_words.specs.declared.query.Answer.{Answer}
use Rattle.iofd_words.specs.declared.query.Answer.TheVariants as answer
use Rattle.iofd_words.specs.declared.refusal.Cause.{Cause}
use Rattle.iofd_laws.proofs.every_run.every_held_read_has_an_answer.Goals as goal

-- a read through a pin has its frame's bytes
some_bytes : (w : World) (file : FileNo) (access : ObjId) (iova : Iova) (len : ℕ)
    → ReachesHeld w file access iova.0 Read
    → page_bytes w iova.0 len (accessed_frame (view w) file access iova.0) ≡ [] → ⊥
some_bytes w file access iova len reach none =
    by_frame (accessed_frame (view w) file access iova.0) reach.frame_is none
  where
    by_frame : (o : Option FrameNo) → o ≡ Some reach.frame → page_bytes w iova.0 len o ≡ [] → ⊥
    by_frame None is none = cc
    by_frame (Some frame) is none = cc

pub returns : goal.returns
unfolding IsRun world_of answers_in
returns g c = λ settings records file access iova len run none.
    let w = world_of settings records in
    let pins : ArePinned (length records) w =
    run_keeps_at ArePinned tabled_pinned later_pinned keeps_pins 0 (length records) (opening settings) records
    (omega arith) run (opening_pinned settings) in
    let fits : RowsFit w =
    run_keeps RowsFit tabled_fit keeps_fit 0 (opening settings) records run (record {
      pages = refl;
      starts = refl;
      rights = refl;
      rise = refl;
      user_frames = refl;
      pin_frames = refl;
      known = refl;
      attached = refl;
    }) in
    let pins_fit : AccessPinsFit w =
    run_keeps AccessPinsFit tabled_pins_fit keeps_pins_fit 0 (opening settings) records run
    (opening_pins_fit settings) in
    by_refusal w file access iova len
    (λ passed. some_bytes w file access iova len
    (reaches_held (length records) w pins fits pins_fit file access iova.0 Read
    (held_access_passed (view w) file access iova len Read passed).held))
    (first_true (held_access_checks (view w) file access iova len Read)) refl none
  where
    by_refusal : (w : World) (file : FileNo) (access : ObjId) (iova : Iova) (len : ℕ)
        → (first_true (held_access_checks (view w) file access iova len Read) ≡ None
        → page_bytes w iova.0 len (accessed_frame (view w) file access iova.0) ≡ [] → ⊥) → (o : Option Cause)
        → first_true (held_access_checks (view w) file access iova len Read) ≡ o
        → elim o as (λ _. List Answer) [
          | Some cause ↦ answer.Refused (record { cause = cause }) ∷ []
          | None ↦ page_bytes w iova.0 len (accessed_frame (view w) file access iova.0)
        ] ≡ [] → ⊥
    by_refusal w file access iova len some (Some cause) is none = cc
    by_refusal w file access iova len some None is none = some is none
