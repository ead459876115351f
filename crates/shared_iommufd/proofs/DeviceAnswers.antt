-- What a device's read or write may be answered in a run. Where it passes its address is below every width, and so are
-- those behind it for a while.
use Rattle.std.proofs.Common.{◌≡◌, ℕ, zero, suc, ◌<◌, ◌^◌, Bool, true, false, cond, leb, is_none, is_some, Option}
use Rattle.std.proofs.Common.{Some, None, List, [], ◌∷◌, ◌++◌, map, length, Contains, refl, sym, ap, ◌∙◌, subst}
use Rattle.std.proofs.Common.{inl, inr, arith}
use Rattle.std.proofs.lemmas.Bool.{leb-false}
use Rattle.std.proofs.lemmas.List.FromFn.{length-map-range_with_len}
use Rattle.iofd_rows.proofs.Each.{IsIn, in_map}
use Rattle.iofd_runs.proofs.Known.{bound_known}
use Rattle.iofd_runs.proofs.NotRefused.{write_passed}
use Rattle.iofd_runs.proofs.Runs.{lawful_at, run_beginning, tests_false}
use Rattle.iofd_runs.specs.Fits.{RowsFit}
use Rattle.iofd_steps.specs.Answers.{Answers, write_reply}
use Rattle.iofd_words.specs.Attachments.{attachment_of}
use Rattle.iofd_refusals.specs.Checks.{access_checks, refusal}
use Rattle.iofd_words.specs.Files.{device_of, is_device}
use Rattle.iofd_words.specs.FirstTrue.{first_true}
use Rattle.iofd_words.specs.Frames.{byte_at}
use Rattle.iofd_steps.specs.Look.{answers_in, answers_to, read_answer}
use Rattle.iofd_words.specs.Objects.{binding_of}
use Rattle.iofd_words.specs.Pages.{offset_of}
use Rattle.iofd_words.specs.Policy.{Denied, Outcome, Passes, access_outcomes, by_width, outcomes, translated}
use Rattle.iofd_steps.specs.Run.{IsAnswer, IsRun, Lawful, world_of}
use Rattle.iofd_words.specs.Record.{Record}
use Rattle.iofd_words.specs.Settings.{DeviceSettings, Settings}
use Rattle.iofd_words.specs.View.{view}
use Rattle.iofd_words.specs.Width.{bits_of}
use Rattle.iofd_words.specs.World.{World, opening}
use Rattle.iofd_words.specs.declared.event.Event.{Event}
use Rattle.iofd_words.specs.declared.event.Event.TheVariants as event
use Rattle.iofd_words.specs.declared.fault.AccessKind.{AccessKind}
use Rattle.iofd_words.specs.declared.fault.AccessKind.TheVariants.{Read, Write}
use Rattle.iofd_words.specs.declared.fault.FaultReason.TheVariants.{BeyondWidth, NoContext}
use Rattle.iofd_words.specs.declared.numbers.DeviceNo.{DeviceNo}
use Rattle.iofd_words.specs.declared.numbers.FrameNo.{FrameNo}
use Rattle.iofd_words.specs.declared.numbers.Iova.{Iova}
use Rattle.iofd_words.specs.declared.query.Answer.{Answer}
use Rattle.iofd_words.specs.declared.query.Answer.TheVariants as answer
use Rattle.iofd_words.specs.declared.query.Query.TheVariants as query
use Rattle.iofd_words.specs.declared.refusal.Cause.{Cause}
use Rattle.iofd_words.specs.declared.reply.Reply.{Reply}
use Rattle.iofd_words.specs.declared.reply.Reply.TheVariants as reply
use Rattle.iofd_words.specs.declared.rows.Attachment.{Attachment}
use Rattle.iofd_words.specs.declared.rows.Object.{Object}
use Rattle.iofd_words.specs.declared.width.Width.{Width}
use Rattle.iofd_words.specs.declared.width.Width.TheVariants.{Bits39, Bits48, Bits57}
use Rattle.iommufd_core.proofs.Histories.{fit_run}

-- what a list contains is in it
is_in : {X : Type 0} (xs : List X) (x : X) → Contains xs x → IsIn xs x
is_in [] x (k, within, is) = absurd (omega (arith, within))
is_in (y ∷ ys) x (zero, within, is) = inl is
is_in (y ∷ ys) x (suc k, within, is) = inr (is_in ys x (k, omega (arith, within), is))

-- ---- an access that passes

below_widest : (width : Width) (address : ℕ) → leb (2 ^ bits_of width) address ≡ false → address < 2 ^ 57
below_widest Bits39 address is = let low = leb-false (2 ^ 39) address is in omega arith
below_widest Bits48 address is = let low = leb-false (2 ^ 48) address is in omega arith
below_widest Bits57 address is = leb-false (2 ^ 57) address is

below_width : (o : Option DeviceSettings) (address : ℕ) (within : List Outcome) (frame : FrameNo) → is_some o ≡ true
    → IsIn (by_width o address (Denied BeyondWidth ∷ []) within) (Passes frame) → address < 2 ^ 57
below_width None address within frame known passes = cc
below_width (Some d) address within frame known passes = by_test (leb (2 ^ bits_of d.width) address) refl passes
  where
    by_test : (b : Bool) → leb (2 ^ bits_of d.width) address ≡ b
        → IsIn (cond b (Denied BeyondWidth ∷ []) within) (Passes frame) → address < 2 ^ 57
    by_test true is (inl same) = cc
    by_test true is (inr none) = absurd none
    by_test false is passes = below_widest d.width address is

module _ (w : World) (fits : RowsFit w) (device : DeviceNo) where
  known : (o : Option Object) → binding_of w.objects device ≡ o → is_none o ≡ false
      → is_device w.settings device ≡ true
  known None is bound = cc
  known (Some object) is bound = (bound_known w.settings w.closed w.objects device object fits.known is).1

  pub passes_below : (address : ℕ) (kind : AccessKind) (frame : FrameNo)
      → is_none (binding_of w.objects device) ≡ false → IsIn (outcomes w device address kind) (Passes frame)
      → address < 2 ^ 57
  unfolding outcomes access_outcomes
  passes_below address kind frame bound passes = by_attachment (attachment_of w.attachments device) passes
    where
      by_attachment : (o : Option Attachment)
          → IsIn (elim o [
            | None ↦ Denied NoContext ∷ []
            | Some a ↦ by_width (device_of w.settings device) address (Denied BeyondWidth ∷ [])
                (translated (view w) device address kind a)
          ]) (Passes frame) → address < 2 ^ 57
      by_attachment None (inl same) = cc
      by_attachment None (inr none) = absurd none
      by_attachment (Some a) passes =
          below_width (device_of w.settings device) address (translated (view w) device address kind a) frame
          (known (binding_of w.objects device) refl bound) passes

-- ---- what a read is answered

-- the bytes that were asked for, from an address below every width, or why there are none
abbrev pub ComesOfRead : ℕ → ℕ → Answer → Type 0
ComesOfRead address len (answer.Read bytes) = (length bytes ≡ len) × (address < 2 ^ 57)
ComesOfRead address len (answer.Fault fault) = Unit {0}
ComesOfRead address len (answer.Refused refusal) = Unit {0}
ComesOfRead address len (answer.Count count) = ⊥
ComesOfRead address len (answer.Attached hwpt) = ⊥
ComesOfRead address len (answer.Walk translation) = ⊥
ComesOfRead address len (answer.Dirty words) = ⊥

pub comes_of_read : {A : Type 0} (settings : Settings) (records : List (Record A)) (device : DeviceNo) (iova : Iova)
    (len : ℕ) (a : Answer) → IsRun settings records
    → Contains (answers_to settings records (query.DeviceRead device iova len)) a → ComesOfRead iova.0 len a
unfolding answers_in
comes_of_read settings records device iova len a run lawful =
    let w = world_of settings records in
    by_refusal (first_true (access_checks (view w) device iova len)) refl (is_in _ a lawful)
  where
    by_outcome : (o : Outcome) → first_true (access_checks (view (world_of settings records)) device iova len) ≡ None
        → IsIn (outcomes (world_of settings records) device iova.0 Read) o
        → ComesOfRead iova.0 len (read_answer (world_of settings records) device iova.0 len o)
    by_outcome (Passes frame) none within =
        let w = world_of settings records in (
          length-map-range_with_len (byte_at w.writes frame.0) (offset_of iova.0) len,
          passes_below w (fit_run settings records run) device iova.0 Read frame
              (tests_false (access_checks (view w) device iova len) 0 none) within,
        )
    by_outcome (Denied reason) none within = tt

    by_refusal : (o : Option Cause) → first_true (access_checks (view (world_of settings records)) device iova len) ≡ o
        → IsIn (elim o [
          | Some cause ↦ answer.Refused (record { cause = cause }) ∷ []
          | None ↦ map (read_answer (world_of settings records) device iova.0 len)
              (outcomes (world_of settings records) device iova.0 Read)
        ]) a → ComesOfRead iova.0 len a
    by_refusal (Some cause) is (inl same) = subst (ComesOfRead iova.0 len) same tt
    by_refusal (Some cause) is (inr none) = absurd none
    by_refusal None is within =
        let (o, there, same) = in_map (read_answer (world_of settings records) device iova.0 len)
        (outcomes (world_of settings records) device iova.0 Read) a within in
        subst (ComesOfRead iova.0 len) same (by_outcome o is there)

-- ---- what a write is answered

-- the frame at which it passed, at an address below every width, or why it didn't
abbrev pub ComesOfWrite : ℕ → Reply → Type 0
ComesOfWrite address (reply.Passed frame) = address < 2 ^ 57
ComesOfWrite address (reply.Fault fault) = Unit {0}
ComesOfWrite address (reply.Refused refusal) = Unit {0}
ComesOfWrite address other = ⊥

pub run_before : {A : Type 0} (settings : Settings) (before : List (Record A)) (made : Record A)
    → IsRun settings (before ++ made ∷ []) → IsRun settings before
unfolding IsRun
run_before settings before made run = run_beginning 0 (opening settings) before (made ∷ []) run

last_lawful : {A : Type 0} (settings : Settings) (before : List (Record A)) (made : Record A)
    → IsRun settings (before ++ made ∷ [])
    → IsAnswer (world_of settings before) made (refusal (world_of settings before) made.event)
unfolding IsRun world_of Lawful
last_lawful settings before made run = (lawful_at 0 (opening settings) before made [] run).0

module _ {A : Type 0} (settings : Settings) (before : List (Record A)) (device : DeviceNo) (iova : Iova)
    (bytes : List ℕ) (run : IsRun settings before) where
  abbrev W : World
  W = world_of settings before

  abbrev write : Event A
  write = event.DeviceWrite device iova bytes

  by_outcome : (o : Outcome) → refusal W write ≡ None → IsIn (outcomes W device iova.0 Write) o
      → ComesOfWrite iova.0 (write_reply W device iova.0 o)
  by_outcome (Passes frame) none within =
      passes_below W (fit_run settings before run) device iova.0 Write frame
      (write_passed (view W) device iova bytes none).bound within
  by_outcome (Denied reason) none within = tt

  by_answer : (r : Reply) → refusal W write ≡ None → Answers W write r → ComesOfWrite iova.0 r
  unfolding Answers
  by_answer r none answers =
      let (o, there, same) = in_map (write_reply W device iova.0) (outcomes W device iova.0 Write) r
      (is_in _ r answers) in
      subst (ComesOfWrite iova.0) same (by_outcome o none there)

  by_refusal : (made : Record A) → made.event ≡ write → (o : Option Cause) → refusal W made.event ≡ o
      → IsAnswer W made o → ComesOfWrite iova.0 made.reply
  by_refusal made is (Some cause) refused answers = subst (ComesOfWrite iova.0) (sym answers) tt
  by_refusal made is None none answers =
      by_answer made.reply (ap (refusal W) (sym is) ∙ none) (subst (λ (e : Event A). Answers W e made.reply) is answers)

pub comes_of_write : {A : Type 0} (settings : Settings) (before : List (Record A)) (made : Record A)
    (device : DeviceNo) (iova : Iova) (bytes : List ℕ) → IsRun settings (before ++ made ∷ [])
    → made.event ≡ event.DeviceWrite device iova bytes → ComesOfWrite iova.0 made.reply
comes_of_write settings before made device iova bytes run is =
    by_refusal settings before device iova bytes (run_before settings before made run) made is
    (refusal (world_of settings before) made.event) refl (last_lawful settings before made run)
