-- What the core's answers to a port's questions are.
use Rattle.std.proofs.Common.{◌≡◌, ℕ, zero, suc, Bool, true, false, cond, not, is_none, Option, Some, None, List, []}
use Rattle.std.proofs.Common.{◌∷◌, Contains, refl, sym, subst, arith}
use Rattle.std.specs.List.{list_any}
use Rattle.iofd_rows.proofs.Bools.{and_true}
use Rattle.iofd_runs.proofs.Runs.{run_keeps}
use Rattle.iofd_runs.proofs.SameSettings.{keeps_settings, tabled_settings}
use Rattle.iofd_refusals.specs.Checks.{access_checks}
use Rattle.iofd_words.specs.Files.{is_device}
use Rattle.iofd_words.specs.FirstTrue.{first_true}
use Rattle.iofd_words.specs.Frames.{bytes_at}
use Rattle.iofd_steps.specs.Look.{answers_in, answers_to, cached_answers, passes_in}
use Rattle.iofd_words.specs.Pages.{offset_of}
use Rattle.iofd_words.specs.Policy.{is_pass_at, outcomes}
use Rattle.iofd_steps.specs.Run.{IsRun, world_of}
use Rattle.iofd_words.specs.Record.{Record}
use Rattle.iofd_words.specs.Settings.{Settings}
use Rattle.iofd_words.specs.Turns.{turns_of}
use Rattle.iofd_words.specs.View.{view}
use Rattle.iofd_words.specs.Walk.{translation}
use Rattle.iofd_words.specs.World.{opening}
use Rattle.iofd_words.specs.declared.fault.AccessKind.TheVariants.{Read}
use Rattle.iofd_words.specs.declared.numbers.DeviceNo.{DeviceNo}
use Rattle.iofd_words.specs.declared.numbers.FrameNo.{FrameNo}
use Rattle.iofd_words.specs.declared.numbers.Iova.{Iova}
use Rattle.iofd_words.specs.declared.query.Answer.{Answer}
use Rattle.iofd_words.specs.declared.query.Answer.TheVariants as answer
use Rattle.iofd_words.specs.declared.query.Query.TheVariants as query
use Rattle.iofd_words.specs.declared.refusal.Cause.{Cause}
use Rattle.iofd_words.specs.declared.refusal.Cause.TheVariants as cause

-- the one answer of a list of one
one_of : (a told : Answer) → Contains (a ∷ []) told → told ≡ a
one_of a told (zero, below, is) = sym is
one_of a told (suc place, below, is) = absurd (omega (arith, below))

module _ (s : Settings) (device : DeviceNo) where
  -- a question about a known device isn't refused
  known_told : (a told : Answer) → is_device s device ≡ true
      → Contains (elim (first_true ((cause.Id, not (is_device s device)) ∷ [])) as (λ _. List Answer) [
        | Some c ↦ answer.Refused (record { cause = c }) ∷ []
        | None ↦ a ∷ []
      ]) told → told ≡ a
  known_told a told known has =
      one_of a told (subst (λ (b : Bool). Contains (elim (first_true ((cause.Id, not b) ∷ [])) as (λ _. List Answer) [
        | Some c ↦ answer.Refused (record { cause = c }) ∷ []
        | None ↦ a ∷ []
      ]) told) known has)

module _ {A : Type 0} (settings : Settings) (records : List (Record A)) (device : DeviceNo) where
  pub turns_told : (told : Answer) → is_device (world_of settings records).settings device ≡ true
      → Contains (answers_to settings records (query.Turns device)) told → told ≡ answer.Count (turns_of device records)
  unfolding answers_in
  turns_told told known has =
      known_told (world_of settings records).settings device (answer.Count (turns_of device records)) told known has

  pub walk_told : (iova : Iova) (told : Answer) → is_device (world_of settings records).settings device ≡ true
      → Contains (answers_to settings records (query.WalkFor device iova)) told
      → told ≡ answer.Walk (translation (view (world_of settings records)) device iova.0)
  unfolding answers_in
  walk_told iova told known has =
      known_told (world_of settings records).settings device
      (answer.Walk (translation (view (world_of settings records)) device iova.0)) told known has

  -- a read at a frame at which it may pass has its bytes
  pub cached_told : (iova : Iova) (len : ℕ) (frame : FrameNo) (told : Answer)
      → passes_in (world_of settings records) device iova len Read frame ≡ true
      → Contains (answers_to settings records (query.CachedRead device iova len frame)) told
      → told ≡ answer.Read (bytes_at (world_of settings records).writes frame.0 (offset_of iova.0) len)
  unfolding answers_in
  cached_told iova len frame told passes has =
      by_cause (first_true (access_checks (view (world_of settings records)) device iova len)) parts.0 has
    where
      parts : (is_none (first_true (access_checks (view (world_of settings records)) device iova len)) ≡ true)
          × (list_any (is_pass_at frame) (outcomes (world_of settings records) device iova.0 Read) ≡ true)
      parts = and_true (is_none (first_true (access_checks (view (world_of settings records)) device iova len)))
          (list_any (is_pass_at frame) (outcomes (world_of settings records) device iova.0 Read)) passes

      bytes : Answer
      bytes = answer.Read (bytes_at (world_of settings records).writes frame.0 (offset_of iova.0) len)

      by_pass : (b : Bool) → b ≡ true → Contains (cond b (bytes ∷ []) []) told → told ≡ bytes
      by_pass true is has = one_of bytes told has
      by_pass false is has = cc

      by_cause : (o : Option Cause) → is_none o ≡ true
          → Contains (elim o as (λ _. List Answer) [
            | Some c ↦ answer.Refused (record { cause = c }) ∷ []
            | None ↦ cached_answers (world_of settings records) device iova len frame
          ]) told → told ≡ bytes
      by_cause (Some c) none has = cc
      by_cause None none has =
          by_pass (list_any (is_pass_at frame) (outcomes (world_of settings records) device iova.0 Read)) parts.1 has

-- a run's world has the settings of the run
pub run_settings : {A : Type 0} (settings : Settings) (records : List (Record A)) → IsRun settings records
    → (world_of settings records).settings ≡ settings
unfolding IsRun world_of
run_settings settings records run =
    run_keeps (λ w. w.settings ≡ settings) (tabled_settings settings) (keeps_settings settings) 0
    (opening settings) records run refl
