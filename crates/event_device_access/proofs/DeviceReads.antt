-- What a device's read is answered.
use Rattle.std.proofs.Common.{◌≡◌, ℕ, zero, suc, Some, None, List, [], ◌∷◌, map, Contains, refl, sym, ◌∙◌, ap, subst}
use Rattle.std.proofs.Common.{◌||◌, not, Bool, true, false, arith, cond, eqb, is_some}
use Rattle.std.proofs.lemmas.Bool.Decides.{nat_tests}
use Rattle.iofd_words.specs.Record.{Record}
use Rattle.event_device_access.proofs.DeviceWrites.{given_is}
use Rattle.server_state.specs.Choice.{IsLooked, is_denial, is_fault}
use Rattle.std.specs.List.{find, list_all, list_any}
use Rattle.iofd_words.specs.FirstTrue.{first_true}
use Rattle.iofd_words.specs.Frames.{bytes_at}
use Rattle.iofd_steps.specs.Look.{answers_in, cached_answers, lawful_answers, query_checks, read_answer}
use Rattle.iofd_words.specs.Pages.{offset_of}
use Rattle.iofd_words.specs.Policy.{Outcome, outcomes, Passes, Denied, is_pass_at}
use Rattle.iofd_words.specs.Tables.{is_orphan}
use Rattle.iofd_words.specs.View.{view}
use Rattle.iofd_words.specs.World.{World}
use Rattle.iofd_words.specs.declared.fault.AccessKind.TheVariants.{Read}
use Rattle.iofd_words.specs.declared.numbers.DeviceNo.{DeviceNo}
use Rattle.iofd_words.specs.declared.numbers.FrameNo.{FrameNo}
use Rattle.iofd_words.specs.declared.numbers.Iova.{Iova}
use Rattle.iofd_words.specs.declared.query.Answer.{Answer}
use Rattle.iofd_words.specs.declared.query.Answer.TheVariants as answer
use Rattle.iofd_words.specs.declared.query.Query.{Query}
use Rattle.iofd_words.specs.declared.query.Query.TheVariants as query
use Rattle.iofd_words.specs.declared.refusal.Cause.{Cause}
use Rattle.iofd_runs.proofs.PassFound.{contained_map}
use Rattle.iofd_runs.proofs.PinnedAccess.{some_outcome}
use Rattle.server_state.proofs.ViewShown.{same_query_refusal}
use Rattle.event_device_access.specs.Outcomes.{chosen_outcome}
use Rattle.server_state.specs.Seen.{seen}
use Rattle.server_state.specs.Shows.{Shows}
use Rattle.server_state.specs.Step.{IsTidy}
use Rattle.server_state.specs.declared.state.State.{State}

-- ---- answers

-- the answer to a read is a fault where the outcome is a denial
told_fault : (w : World) (device : DeviceNo) (address len : ℕ) (o : Outcome)
    → is_fault (read_answer w device address len o) ≡ is_denial o
told_fault w device address len (Passes frame) = refl
told_fault w device address len (Denied reason) = refl

told_faults : (w : World) (device : DeviceNo) (address len : ℕ) (os : List Outcome)
    → list_any is_fault (map (read_answer w device address len) os) ≡ is_some (find is_denial os)
told_faults w device address len [] = refl
told_faults w device address len (o ∷ os) =
    rw (told_fault w device address len o, told_faults w device address len os) (by_test (is_denial o))
  where
    by_test : (b : Bool) → (b || is_some (find is_denial os)) ≡ is_some (cond b (Some o) (find is_denial os))
    by_test true = refl
    by_test false = refl

pub chosen_read : {A : Type 0} (at : ℕ) (w : World) (records : List (Record A)) (device : DeviceNo) (iova : Iova)
    (len : ℕ) (o : Outcome) → IsTidy at w → o ≡ chosen_outcome None (outcomes w device iova.0 Read)
    → Contains (outcomes w device iova.0 Read) o
    × IsLooked (lawful_answers w records (query.DeviceRead device iova len)) (read_answer w device iova.0 len o)
chosen_read at w records device iova len o tidy is =
    let given =
    given_is (outcomes w device iova.0 Read) o (some_outcome at w device iova.0 Read tidy.pins tidy.fit) is in (
      given.lawful,
      record {
        is_lawful = contained_map (read_answer w device iova.0 len) (outcomes w device iova.0 Read) o given.lawful;
        is_fault_else = λ has. told_fault w device iova.0 len o
            ∙ given.denial (sym (told_faults w device iova.0 len (outcomes w device iova.0 Read)) ∙ has);
      },
    )

-- ---- at a frame that was kept

-- a pass that may come of the access is found by its frame
pub pass_told : (frame : FrameNo) (os : List Outcome) → Contains os (Passes frame)
    → list_any (is_pass_at frame) os ≡ true
pass_told frame [] has = absurd (omega (arith, has.1))
pass_told frame (o ∷ os) (zero, below, same) =
    let here : is_pass_at frame o ≡ true = ap (is_pass_at frame) same ∙ own frame.0 in rw here refl
  where
    own : (n : ℕ) → eqb n n ≡ true
    own n = grind (arith, nat_tests)
pass_told frame (o ∷ os) (suc place, below, same) =
    or_later (is_pass_at frame o) (pass_told frame os (place, omega (arith, below), same))
  where
    or_later : (b : Bool) → list_any (is_pass_at frame) os ≡ true → (b || list_any (is_pass_at frame) os) ≡ true
    or_later true later = refl
    or_later false later = later

module _ (w : World) (device : DeviceNo) (iova : Iova) (len : ℕ) (frame : FrameNo)
    (passes : list_any (is_pass_at frame) (outcomes w device iova.0 Read) ≡ true) where
  -- the bytes of the frame
  abbrev kept_bytes : Answer
  kept_bytes = answer.Read (bytes_at w.writes frame.0 (offset_of iova.0) len)

  -- where the read may pass, they are looked
  pub cached_read : IsLooked (cached_answers w device iova len frame) kept_bytes
  cached_read =
      let alone : IsLooked (kept_bytes ∷ []) kept_bytes =
      record { is_lawful = (0, omega arith, refl); is_fault_else = λ has. cc } in
      subst (λ b. IsLooked (cond b (kept_bytes ∷ []) []) kept_bytes) (sym passes) alone

  -- and nothing else is
  pub cached_only : (told : Answer) → IsLooked (cached_answers w device iova len frame) told → kept_bytes ≡ told
  cached_only told looked =
      only (subst (λ b. Contains (cond b (kept_bytes ∷ []) []) told) passes looked.is_lawful)
    where
      only : Contains (kept_bytes ∷ []) told → kept_bytes ≡ told
      only (zero, below, same) = same
      only (suc place, below, same) = absurd (omega (arith, below))

-- ---- refused or not

module _ {A : Type 0} (w : World) (records : List (Record A)) (s : State A) (shows : Shows w s)
    (owned : list_all (λ table. not (is_orphan w.objects table)) w.table_frames ≡ true)
    (q : Query) where
  pub refused_read : (cause : Cause) → Some cause ≡ first_true (query_checks (seen s) q)
      → IsLooked (answers_in w records q) (answer.Refused (record { cause = cause }))
  unfolding answers_in
  refused_read cause is =
      let first : first_true (query_checks (view w) q) ≡ Some cause =
      sym (same_query_refusal w s shows owned q) ∙ sym is in
      let alone : IsLooked (answer.Refused (record { cause = cause }) ∷ [])
      (answer.Refused (record { cause = cause })) =
      record { is_lawful = (0, omega arith, refl); is_fault_else = λ has. cc } in
      rw (first, answers_in) alone

  pub answered_read : None ≡ first_true (query_checks (seen s) q) → answers_in w records q ≡ lawful_answers w records q
  unfolding answers_in
  answered_read is =
      let first : first_true (query_checks (view w) q) ≡ None = sym (same_query_refusal w s shows owned q) ∙ sym is in
      rw (first, answers_in) refl
