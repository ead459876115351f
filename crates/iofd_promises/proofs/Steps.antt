-- The last record of a run: it was refused, or carried out in the world that those before it have left.
use Rattle.std.proofs.Common.{◌≡◌, ℕ, suc, ◌+◌, Bool, true, false, Option, Some, None, List, [], ◌∷◌, ◌++◌, length}
use Rattle.std.proofs.Common.{refl, ap, sym, ◌∙◌, subst, arith}
use Rattle.iofd_steps.specs.After.{changed}
use Rattle.iofd_steps.specs.Answers.{Answers}
use Rattle.iofd_refusals.specs.Checks.{refusal}
use Rattle.std.specs.List.{list_all}
use Rattle.iofd_words.specs.Frames.{is_free}
use Rattle.iofd_steps.specs.Run.{IsAnswer, IsRun, Lawful, MovesFrames, after, after_answer, world_from, world_of}
use Rattle.iofd_words.specs.Record.{Record}
use Rattle.iofd_words.specs.Settings.{Settings}
use Rattle.iofd_words.specs.Tables.{MovesTables, are_different, with_tables}
use Rattle.iofd_words.specs.World.{World, opening}
use Rattle.iofd_words.specs.declared.event.Event.{Event}
use Rattle.iofd_words.specs.declared.numbers.FrameNo.{FrameNo}
use Rattle.iofd_words.specs.declared.refusal.Cause.{Cause}
use Rattle.iofd_words.specs.declared.reply.Reply.{Reply}
use Rattle.iofd_words.specs.declared.reply.Reply.TheVariants as reply
use Rattle.iofd_runs.proofs.Runs.{lawful_at, run_beginning}

last_world : {A : Type 0} (at : ℕ) (w : World) (before : List (Record A)) (r : Record A)
    → world_from at w (before ++ r ∷ []) ≡ after (at + length before) (world_from at w before) r
last_world at w [] r = let same : at ≡ at + 0 = omega arith in ap (λ (n : ℕ). after n w r) same
last_world at w (b ∷ before) r =
    let same : at + 1 + length before ≡ at + suc (length before) = omega arith in
    last_world (at + 1) (after at w b) before r
    ∙ ap (λ (n : ℕ). after n (world_from (at + 1) (after at w b) before) r) same

abbrev pub is_refused : Reply → Bool
is_refused (reply.Refused refusal) = true
is_refused answer = false

refused : (cause : Cause) (answer : Reply) → is_refused answer ≡ false
    → reply.Refused (record { cause = cause }) ≡ answer → ⊥
refused cause answer other is = clash (ap is_refused is ∙ other)
  where
    clash : true ≡ false → ⊥
    clash same = cc

-- what is said of the world after a record, by whether it was refused
module _ {A : Type 0} (settings : Settings) (before : List (Record A)) (r : Record A)
    (run : IsRun settings (before ++ r ∷ [])) (Q : World → Type 0) where
  lawful : Lawful (length before) (world_of settings before) r
  unfolding IsRun world_of
  lawful =
      let same : 0 + length before ≡ length before = omega arith in
      subst (λ (n : ℕ). Lawful n (world_from 0 (opening settings) before) r) same
      (lawful_at 0 (opening settings) before r [] run)

  last : world_of settings (before ++ r ∷ []) ≡ after (length before) (world_of settings before) r
  unfolding world_of
  last = let same : 0 + length before ≡ length before = omega arith in last_world 0 (opening settings) before r
      ∙ ap (λ (n : ℕ). after n (world_from 0 (opening settings) before) r) same

  pub by_record :
      ((cause : Cause) → refusal (world_of settings before) r.event ≡ Some cause
      → r.reply ≡ reply.Refused (record { cause = cause }) → Q (world_of settings before))
      → (refusal (world_of settings before) r.event ≡ None → Answers (world_of settings before) r.event r.reply
      → MovesTables (world_of settings before) (changed (length before) (world_of settings before) r.event r.reply)
      r.event r.reply r.taken r.given
      → Q (with_tables r.taken r.given (changed (length before) (world_of settings before) r.event r.reply)))
      → Q (world_of settings (before ++ r ∷ []))
  unfolding Lawful after
  by_record stays moves =
      subst Q (sym last) (by_refusal (refusal (world_of settings before) r.event) refl lawful.0 lawful.1)
    where
      by_refusal : (o : Option Cause) → refusal (world_of settings before) r.event ≡ o
          → IsAnswer (world_of settings before) r o → MovesFrames (length before) (world_of settings before) r o
          → Q (after_answer (length before) (world_of settings before) r o)
      by_refusal (Some cause) is answer frames = stays cause is answer
      by_refusal None is answer frames = moves is answer frames

  -- with an answer that is no refusal
  pub by_answer : (answer : Reply) → is_refused answer ≡ false → r.reply ≡ answer
      → (refusal (world_of settings before) r.event ≡ None → Answers (world_of settings before) r.event answer
      → Q (with_tables r.taken r.given (changed (length before) (world_of settings before) r.event answer)))
      → Q (world_of settings (before ++ r ∷ []))
  by_answer answer other answered moves =
      by_record (λ cause is told. absurd (refused cause answer other (sym told ∙ answered)))
      (λ none answers frames.
      let answers_of : Answers (world_of settings before) r.event answer = rw answered at answers in
      rw answered (moves none answers_of))

  -- of an event that wasn't refused
  pub by_event : (e : Event A) (answer : Reply) → is_refused answer ≡ false → r.event ≡ e → r.reply ≡ answer
      → (refusal (world_of settings before) e ≡ None → Answers (world_of settings before) e answer
      → Q (with_tables r.taken r.given (changed (length before) (world_of settings before) e answer)))
      → Q (world_of settings (before ++ r ∷ []))
  by_event e answer other of_event answered moves =
      by_record (λ cause is told. absurd (refused cause answer other (sym told ∙ answered)))
      (λ none answers frames.
      let none_of : refusal (world_of settings before) e ≡ None = rw of_event at none in
      let answers_of : Answers (world_of settings before) e answer = rw (of_event, answered) at answers in
      rw (of_event, answered) (moves none_of answers_of))

-- an event that wasn't refused had a lawful answer
pub answered_in : {A : Type 0} (settings : Settings) (before : List (Record A)) (r : Record A)
    → IsRun settings (before ++ r ∷ []) → (e : Event A) (answer : Reply) → is_refused answer ≡ false → r.event ≡ e
    → r.reply ≡ answer
    → (refusal (world_of settings before) e ≡ None) × Answers (world_of settings before) e answer
answered_in settings before r run e answer other of_event answered =
    by_event settings before r run (λ w. (refusal (world_of settings before) e ≡ None)
    × Answers (world_of settings before) e answer) e answer other of_event answered (λ none
    answers. (none, answers))

-- and tables moved with it
pub moved_in : {A : Type 0} (settings : Settings) (before : List (Record A)) (r : Record A)
    → IsRun settings (before ++ r ∷ []) → (e : Event A) (answer : Reply) → is_refused answer ≡ false → r.event ≡ e
    → r.reply ≡ answer
    → MovesTables (world_of settings before) (changed (length before) (world_of settings before) e answer)
    e answer r.taken r.given
moved_in {A = A} settings before r run e answer other of_event answered =
    by_record settings before r run (λ w. Moved e answer)
    (λ cause is told. absurd (refused cause answer other (sym told ∙ answered)))
    (λ none answers frames. subst (Moved e) answered (subst (λ (e : Event A). Moved e r.reply) of_event frames))
  where
    Moved : Event A → Reply → Type 0
    Moved e answer = MovesTables (world_of settings before)
        (changed (length before) (world_of settings before) e answer) e answer r.taken r.given

-- the frames that it took were free, and each another one
pub by_taken : {A : Type 0} (settings : Settings) (before : List (Record A)) (r : Record A)
    → IsRun settings (before ++ r ∷ [])
    → (list_all (λ (f : FrameNo). is_free (world_of settings before).settings.pool (world_of settings before).user_pages
    (world_of settings before).pins (world_of settings before).table_frames f.0) r.taken ≡ true)
    × (are_different r.taken ≡ true)
unfolding Lawful
by_taken {A = A} settings before r run =
    by_refusal (refusal (world_of settings before) r.event) (lawful settings before r run (λ w. Unit {0})).1
  where
    w : World
    w = world_of settings before

    Free : List FrameNo → Type 0
    Free frames = (list_all (λ (f : FrameNo). is_free w.settings.pool w.user_pages w.pins w.table_frames f.0)
        frames ≡ true) × (are_different frames ≡ true)

    by_refusal : (o : Option Cause) → MovesFrames (length before) w r o → Free r.taken
    by_refusal (Some cause) moves = subst Free (sym moves.0) (refl, refl)
    by_refusal None moves = (moves.free, moves.different)

-- a run's beginning is a run
pub run_before : {A : Type 0} (settings : Settings) (before later : List (Record A)) → IsRun settings (before ++ later)
    → IsRun settings before
unfolding IsRun
run_before settings before later run = run_beginning 0 (opening settings) before later run
