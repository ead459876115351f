-- What holds at the opening and is kept by each step holds after every run.
use Rattle.std.proofs.Common.{◌≡◌, ℕ, zero, suc, ◌+◌, Bool, true, false, cond, Option, Some, None, List, [], ◌∷◌, ◌++◌}
use Rattle.std.proofs.Common.{length, refl, subst, arith}
use Rattle.iofd_steps.specs.After.{changed}
use Rattle.iofd_steps.specs.Answers.{Answers}
use Rattle.iofd_refusals.specs.Checks.{refusal}
use Rattle.iofd_words.specs.FirstTrue.{first_true}
use Rattle.iofd_steps.specs.Run.{IsAnswer, Lawful, MovesFrames, after, after_answer, IsRunFrom, world_from}
use Rattle.iofd_words.specs.Record.{Record}
use Rattle.iofd_words.specs.Tables.{MovesTables, with_tables}
use Rattle.iofd_words.specs.World.{World}
use Rattle.iofd_words.specs.declared.event.Event.{Event}
use Rattle.iofd_words.specs.declared.numbers.FrameNo.{FrameNo}
use Rattle.iofd_words.specs.declared.refusal.Cause.{Cause}
use Rattle.iofd_words.specs.declared.reply.Reply.{Reply}

-- a step that keeps P where nothing refuses keeps it, where P doesn't speak of the frames of tables
module _ {A : Type 0} (P : World → Type 0) (tables : (w : World) (taken given : List FrameNo) → P w
    → P (with_tables taken given w)) (keeps : (at : ℕ) (w : World) (e : Event A) (answer : Reply)
    → refusal w e ≡ None → Answers w e answer → P w → P (changed at w e answer)) where
  by_answer : (at : ℕ) (w : World) (r : Record A) (o : Option Cause) → refusal w r.event ≡ o → IsAnswer w r o → P w
      → P (after_answer at w r o)
  by_answer at w r (Some cause) is answers p = p
  by_answer at w r None is answers p =
      tables (changed at w r.event r.reply) r.taken r.given (keeps at w r.event r.reply is answers p)

  pub after_keeps : (at : ℕ) (w : World) (r : Record A) → Lawful at w r → P w → P (after at w r)
  unfolding Lawful after
  after_keeps at w r lawful p = by_answer at w r (refusal w r.event) refl lawful.0 p

  pub run_keeps : (at : ℕ) (w : World) (records : List (Record A)) → IsRunFrom at w records → P w
      → P (world_from at w records)
  run_keeps at w [] run p = p
  run_keeps at w (r ∷ rs) run p = run_keeps (at + 1) (after at w r) rs run.1 (after_keeps at w r run.0 p)

-- a step that keeps P, which may speak of the position too, where nothing refuses keeps it
module _ {A : Type 0} (P : ℕ → World → Type 0) (tables : (at : ℕ) (w : World) (taken given : List FrameNo) → P at w
    → P at (with_tables taken given w)) (later : (at : ℕ) (w : World) → P at w
    → P (at + 1) w) (keeps : (at : ℕ) (w : World) (e : Event A) (answer : Reply) → refusal w e ≡ None
    → Answers w e answer → P at w → P (at + 1) (changed at w e answer)) where
  by_answer_at : (at : ℕ) (w : World) (r : Record A) (o : Option Cause) → refusal w r.event ≡ o → IsAnswer w r o
      → P at w → P (at + 1) (after_answer at w r o)
  by_answer_at at w r (Some cause) is answers p = later at w p
  by_answer_at at w r None is answers p =
      tables (at + 1) (changed at w r.event r.reply) r.taken r.given (keeps at w r.event r.reply is answers p)

  pub after_keeps_at : (at : ℕ) (w : World) (r : Record A) → Lawful at w r → P at w → P (at + 1) (after at w r)
  unfolding Lawful after
  after_keeps_at at w r lawful p = by_answer_at at w r (refusal w r.event) refl lawful.0 p

  pub run_keeps_at : (at end : ℕ) (w : World) (records : List (Record A)) → at + length records ≡ end
      → IsRunFrom at w records → P at w → P end (world_from at w records)
  run_keeps_at at end w [] is run p = let same : at ≡ end = omega (arith, is) in subst (λ (n : ℕ). P n w) same p
  run_keeps_at at end w (r ∷ rs) is run p =
      run_keeps_at (at + 1) end (after at w r) rs (omega (arith, is)) run.1 (after_keeps_at at w r run.0 p)

-- a step that keeps P, which may speak of the frames of tables too, where nothing refuses keeps it
module _ {A : Type 0} (P : World → Type 0)
    (keeps : (at : ℕ) (w : World) (e : Event A) (answer : Reply) (taken given : List FrameNo) → refusal w e ≡ None
    → Answers w e answer → MovesTables w (changed at w e answer) e answer taken given → P w
    → P (with_tables taken given (changed at w e answer))) where
  by_moves : (at : ℕ) (w : World) (r : Record A) (o : Option Cause) → refusal w r.event ≡ o → IsAnswer w r o
      → MovesFrames at w r o → P w → P (after_answer at w r o)
  by_moves at w r (Some cause) is answers moves p = p
  by_moves at w r None is answers moves p = keeps at w r.event r.reply r.taken r.given is answers moves p

  pub after_keeps_tables : (at : ℕ) (w : World) (r : Record A) → Lawful at w r → P w → P (after at w r)
  unfolding Lawful after
  after_keeps_tables at w r lawful p = by_moves at w r (refusal w r.event) refl lawful.0 lawful.1 p

  pub run_keeps_tables : (at : ℕ) (w : World) (records : List (Record A)) → IsRunFrom at w records → P w
      → P (world_from at w records)
  run_keeps_tables at w [] run p = p
  run_keeps_tables at w (r ∷ rs) run p =
      run_keeps_tables (at + 1) (after at w r) rs run.1 (after_keeps_tables at w r run.0 p)

-- a record of a run is lawful in the world that those before it have left
pub lawful_at : {A : Type 0} (at : ℕ) (w : World) (before : List (Record A)) (r : Record A) (later : List (Record A))
    → IsRunFrom at w (before ++ r ∷ later) → Lawful (at + length before) (world_from at w before) r
lawful_at at w [] r later run = let same : at ≡ at + 0 = omega (arith) in subst (λ (n : ℕ). Lawful n w r) same run.0
lawful_at at w (b ∷ before) r later run =
    let same : at + 1 + length before ≡ at + suc (length before) = omega (arith) in
    subst (λ (n : ℕ). Lawful n (world_from (at + 1) (after at w b) before) r) same
    (lawful_at (at + 1) (after at w b) before r later run.1)

-- a beginning of a run is a run
pub run_beginning : {A : Type 0} (at : ℕ) (w : World) (before later : List (Record A))
    → IsRunFrom at w (before ++ later) → IsRunFrom at w before
run_beginning at w [] later run = tt
run_beginning at w (r ∷ before) later run = (run.0, run_beginning (at + 1) (after at w r) before later run.1)

-- the test in this place of a table
abbrev pub test_at : {C : Type 0} → List (C × Bool) → ℕ → Bool
test_at [] place = false
test_at (row ∷ rows) zero = row.1
test_at (row ∷ rows) (suc place) = test_at rows place

-- where nothing refuses, each test of the table is false
pub tests_false : {C : Type 0} (rows : List (C × Bool)) (place : ℕ) → first_true rows ≡ None
    → test_at rows place ≡ false
tests_false [] place none = refl
tests_false {C = C} (row ∷ rows) place none = by_test (λ i is. tests_false rows i is) row.0 row.1 place none
  where
    by_test : ((i : ℕ) → first_true rows ≡ None → test_at rows i ≡ false) → (name : C) (test : Bool) (i : ℕ)
        → cond test (Some name) (first_true rows) ≡ None → test_at ((name, test) ∷ rows) i ≡ false
    by_test later name true i is = cc
    by_test later name false zero is = refl
    by_test later name false (suc i) is = later i is
