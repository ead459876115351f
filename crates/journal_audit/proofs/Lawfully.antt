-- Whether a record is lawful, by its parts, and the world after it.
use Rattle.std.proofs.Common.{◌≡◌, ℕ, Bool, true, false, ◌&&◌, None, Some, Option, Result, Ok, Err, IfOk, List, [], sym, ap, subst, ◌∙◌}
use Rattle.std.specs.List.{list_all}
use Rattle.iofd_rows.proofs.Bools.{both_true}
use Rattle.iofd_steps.specs.After.{changed}
use Rattle.iofd_steps.specs.Answers.{Answers}
use Rattle.iofd_refusals.specs.Checks.{refusal}
use Rattle.iofd_words.specs.Frames.{is_free}
use Rattle.iofd_steps.specs.Run.{IsAnswer, Lawful, MovesFrames, after, after_answer}
use Rattle.iofd_words.specs.Record.{Record}
use Rattle.iofd_words.specs.Tables.{MovesTables, are_different, with_tables}
use Rattle.iofd_words.specs.World.{World}
use Rattle.iofd_words.specs.declared.numbers.FrameNo.{FrameNo}
use Rattle.iofd_words.specs.declared.refusal.Cause.{Cause}
use Rattle.iofd_words.specs.declared.reply.Reply.TheVariants as reply
use Rattle.journal_audit_world.specs.Decides.{Decides}

-- ---- tests

pub not_so : {P : Type 0} (b : Bool) → b ≡ false → Decides b P → P → ⊥
not_so true is decides = cc
not_so false is decides = decides

pub decided : {P Q : Type 0} (b : Bool) → (P → Q) → (Q → P) → Decides b P → Decides b Q
decided true to from is = to is
decided false to from is = λ q. is (from q)

-- ---- lawful or not

module _ {A : Type 0} where
  -- a refused event
  pub refused : (at : ℕ) (w : World) (r : Record A) (cause : Cause) (b : Bool) → refusal w r.event ≡ Some cause
      → Decides b ((r.reply ≡ reply.Refused (record { cause = cause })) × ((r.taken ≡ []) × (r.given ≡ [])))
      → Decides b (Lawful at w r)
  unfolding Lawful
  refused at w r cause b is =
      decided b
      (λ (parts : (r.reply ≡ reply.Refused (record { cause = cause })) × ((r.taken ≡ []) × (r.given ≡ []))). (
        subst (λ (o : Option Cause). IsAnswer w r o) (sym is) parts.0,
        subst (λ (o : Option Cause). MovesFrames at w r o) (sym is) parts.1,
      ))
      (λ lawful. (
        subst (λ (o : Option Cause). IsAnswer w r o) is lawful.0,
        subst (λ (o : Option Cause). MovesFrames at w r o) is lawful.1,
      ))

  pub after_refused : (at : ℕ) (w : World) (r : Record A) (cause : Cause) → refusal w r.event ≡ Some cause
      → after at w r ≡ w
  unfolding after
  after_refused at w r cause is = ap (λ (o : Option Cause). after_answer at w r o) is

  -- one that nothing refuses
  abbrev pub Moves : ℕ → World → Record A → Type 0
  Moves at w r = MovesTables w (changed at w r.event r.reply) r.event r.reply r.taken r.given

  parts_of : (at : ℕ) (w : World) (r : Record A) → refusal w r.event ≡ None → Lawful at w r
      → Answers w r.event r.reply × Moves at w r
  unfolding Lawful
  parts_of at w r is lawful = (
    subst (λ (o : Option Cause). IsAnswer w r o) is lawful.0,
    subst (λ (o : Option Cause). MovesFrames at w r o) is lawful.1,
  )

  pub unanswered : (at : ℕ) (w : World) (r : Record A) → refusal w r.event ≡ None
      → (Answers w r.event r.reply → ⊥) → Lawful at w r → ⊥
  unanswered at w r is other lawful = other (parts_of at w r is lawful).0

  pub granted : (at : ℕ) (w : World) (r : Record A) (b : Bool) → refusal w r.event ≡ None
      → Answers w r.event r.reply → Decides b (Moves at w r) → Decides b (Lawful at w r)
  unfolding Lawful
  granted at w r b is answers =
      decided b
      (λ (moves : Moves at w r). (
        subst (λ (o : Option Cause). IsAnswer w r o) (sym is) answers,
        subst (λ (o : Option Cause). MovesFrames at w r o) (sym is) moves,
      ))
      (λ lawful. (parts_of at w r is lawful).1)

  pub not_free : (at : ℕ) (w : World) (r : Record A) → refusal w r.event ≡ None
      → (list_all (λ frame. is_free w.settings.pool w.user_pages w.pins w.table_frames frame.0) r.taken
      && are_different r.taken) ≡ false → Lawful at w r → ⊥
  not_free at w r is fails lawful =
      let moves = (parts_of at w r is lawful).1 in
      let both = both_true _ _ moves.free moves.different in
      cc

  pub after_granted : (at : ℕ) (w : World) (r : Record A) → refusal w r.event ≡ None
      → after at w r ≡ with_tables r.taken r.given (changed at w r.event r.reply)
  unfolding after
  after_granted at w r is = ap (λ (o : Option Cause). after_answer at w r o) is

  -- by frames that are the record's
  pub by_moves : (at : ℕ) (w : World) (r : Record A) (taken given : List FrameNo) (b : Bool) → taken ≡ r.taken
      → given ≡ r.given → refusal w r.event ≡ None → Answers w r.event r.reply
      → Decides b (MovesTables w (changed at w r.event r.reply) r.event r.reply taken given) → Decides b (Lawful at w r)
  by_moves at w r taken given b same_taken same_given is answers moves =
      granted at w r b is answers
      (subst (λ (fs : List FrameNo).
      Decides b (MovesTables w (changed at w r.event r.reply) r.event r.reply fs r.given)) same_taken
      (subst (λ (fs : List FrameNo).
      Decides b (MovesTables w (changed at w r.event r.reply) r.event r.reply taken fs)) same_given moves))

  pub after_moves : (at : ℕ) (w : World) (r : Record A) (taken given : List FrameNo) → taken ≡ r.taken
      → given ≡ r.given → refusal w r.event ≡ None
      → with_tables taken given (changed at w r.event r.reply) ≡ after at w r
  after_moves at w r taken given same_taken same_given is =
      ap (λ (fs : List FrameNo). with_tables fs given (changed at w r.event r.reply)) same_taken
      ∙ ap (λ (fs : List FrameNo). with_tables r.taken fs (changed at w r.event r.reply)) same_given
      ∙ sym (after_granted at w r is)

pub if_ok_weaker : {T E : Type 0} (r : Result T E) (P Q : T → Type 0) → ((x : T) → P x → Q x) → IfOk r P → IfOk r Q
if_ok_weaker (Ok x) P Q more p = more x p
if_ok_weaker (Err e) P Q more p = tt
