-- The record of an event that is refused, and of one that is carried out, with the frames of tables that it moves or
-- doesn't.
use Rattle.std.proofs.Common.{◌≡◌, ℕ, Bool, true, false, not, Option, Some, None, Result, Ok, Err, List, refl, sym, subst, []}
use Rattle.std.specs.List.{list_all}
use Rattle.std.specs.Prelude.{IsTrue}
use Rattle.std.specs.Result.{IfOk, OnErr}
use Rattle.iofd_steps.specs.After.{changed}
use Rattle.iofd_steps.specs.Answers.{Answers}
use Rattle.iofd_refusals.specs.Checks.{refusal}
use Rattle.iofd_steps.specs.Run.{IsAnswer, Lawful, MovesFrames, after, after_answer}
use Rattle.iofd_words.specs.Record.{is_report}
use Rattle.iofd_words.specs.Tables.{MovesTables, is_orphan, may_go, with_tables}
use Rattle.iofd_words.specs.View.{View, view}
use Rattle.iofd_words.specs.World.{World}
use Rattle.iofd_words.specs.declared.event.Event.{Event}
use Rattle.iofd_words.specs.declared.event.Event.TheVariants as event
use Rattle.iofd_words.specs.declared.numbers.FrameNo.{FrameNo}
use Rattle.iofd_words.specs.declared.numbers.PassNo.{PassNo}
use Rattle.iofd_words.specs.declared.refusal.Cause.{Cause}
use Rattle.iofd_words.specs.declared.reply.Reply.{Reply}
use Rattle.iofd_words.specs.declared.rows.TableFrame.{TableFrame}
use Rattle.iommufd_core.specs.Server.{may_lack, takes_memory}
use Rattle.iofd_words.specs.declared.reply.Reply.TheVariants as reply
use Rattle.iofd_runs.proofs.StillTabled.{MakesNone, TakesNone}
use Rattle.server_state.proofs.Still.{chosen_moves}
use Rattle.server_state.specs.Choice.{IsChosen}
use Rattle.server_state.proofs.ViewShown.{same_view}
use Rattle.server_state.specs.Seen.{seen}
use Rattle.server_state.specs.Shows.{Shows}
use Rattle.server_state.specs.Step.{ChosenSteps, IsGranted, IsGrantedAt, IsGrantedFor, IsGrantedVia, IsKnown}
use Rattle.server_state.specs.Step.{MovingSteps, Steps, recorded}
use Rattle.server_state.specs.declared.state.State.{State}

module _ (A : Type 0) (at : ℕ) (w : World) (pass : PassNo) (e : Event A) where
  pub refused_lawful : (cause : Cause) → refusal w e ≡ Some cause
      → Lawful at w (recorded {A = A} pass e (reply.Refused (record { cause = cause })) [] [])
  unfolding Lawful
  refused_lawful cause is =
      let told = recorded {A = A} pass e (reply.Refused (record { cause = cause })) [] [] in
      (subst (IsAnswer w told) (sym is) refl, subst (MovesFrames at w told) (sym is) (refl, refl))

  pub refused_after : (cause : Cause) (answer : Reply) → refusal w e ≡ Some cause
      → after at w (recorded {A = A} pass e answer [] []) ≡ w
  unfolding after
  refused_after cause answer is = rw (is, after_answer) refl

  module _ (answer : Reply) (taken given : List FrameNo) (none : refusal w e ≡ None) where
    pub answered_lawful : Answers w e answer → MovesTables w (changed at w e answer) e answer taken given
        → Lawful at w (recorded {A = A} pass e answer taken given)
    unfolding Lawful
    answered_lawful answers moves =
        let told = recorded {A = A} pass e answer taken given in
        (subst (IsAnswer w told) (sym none) answers, subst (MovesFrames at w told) (sym none) moves)

    pub answered_after : after at w (recorded {A = A} pass e answer taken given) ≡ with_tables taken
        given (changed at w e answer)
    unfolding after
    answered_after = rw (none, after_answer) refl

-- of an answer, what follows from what is known of it
pub if_ok : {X E : Type 0} (r : Result X E) (P Q : X → Type 0) → ((x : X) → P x → Q x) → IfOk r P → IfOk r Q
if_ok (Ok x) P Q weaker known = weaker x known
if_ok (Err e) P Q weaker known = known

pub on_err : {X E : Type 0} (r : Result X E) (P Q : Type 0) → (P → Q) → OnErr r P → OnErr r Q
on_err (Ok x) P Q weaker known = known
on_err (Err e) P Q weaker known = weaker known

pub on_both : {X E : Type 0} (r : Result X E) (P Q R : Type 0) → (P → Q → R) → OnErr r P → OnErr r Q → OnErr r R
on_both (Ok x) P Q R weaker one other = one
on_both (Err e) P Q R weaker one other = weaker one other

-- a commit that moves no frames of tables
module _ {A : Type 0} (at : ℕ) (e : Event A) (via : Option FrameNo) (old new : State A) (answer : Reply)
    (taken given : List FrameNo) (no_taken : taken ≡ []) (no_given : given ≡ []) (makes : (w : World)
    → MakesNone w e) (takes : (w : World) → TakesNone w e)
    (never : (left : World) (t : TableFrame) → may_go left e answer t ≡ false) where
  pub none_moved : ChosenSteps at e via old answer new → MovingSteps at e via old answer taken given new
  none_moved steps = rw (no_taken, no_given) (chosen_moves at e via answer new never old steps makes (λ w tidy none. takes w))

  -- and of which there is one answer, or the server's is any
  pub none_chosen : Steps at e old answer new → ((w : World) → IsChosen w e via answer)
      → MovingSteps at e via old answer taken given new
  none_chosen steps chosen =
      none_moved (λ w tidy shows none may. let (answers, after) = steps w tidy shows none in (answers, chosen w, after))

-- ---- events by which frames of tables may move: none of them tells a report

abbrev pub may_move : {A : Type 0} → Event A → Bool
may_move (event.Map file request) = true
may_move (event.Copy file request) = true
may_move (event.Unmap file request) = true
may_move (event.HwptAlloc file request) = true
may_move (event.Destroy file id) = true
may_move (event.Close file) = true
may_move (event.Attach device pt_id) = true
may_move (event.Detach device) = true
may_move e = false

no_report : {A X : Type 0} (w : World) (e : Event A) (answer : Reply) → may_move e ≡ true → Answers w e answer
    → is_report answer ≡ true → X
unfolding Answers
no_report w (event.Map file request) (reply.Dirty words) moves answers = absurd answers
no_report w (event.Copy file request) (reply.Dirty words) moves answers = absurd answers
no_report w (event.Unmap file request) (reply.Dirty words) moves answers = absurd answers
no_report w (event.HwptAlloc file request) (reply.Dirty words) moves answers = absurd answers
no_report w (event.Destroy file id) (reply.Dirty words) moves answers = absurd answers
no_report w (event.Close file) (reply.Dirty words) moves answers = absurd answers
no_report w (event.Attach device pt_id) (reply.Dirty words) moves answers = absurd answers
no_report w (event.Detach device) (reply.Dirty words) moves answers = absurd answers
no_report w e (reply.Dirty words) moves answers = absurd cc
no_report w e answer moves answers = λ is. absurd cc

-- ---- what an event is granted, and whether it may take memory, where it is known which one it is
module _ {A : Type 0} (at : ℕ) (e f : Event A) (via : Option FrameNo) (s : State A) (same : e ≡ f)
    (granted : IsGrantedFor at e via s) where
  pub granted_at : IsGrantedAt at f s
  granted_at = subst (λ (x : Event A). IsGrantedAt at x s) same granted.granted

  pub granted_as : IsGranted f s
  granted_as = record { at = at; granted = granted_at }

  pub granted_via : IsGrantedVia f via s
  granted_via = record { at = at; granted = subst (λ (x : Event A). IsGrantedFor at x via s) same granted }

  -- its answer is no report, if it is one of those that may move frames of tables
  pub tells_none : {X : Type 0} → may_move f ≡ true → (answer : Reply) (taken given : List FrameNo) (new : State A)
      → MovingSteps at f via s answer taken given new → is_report answer ≡ true → X
  tells_none moves answer taken given new steps =
      let on = subst (λ (x : Event A). IsGrantedFor at x via s) same granted in
      let told = steps on.granted.world on.granted.tidy on.granted.shows on.granted.none on.may in
      no_report on.granted.world f answer moves told.0

  pub granted_known : IsKnown s
  granted_known =
      record { at = at; world = granted.granted.world; tidy = granted.granted.tidy; shows = granted.granted.shows }

pub takes_as : {A : Type 0} (s : State A) (e f : Event A) → e ≡ f
    → IsTrue (takes_memory (seen s) f) → IsTrue (takes_memory (seen s) e)
takes_as s e f same takes = subst (λ (x : Event _). IsTrue (takes_memory (seen s) x)) (sym same) takes

pub lack_as : {A : Type 0} (w : World) (e f : Event A) (via : Option FrameNo) → e ≡ f → IsTrue (may_lack w f via)
    → IsTrue (may_lack w e via)
lack_as w e f via same lacks = subst (λ (x : Event _). IsTrue (may_lack w x via)) (sym same) lacks

-- of a world that is shown
pub takes_in : {A : Type 0} (w : World) (s : State A) → Shows w s
    → list_all (λ table. not (is_orphan w.objects table)) w.table_frames ≡ true → (e : Event A)
    → IsTrue (takes_memory (seen s) e) → IsTrue (takes_memory (view w) e)
takes_in w s shows owned e takes =
    subst (λ (v : View). IsTrue (takes_memory v e)) (same_view w s shows owned) takes
