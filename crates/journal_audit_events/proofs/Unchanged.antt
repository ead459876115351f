-- Events after which the world is the same but for what was written, and answers to a device's write and to a report.
use Rattle.std.proofs.Common.{◌≡◌, ℕ, Bool, List, Result, IfOk, refl, sym, subst, ap, ◌∙◌}
use Rattle.iofd_steps.specs.After.{changed}
use Rattle.iofd_steps.specs.Answers.{Answers, AnswersDirty}
use Rattle.iofd_words.specs.Dirty.{reported_words}
use Rattle.iofd_words.specs.World.{World}
use Rattle.iofd_words.specs.declared.event.DirtyRequest.{DirtyRequest}
use Rattle.iofd_words.specs.declared.event.Event.{Event}
use Rattle.iofd_words.specs.declared.event.Event.TheVariants as event
use Rattle.iofd_words.specs.declared.numbers.DeviceNo.{DeviceNo}
use Rattle.iofd_words.specs.declared.numbers.FileNo.{FileNo}
use Rattle.iofd_words.specs.declared.numbers.Iova.{Iova}
use Rattle.iofd_words.specs.declared.numbers.ObjId.{ObjId}
use Rattle.iofd_words.specs.declared.numbers.UserNo.{UserNo}
use Rattle.iofd_words.specs.declared.refusal.NoMemory.{NoMemory}
use Rattle.iofd_words.specs.declared.reply.Reply.{Reply}
use Rattle.iofd_words.specs.declared.reply.Reply.TheVariants as reply
use Rattle.journal_audit_world.specs.Decides.{Decides}
use Rattle.journal_audit_world.specs.Unwritten.{unwritten}

module _ {A : Type 0} (at : ℕ) (w : World) (e : Event A) (answer : Reply) where
  -- the event leaves all but what was written
  abbrev Leaves : Type 0
  Leaves = unwritten w ≡ unwritten (changed at w e answer)

  by_event : (other : Event A) → e ≡ other → unwritten w ≡ unwritten (changed at w other answer) → Leaves
  by_event other is left = left ∙ ap (λ (x : Event A). unwritten (changed at w x answer)) (sym is)

  pub user_written : (user : UserNo) (va : ℕ) (bytes : List ℕ) → e ≡ event.UserWrite user va bytes → Leaves
  unfolding changed
  user_written user va bytes is = by_event (event.UserWrite user va bytes) is (by_answer answer)
    where
      by_answer : (r : Reply) → unwritten w ≡ unwritten (changed {A = A} at w (event.UserWrite user va bytes) r)
      by_answer reply.Done = refl
      by_answer r = refl

  pub access_written : (file : FileNo) (id : ObjId) (iova : Iova) (bytes : List ℕ)
      → e ≡ event.AccessWrite file id iova bytes → Leaves
  unfolding changed
  access_written file id iova bytes is = by_event (event.AccessWrite file id iova bytes) is (by_answer answer)
    where
      by_answer : (r : Reply) → unwritten w ≡ unwritten (changed {A = A} at w (event.AccessWrite file id iova bytes) r)
      by_answer reply.Done = refl
      by_answer r = refl

pub of_write : {A : Type 0} (w : World) (e : Event A) (answer : Reply) (device : DeviceNo) (iova : Iova)
    (bytes : List ℕ) (b : Bool) → e ≡ event.DeviceWrite device iova bytes
    → Decides b (Answers {A = A} w (event.DeviceWrite device iova bytes) answer) → Decides b (Answers w e answer)
of_write {A = A} w e answer device iova bytes b is decides =
    subst (λ (x : Event A). Decides b (Answers w x answer)) (sym is) decides

pub of_clear : {A : Type 0} (w : World) (e : Event A) (answer : Reply) (file : FileNo) (request : DirtyRequest)
    (r : Result Bool NoMemory) → e ≡ event.DirtyClear file request
    → IfOk r (λ b. Decides b (AnswersDirty (reported_words w.tracked file request) answer))
    → IfOk r (λ b. Decides b (Answers w e answer))
unfolding Answers
of_clear {A = A} w e answer file request r is decides =
    subst (λ (x : Event A). IfOk r (λ b. Decides b (Answers w x answer))) (sym is) decides
