-- Jobs that are done one after another.
use Rattle.std.proofs.Common.{◌≡◌, ℕ, ◌+◌, List, [], ◌∷◌, ◌++◌, length, refl, sym, ap, ◌∙◌, subst}
use Rattle.std.proofs.Common.{append_assoc, append-nil, suc, Result, Ok, Err, IfOk, OnErr, arith}
use Rattle.iofd_words.specs.Settings.{Settings}
use Rattle.iofd_words.specs.declared.event.Event.{Event}
use Rattle.iofd_words.specs.declared.refusal.NoMemory.{NoMemory}
use Rattle.iommufd_core.specs.declared.apply.Stamp.{Stamp}
use Rattle.lane_lock.specs.Outcomes.{HadNoLane, OnlySees}
use Rattle.lane_lock.specs.Passes.{view_of}
use Rattle.guarded_core.specs.Passes.{CoreGhosts}
use Rattle.shared_iommufd.specs.Made.{Makes, act_of, place_of}
use Rattle.shared_iommufd.specs.Ports.{CorePort}
use Rattle.device_threads.specs.Jobs.{AreDone, IsDone, Turns, told_of}
use Rattle.device_threads.specs.declared.job.Job.{Job}
use Rattle.device_threads.specs.declared.job.JobResult.{JobResult}

-- a list without its first element
pub one_fewer : {X : Type 0} (xs others : List X) (x : X) → xs ≡ x ∷ others → length xs ≡ suc (length others)
one_fewer xs others x is = ap length is

module _ {A : Type 0} {g : CoreGhosts A} where
  -- a call of a port that makes one record, or none for want of memory
  pub turns : (settings : Settings) (e : Event A) (p q : CorePort A g) (made : Result Stamp NoMemory)
      → IfOk made (λ stamp. Makes settings p.pass (act_of e) stamp q.pass)
      → OnErr made (OnlySees (view_of p.pass) (view_of q.pass)) → HadNoLane (view_of p.pass) (view_of q.pass)
      → q.last ≡ place_of made
      → Turns settings e p (told_of made) q
  turns settings e p q (Ok stamp) makes none had last =
      record { stamp = stamp; makes = makes; reply = refl; last = last }
  turns settings e p q (Err no_memory) makes none had last = (none, had, last)

module _ {A : Type 0} {g : CoreGhosts A} (settings : Settings) (lanes : ℕ) (port : CorePort A g) (jobs : List Job) where
  -- whatever comes of the jobs that are left, all jobs have the results so far and that
  abbrev pub GoesOn : ℕ → CorePort A g → List Job → List JobResult → Type 0
  GoesOn number p left results =
      (more : List JobResult) (last : CorePort A g) → AreDone settings lanes number p left more last
      → AreDone settings lanes 1 port jobs (results ++ more) last

  pub none_done : GoesOn 1 port jobs []
  none_done = λ more last rest. rest

  pub one_done : (number : ℕ) (p q : CorePort A g) (left others : List Job) (results new : List JobResult) (what : Job)
      (result : JobResult) → left ≡ what ∷ others → new ≡ results ++ result ∷ []
      → IsDone settings lanes number p what result q → GoesOn number p left results → GoesOn (number + 1) q others new
  one_done number p q left others results new what result is grown one on = λ more last rest.
      subst (λ (l : List JobResult). AreDone settings lanes 1 port jobs l last)
      (sym (ap (λ l. l ++ more) grown ∙ append_assoc results (result ∷ []) more))
      (on (result ∷ more) last (subst (λ (l : List Job). AreDone settings lanes number p l (result ∷ more) last)
      (sym is) (q, one, rest)))

  pub all_done : (number : ℕ) (p : CorePort A g) (left : List Job) (results : List JobResult) → length left ≡ 0
      → GoesOn number p left results → AreDone settings lanes 1 port jobs results p
  all_done number p [] results none on =
      subst (λ (l : List JobResult). AreDone settings lanes 1 port jobs l p) (append-nil results) (on [] p refl)
  all_done number p (what ∷ left) results none on = absurd (omega arith)
