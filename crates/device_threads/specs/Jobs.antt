-- What comes of a device's jobs.
use Rattle.std.specs.Prelude.{◌≡◌, ℕ, ◌+◌, Some, None, Result, Ok, Err, List, [], ◌∷◌}
use Rattle.iofd_words.specs.Record.{Record}
use Rattle.iofd_words.specs.Settings.{Settings}
use Rattle.iofd_words.specs.declared.event.Event.{Event}
use Rattle.iofd_words.specs.declared.event.Event.TheVariants as event
use Rattle.iofd_words.specs.declared.refusal.NoMemory.{NoMemory}
use Rattle.iofd_words.specs.declared.reply.Reply.{Reply}
use Rattle.iommufd_core.specs.declared.apply.Stamp.{Stamp}
use Rattle.lane_lock.specs.Outcomes.{HadNoLane, OnlySees}
use Rattle.lane_lock.specs.Passes.{view_of}
use Rattle.guarded_core.specs.Passes.{CoreGhosts}
use Rattle.shared_iommufd.specs.Made.{Makes, act_of}
use Rattle.shared_iommufd.specs.PortReads.{Reads, as_tried}
use Rattle.shared_iommufd.specs.PortWrites.{Writes}
use Rattle.shared_iommufd.specs.Ports.{CorePort, KeepsNothing, SamePort, most_of, standing_of}
use Rattle.shared_iommufd.specs.declared.error.PortError.{PortError}
use Rattle.shared_iommufd.specs.declared.error.PortCause.{PortCause}
use Rattle.device_threads.specs.Stretches.{EndsAt, HasMade}
use Rattle.device_threads.specs.declared.job.Job.{Job}
use Rattle.device_threads.specs.declared.job.Job.TheVariants as task
use Rattle.device_threads.specs.declared.job.JobResult.{JobResult}
use Rattle.device_threads.specs.declared.job.Outcome.{Outcome}
use Rattle.device_threads.specs.declared.job.Outcome.TheVariants as outcome

-- what a turn of a device tells: the reply to its record, or that there was no memory for it
abbrev pub told_of : Result Stamp NoMemory → Result Reply NoMemory
told_of (Ok stamp) = Ok stamp.reply
told_of (Err no_memory) = Err no_memory

module _ {A : Type 0} {g : CoreGhosts A} where
  -- a read of as many bytes as the buffer has, as a port reads: it made no record, and what was read stands in the
  -- buffer that comes back
  pub record IsRead (settings : Settings) (p : CorePort A g) (address : ℕ) (buffer : List ℕ)
      (ended : Result (Unit {0}) (PortError PortCause)) (back : List ℕ) (q : CorePort A g) : Type 0 where
    pub reads : Reads settings p.device (most_of p) address buffer (standing_of p) (as_tried ended) (standing_of q) back
    pub sees : OnlySees (view_of p.pass) (view_of q.pass)
    pub last : q.last ≡ None

  -- a write of these bytes, as a port writes
  abbrev pub IsWritten : Settings → ℕ → CorePort A g → ℕ → List ℕ → Result (Unit {0}) (PortError PortCause)
      → CorePort A g → Type 0
  IsWritten settings lanes p address bytes ended q =
      Writes settings lanes p.device (most_of p) address bytes (standing_of p) (as_tried ended) (standing_of q) q.last

  -- a turn of the device made one record, of this event, which this is the reply to
  pub record IsTurn (settings : Settings) (e : Event A) (p : CorePort A g) (told : Reply) (q : CorePort A g)
      : Type 0 where
    pub stamp : Stamp
    pub makes : Makes settings p.pass (act_of e) stamp q.pass
    pub reply : stamp.reply ≡ told
    pub last : q.last ≡ Some stamp.at

  -- it made that record, or for want of memory none, and then it had no share to look into
  abbrev pub Turns : Settings → Event A → CorePort A g → Result Reply NoMemory → CorePort A g → Type 0
  Turns settings e p (Ok told) q = IsTurn settings e p told q
  Turns settings e p (Err no_memory) q =
      OnlySees (view_of p.pass) (view_of q.pass) × HadNoLane (view_of p.pass) (view_of q.pass) × (q.last ≡ None)

  -- The port did the job, and this came of it. Before each of its turns it forgets what it keeps.
  abbrev pub ComesOf : Settings → ℕ → CorePort A g → Job → Outcome → CorePort A g → Type 0
  ComesOf settings lanes p (task.Read iova buffer) (outcome.Read back ended) q =
      IsRead settings p iova.0 buffer.items ended back.items q
  ComesOf settings lanes p (task.Write iova bytes) (outcome.Write ended) q =
      IsWritten settings lanes p iova.0 bytes.items ended q
  ComesOf settings lanes p task.Flush (outcome.Turn told) q =
      Turns settings (event.Flush p.device) p told q × KeepsNothing q
  ComesOf settings lanes p (task.Attach pt_id) (outcome.Turn told) q =
      Turns settings (event.Attach p.device pt_id) p told q × KeepsNothing q
  ComesOf settings lanes p task.Detach (outcome.Turn told) q =
      Turns settings (event.Detach p.device) p told q × KeepsNothing q
  ComesOf settings lanes p what came q = ⊥

  -- The result of a port's job of this number: what came of it, and all that its pass made meanwhile, which is one
  -- stretch of records. The result has the place of the last of them, which the port tells.
  pub record IsDone (settings : Settings) (lanes number : ℕ) (p : CorePort A g) (what : Job) (result : JobResult)
      (q : CorePort A g) : Type 0 where
    pub device : result.device ≡ p.device
    pub numbered : result.job ≡ number
    pub comes : ComesOf settings lanes p what result.outcome q
    pub stretch : List (Record A)
    pub made : HasMade p.pass stretch q.pass
    pub at : EndsAt settings q.pass stretch result.at
    pub last : result.at ≡ q.last
    pub same : SamePort p q

  -- one result for each job and no other, in the order of the jobs, which have these numbers from the first on; each
  -- begins as the one before left the port
  abbrev pub AreDone : Settings → ℕ → ℕ → CorePort A g → List Job → List JobResult → CorePort A g → Type 0
  AreDone settings lanes first p [] [] q = q ≡ p
  AreDone settings lanes first p (what ∷ jobs) (result ∷ results) q =
      (between : CorePort A g)
      × IsDone settings lanes first p what result between
      × AreDone settings lanes (first + 1) between jobs results q
  AreDone settings lanes first p jobs results q = ⊥
