-- What the calls of callers and of devices' ports do: what those of the server do, by this pass or port. None waits:
-- one that is carried out met no lane that was held.
use Rattle.std.specs.Prelude.{◌≡◌, ℕ, List, Option, None, Result, Vec, IfOk, IfErr}
use Rattle.std.specs.Arc.{arc_value}
use Rattle.std.specs.declared.alloc.Global.{Global}
use Rattle.iofd_words.specs.Bounds.{Bounds}
use Rattle.iofd_words.specs.declared.call_error.CallError.{CallError}
use Rattle.iofd_words.specs.declared.event.Event.{Event}
use Rattle.iofd_words.specs.declared.fault.AccessKind.{AccessKind}
use Rattle.iofd_words.specs.declared.numbers.FileNo.{FileNo}
use Rattle.iofd_words.specs.declared.numbers.ObjId.{ObjId}
use Rattle.iofd_words.specs.declared.query.Answer.{Answer}
use Rattle.iofd_words.specs.declared.query.Query.{Query}
use Rattle.iofd_words.specs.declared.query.Translation.{Translation}
use Rattle.iofd_words.specs.declared.refusal.NoMemory.{NoMemory}
use Rattle.iommufd_core.specs.declared.apply.Stamp.{Stamp}
use Rattle.journal_audit_writing.specs.declared.whole.JournalError.{JournalError}
use Rattle.lane_lock.specs.Outcomes.{HadAll, HadLane, MetNone, OnlySees, RefusesRead}
use Rattle.lane_lock.specs.Passes.{SamePass, lane_of, lanes_of, view_of}
use Rattle.lane_lock.specs.declared.refusal.NotNow.{NotNow}
use Rattle.guarded_core.specs.Guarded.{RefusesCommit}
use Rattle.guarded_core.specs.Passes.{CoreGhosts, CorePass}
use Rattle.guarded_core.specs.declared.try_error.TryError.{TryError}
use Rattle.shared_iommufd.specs.Ioctls.{IsDecoded, RefusesIoctl}
use Rattle.shared_iommufd.specs.Made.{Makes, act_of}
use Rattle.shared_iommufd.specs.Met.{MetAsTold}
use Rattle.shared_iommufd.specs.PortReads.{Reads}
use Rattle.shared_iommufd.specs.PortTranslations.{Translates}
use Rattle.shared_iommufd.specs.PortWrites.{Writes}
use Rattle.shared_iommufd.specs.Ports.{CorePort, KeepsNothing, SamePort, most_of, standing_of}
use Rattle.shared_iommufd.specs.Seen.{AreTriedNotices, IsAnswered, IsTriedJournalOf}
use Rattle.shared_iommufd.specs.Servers.{settings_of}
use Rattle.shared_iommufd.specs.declared.ioctl_answer.IoctlAnswer.{IoctlAnswer}
use Rattle.shared_iommufd.specs.declared.server.Server.{Server}
use Rattle.iommufd_c.specs.Turns.{turn_event}
use Rattle.iommufd_c.specs.declared.handle.caller.Caller.{Caller}
use Rattle.iommufd_c.specs.declared.handle.device.Access.{Access}
use Rattle.iommufd_c.specs.declared.handle.device.Device.{Device}
use Rattle.iommufd_c.specs.declared.handle.turn.Turn.{Turn}

-- what a server does by a pass: the pass before, what is told, and the pass after
abbrev pub OfPass : Type 0 → Type 1
OfPass R = (g : CoreGhosts Global) → Server Global → CorePass Global g → R → CorePass Global g → Type 0

-- the same by a device's port
abbrev pub OfPort : Type 0 → Type 1
OfPort R = (g : CoreGhosts Global) → Server Global → CorePort Global g → R → CorePort Global g → Type 0

-- the caller's server does so by its pass; the caller is one of the same server, and has the same to give
abbrev pub ByPass : {R : Type 0} → OfPass R → Caller → R → Caller → Type 0
ByPass P c told d =
    (d.server ≡ c.server) × (d.spare ≡ c.spare) × (d.keys ≡ c.keys) × P _ (arc_value c.server) c.pass told d.pass

-- the device's server does so by its port; it is the same server
abbrev pub ByPort : {R : Type 0} → OfPort R → Device → R → Device → Type 0
ByPort P p told q = (q.server ≡ p.server) × P _ (arc_value p.server) p.port told q.port

-- the pass made one record, of this event, which the stamp tells; or none was made
pub record CallsBy (event : Event Global) (g : CoreGhosts Global) (s : Server Global) (p : CorePass Global g)
    (told : Result Stamp (TryError NoMemory)) (q : CorePass Global g) : Type 0 where
  pub same_pass : SamePass p q
  pub made : IfOk told (λ stamp. Makes (settings_of s) p (act_of event) stamp q)
  pub met : IfOk told (λ _. MetNone (view_of p) (view_of q))
  pub had : IfOk told (λ _. HadAll (view_of p) (view_of q))
  pub refused : IfErr told (RefusesCommit (lanes_of s.lock) (view_of p) (view_of q))

-- the question is answered after all records that the pass has then seen; or its lane couldn't be had
pub record LooksBy (query : Query) (g : CoreGhosts Global) (s : Server Global) (p : CorePass Global g)
    (told : Result Answer NotNow) (q : CorePass Global g) : Type 0 where
  pub same_pass : SamePass p q
  pub sees : OnlySees (view_of p) (view_of q)
  pub answer : IfOk told (λ answer. IsAnswered (settings_of s) q query answer)
  pub met : IfOk told (λ _. MetNone (view_of p) (view_of q))
  pub had : IfOk told (λ _. HadLane (view_of p) (view_of q))
  pub refused : IfErr told (RefusesRead (view_of p) (view_of q) (lane_of p))

-- the access object's notices, or why there are none, are told after all records that the pass has then seen; or its
-- lane couldn't be had
pub record TellsNoticesBy (file : FileNo) (access : ObjId) (g : CoreGhosts Global) (s : Server Global)
    (p : CorePass Global g) (told : Result (Vec Bounds Global) (TryError CallError)) (q : CorePass Global g) : Type 0
  where
    pub same_pass : SamePass p q
    pub sees : OnlySees (view_of p) (view_of q)
    pub notices : AreTriedNotices (settings_of s) p q file access told

-- the journal, or why there is none, is told of all records that the pass has then seen; or its lane couldn't be had
pub record TellsJournalBy (g : CoreGhosts Global) (s : Server Global) (p : CorePass Global g)
    (told : Result (Vec ℕ Global) (TryError JournalError)) (q : CorePass Global g) : Type 0 where
  pub same_pass : SamePass p q
  pub sees : OnlySees (view_of p) (view_of q)
  pub journal : IsTriedJournalOf (settings_of s) p q told

-- the file's ioctl of this number and these bytes is carried out; or nothing was made
pub record ServesBy (file : FileNo) (number : ℕ) (bytes : List ℕ) (g : CoreGhosts Global) (s : Server Global)
    (p : CorePass Global g) (told : Result (IoctlAnswer Global) (TryError NoMemory)) (q : CorePass Global g) : Type 0
  where
    pub same_pass : SamePass p q
    pub served : IfOk told (λ answer. IsDecoded (settings_of s) p file number bytes answer q)
    pub met : IfOk told (λ _. MetNone (view_of p) (view_of q))
    pub refused : IfErr told (RefusesIoctl Global file number bytes (lanes_of s.lock) (lane_of p) (view_of p)
        (view_of q))

-- the device's turn made one record, which the stamp tells, or none; the port keeps nothing
pub record TakesTurnBy (turn : Turn) (g : CoreGhosts Global) (s : Server Global) (p : CorePort Global g)
    (told : Result Stamp (TryError NoMemory)) (q : CorePort Global g) : Type 0 where
  pub same_port : SamePort p q
  pub made : IfOk told (λ stamp. Makes (settings_of s) p.pass (act_of (turn_event p.device turn)) stamp q.pass)
  pub met : IfOk told (λ _. MetNone (view_of p.pass) (view_of q.pass))
  pub had : IfOk told (λ _. HadAll (view_of p.pass) (view_of q.pass))
  pub refused : IfErr told (RefusesCommit (lanes_of s.lock) (view_of p.pass) (view_of q.pass))
  pub empty : KeepsNothing q

-- the device reads into a buffer, from the address on, as far as it comes; it makes no record
pub record ReadsBytesBy (address : ℕ) (old new : List ℕ) (g : CoreGhosts Global) (s : Server Global)
    (p : CorePort Global g) (access : Access) (q : CorePort Global g) : Type 0 where
  pub same_port : SamePort p q
  pub sees : OnlySees (view_of p.pass) (view_of q.pass)
  pub reads : Reads (settings_of s) p.device (most_of p) address old (standing_of p) access.ended (standing_of q) new
  pub met : IfOk access.ended (λ _. MetNone (view_of p.pass) (view_of q.pass))
  pub told : IfErr access.ended (λ e. MetAsTold (view_of p.pass) (view_of q.pass) e.cause)
  pub last : access.last ≡ None

-- the device writes these bytes, from the address on, as far as it comes
pub record WritesBytesBy (address : ℕ) (bytes : List ℕ) (g : CoreGhosts Global) (s : Server Global)
    (p : CorePort Global g) (access : Access) (q : CorePort Global g) : Type 0 where
  pub same_port : SamePort p q
  pub writes : Writes (settings_of s) (lanes_of s.lock) p.device (most_of p) address bytes (standing_of p)
      access.ended (standing_of q) access.last
  pub met : IfOk access.ended (λ _. MetNone (view_of p.pass) (view_of q.pass))
  pub told : IfErr access.ended (λ e. MetAsTold (view_of p.pass) (view_of q.pass) e.cause)

-- the device's page at the address is translated so, where it has the right, after all records that the port's pass
-- has then seen, and made no record; or its lane couldn't be had
pub record TranslatesPageBy (address : ℕ) (kind : AccessKind) (g : CoreGhosts Global) (s : Server Global)
    (p : CorePort Global g) (told : Result (Option Translation) NotNow) (q : CorePort Global g) : Type 0 where
  pub same_port : SamePort p q
  pub sees : OnlySees (view_of p.pass) (view_of q.pass)
  pub translated : Translates (settings_of s) p.device (most_of p) address kind (standing_of p) told (standing_of q)
  pub last : q.last ≡ None

abbrev pub Calls : Event Global → Caller → Result Stamp (TryError NoMemory) → Caller → Type 0
Calls event = ByPass (CallsBy event)

abbrev pub Looks : Query → Caller → Result Answer NotNow → Caller → Type 0
Looks query = ByPass (LooksBy query)

abbrev pub TellsNotices : FileNo → ObjId → Caller → Result (Vec Bounds Global) (TryError CallError) → Caller → Type 0
TellsNotices file access = ByPass (TellsNoticesBy file access)

abbrev pub TellsJournal : Caller → Result (Vec ℕ Global) (TryError JournalError) → Caller → Type 0
TellsJournal = ByPass TellsJournalBy

abbrev pub Serves : FileNo → ℕ → List ℕ → Caller → Result (IoctlAnswer Global) (TryError NoMemory) → Caller → Type 0
Serves file number bytes = ByPass (ServesBy file number bytes)

abbrev pub TakesTurn : Turn → Device → Result Stamp (TryError NoMemory) → Device → Type 0
TakesTurn turn = ByPort (TakesTurnBy turn)

abbrev pub ReadsBytes : ℕ → List ℕ → List ℕ → Device → Access → Device → Type 0
ReadsBytes address old new = ByPort (ReadsBytesBy address old new)

abbrev pub WritesBytes : ℕ → List ℕ → Device → Access → Device → Type 0
WritesBytes address bytes = ByPort (WritesBytesBy address bytes)

abbrev pub TranslatesPage : ℕ → AccessKind → Device → Result (Option Translation) NotNow → Device → Type 0
TranslatesPage address kind = ByPort (TranslatesPageBy address kind)
