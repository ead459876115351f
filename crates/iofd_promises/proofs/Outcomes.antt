-- How an outcome is told, read backwards: which outcome a reply or an answer is of.
use Rattle.std.proofs.Common.{◌≡◌, ℕ, ◌%◌, Option, Some, None, List, [], ◌∷◌, ◌++◌, Contains, refl, ap, subst}
use Rattle.iofd_steps.specs.Answers.{Answers, write_reply}
use Rattle.iofd_refusals.specs.Checks.{access_checks}
use Rattle.iofd_words.specs.FirstTrue.{first_true}
use Rattle.iofd_words.specs.Frames.{bytes_at}
use Rattle.iofd_steps.specs.Look.{answers_in, lawful_answers, read_answer}
use Rattle.iofd_words.specs.Policy.{Outcome, Passes, Denied, fault_of, outcomes}
use Rattle.iofd_steps.specs.Run.{IsRun, world_of}
use Rattle.iofd_words.specs.Record.{Record}
use Rattle.iofd_words.specs.Settings.{Settings}
use Rattle.iofd_words.specs.View.{view}
use Rattle.iofd_words.specs.World.{World}
use Rattle.iofd_words.specs.declared.event.Event.TheVariants as event
use Rattle.iofd_words.specs.declared.fault.AccessKind.TheVariants.{Read, Write}
use Rattle.iofd_words.specs.declared.fault.Fault.{Fault}
use Rattle.iofd_words.specs.declared.fault.FaultReason.{FaultReason}
use Rattle.iofd_words.specs.declared.numbers.DeviceNo.{DeviceNo}
use Rattle.iofd_words.specs.declared.numbers.FrameNo.{FrameNo}
use Rattle.iofd_words.specs.declared.numbers.Iova.{Iova}
use Rattle.iofd_words.specs.declared.query.Answer.{Answer}
use Rattle.iofd_words.specs.declared.query.Answer.TheVariants as answer
use Rattle.iofd_words.specs.declared.query.Query.TheVariants.{DeviceRead}
use Rattle.iofd_words.specs.declared.refusal.Cause.{Cause}
use Rattle.iofd_words.specs.declared.reply.Reply.TheVariants as reply
use Rattle.iofd_rows.proofs.Contained.{contained_in_one}
use Rattle.iofd_rows.proofs.Each.{IsIn, in_map}
use Rattle.iofd_promises.proofs.Rows.{within}
use Rattle.iofd_promises.proofs.Steps.{answered_in}

-- ---- a device's write

passed_as : (w : World) (device : DeviceNo) (address : ℕ) (o : Outcome) (frame : FrameNo)
    → write_reply w device address o ≡ reply.Passed frame → o ≡ Passes frame
passed_as w device address (Passes f) frame is = let same : f ≡ frame = cc in ap Passes same
passed_as w device address (Denied reason) frame is = cc

denied_as : (w : World) (device : DeviceNo) (address : ℕ) (o : Outcome) (fault : Fault)
    → write_reply w device address o ≡ reply.Fault fault → (reason : FaultReason) × (o ≡ Denied reason)
    × (fault_of w.settings device address Write reason ≡ fault)
denied_as w device address (Passes f) fault is = cc
denied_as w device address (Denied reason) fault is = (reason, refl, cc)

pub write_passes : {A : Type 0} (settings : Settings) (before : List (Record A)) (r : Record A) (device : DeviceNo)
    (iova : Iova) (bytes : List ℕ) (frame : FrameNo) → IsRun settings (before ++ r ∷ [])
    → r.event ≡ event.DeviceWrite device iova bytes → r.reply ≡ reply.Passed frame
    → IsIn (outcomes (world_of settings before) device iova.0 Write) (Passes frame)
unfolding Answers
write_passes settings before r device iova bytes frame run of_event answered =
    let (none, answers) = answered_in settings before r run (event.DeviceWrite device iova bytes) (reply.Passed frame)
    refl of_event answered in
    let (o, there, is) = in_map (write_reply (world_of settings before) device iova.0)
    (outcomes (world_of settings before) device iova.0 Write) (reply.Passed frame) (within _ _ answers) in
    subst (IsIn (outcomes (world_of settings before) device iova.0 Write))
    (passed_as (world_of settings before) device iova.0 o frame is) there

pub write_denied : {A : Type 0} (settings : Settings) (before : List (Record A)) (r : Record A) (device : DeviceNo)
    (iova : Iova) (bytes : List ℕ) (fault : Fault) → IsRun settings (before ++ r ∷ [])
    → r.event ≡ event.DeviceWrite device iova bytes → r.reply ≡ reply.Fault fault
    → (reason : FaultReason) × IsIn (outcomes (world_of settings before) device iova.0 Write) (Denied reason)
    × (fault_of (world_of settings before).settings device iova.0 Write reason ≡ fault)
unfolding Answers
write_denied settings before r device iova bytes fault run of_event answered =
    let (none, answers) = answered_in settings before r run (event.DeviceWrite device iova bytes) (reply.Fault fault)
    refl of_event answered in
    let (o, there, is) = in_map (write_reply (world_of settings before) device iova.0)
    (outcomes (world_of settings before) device iova.0 Write) (reply.Fault fault) (within _ _ answers) in
    let (reason, same, told) = denied_as (world_of settings before) device iova.0 o fault is in
    (reason, subst (IsIn (outcomes (world_of settings before) device iova.0 Write)) same there, told)

-- ---- a device's read

-- an answer that is no refusal is of an outcome
read_of : {A : Type 0} (w : World) (records : List (Record A)) (device : DeviceNo) (iova : Iova) (len : ℕ)
    (told : Answer) → ((cause : Cause) → answer.Refused (record { cause = cause }) ≡ told → ⊥)
    → Contains (answers_in w records (DeviceRead device iova len)) told
    → (o : Outcome) × IsIn (outcomes w device iova.0 Read) o × (read_answer w device iova.0 len o ≡ told)
unfolding answers_in
read_of w records device iova len told none has = by_refusal (first_true (access_checks (view w) device iova len)) has
  where
    by_refusal : (o : Option Cause) → Contains
        (elim o [
          | Some cause ↦ answer.Refused (record { cause = cause }) ∷ []
          | None ↦ lawful_answers w records (DeviceRead device iova len)
        ]) told
        → (o : Outcome) × IsIn (outcomes w device iova.0 Read) o × (read_answer w device iova.0 len o ≡ told)
    by_refusal (Some cause) has = absurd (none cause (contained_in_one _ _ has))
    by_refusal None has = in_map (read_answer w device iova.0 len) (outcomes w device iova.0 Read) told (within _ _ has)

read_as : (w : World) (device : DeviceNo) (address len : ℕ) (o : Outcome) (bytes : List ℕ)
    → read_answer w device address len o ≡ answer.Read bytes → (frame : FrameNo) × (o ≡ Passes frame)
    × (bytes_at w.writes frame.0 (address % 4096) len ≡ bytes)
read_as w device address len (Passes f) bytes is = (f, refl, cc)
read_as w device address len (Denied reason) bytes is = cc

fault_as : (w : World) (device : DeviceNo) (address len : ℕ) (o : Outcome) (fault : Fault)
    → read_answer w device address len o ≡ answer.Fault fault → (reason : FaultReason) × (o ≡ Denied reason)
    × (fault_of w.settings device address Read reason ≡ fault)
fault_as w device address len (Passes f) fault is = cc
fault_as w device address len (Denied reason) fault is = (reason, refl, cc)

no_read : (cause : Cause) (bytes : List ℕ) → answer.Refused (record { cause = cause }) ≡ answer.Read bytes → ⊥
no_read cause bytes is = cc

no_fault : (cause : Cause) (fault : Fault) → answer.Refused (record { cause = cause }) ≡ answer.Fault fault → ⊥
no_fault cause fault is = cc

pub read_passes : {A : Type 0} (w : World) (records : List (Record A)) (device : DeviceNo) (iova : Iova) (len : ℕ)
    (bytes : List ℕ) → Contains (answers_in w records (DeviceRead device iova len)) (answer.Read bytes)
    → (frame : FrameNo) × IsIn (outcomes w device iova.0 Read) (Passes frame)
    × (bytes_at w.writes frame.0 (iova.0 % 4096) len ≡ bytes)
read_passes w records device iova len bytes has =
    let (o, there, is) = read_of w records device iova len (answer.Read bytes) (λ cause. no_read cause bytes) has in
    let (frame, same, bytes_are) = read_as w device iova.0 len o bytes is in
    (frame, subst (IsIn (outcomes w device iova.0 Read)) same there, bytes_are)

pub read_denied : {A : Type 0} (w : World) (records : List (Record A)) (device : DeviceNo) (iova : Iova) (len : ℕ)
    (fault : Fault) → Contains (answers_in w records (DeviceRead device iova len)) (answer.Fault fault)
    → (reason : FaultReason) × IsIn (outcomes w device iova.0 Read) (Denied reason)
    × (fault_of w.settings device iova.0 Read reason ≡ fault)
read_denied w records device iova len fault has =
    let (o, there, is) = read_of w records device iova len (answer.Fault fault) (λ cause. no_fault cause fault) has in
    let (reason, same, told) = fault_as w device iova.0 len o fault is in
    (reason, subst (IsIn (outcomes w device iova.0 Read)) same there, told)
