-- What a call of ioctl makes and answers.
use Rattle.std.specs.Prelude.{◌≡◌, ◌⊎◌, ℕ, false, Option, Some, None, List, [], length, Result, Ok, Err}
use Rattle.std.specs.declared.alloc.Global.{Global}
use Rattle.iofd_words.specs.Bounds.{Bounds}
use Rattle.iofd_words.specs.FirstTrue.{first_true}
use Rattle.iofd_steps.specs.Look.{AreUsableRanges, ranges_checks}
use Rattle.iofd_words.specs.Record.{Record}
use Rattle.iofd_words.specs.Refusal as refusals
use Rattle.iofd_words.specs.Settings.{Settings}
use Rattle.iofd_words.specs.View.{view}
use Rattle.iofd_words.specs.declared.call_error.CallError.{CallError}
use Rattle.iofd_words.specs.declared.call_error.CallError.TheVariants as error
use Rattle.iofd_words.specs.declared.event.DirtyRequest.{DirtyRequest}
use Rattle.iofd_words.specs.declared.event.Event.{Event}
use Rattle.iofd_words.specs.declared.numbers.FileNo.{FileNo}
use Rattle.iofd_words.specs.declared.query.Answer.{Answer}
use Rattle.iofd_words.specs.declared.query.Answer.TheVariants as looked
use Rattle.iofd_words.specs.declared.query.Query.TheVariants as query
use Rattle.iofd_words.specs.declared.refusal.Cause.{Cause}
use Rattle.iofd_words.specs.declared.refusal.Errno.{Errno}
use Rattle.iofd_words.specs.declared.refusal.NoMemory.{NoMemory}
use Rattle.iofd_words.specs.declared.reply.Reply.{Reply}
use Rattle.iofd_words.specs.declared.reply.Reply.TheVariants as reply
use Rattle.ioctl_codec.specs.Events.{asked, command_of, errno_of, ranges_errno}
use Rattle.ioctl_codec.specs.Refusals as codec
use Rattle.ioctl_codec.specs.Spelling.{Spells, ranges_written_back, written_back}
use Rattle.ioctl_codec.specs.declared.command.Command.{Command}
use Rattle.ioctl_codec.specs.declared.command.Command.TheVariants.{DirtyReport}
use Rattle.ioctl_codec.specs.declared.command.RangesRequest.{RangesRequest}
use Rattle.ioctl_codec.specs.declared.events.Asked.{Asked}
use Rattle.ioctl_codec.specs.declared.events.Asked.TheVariants as asks
use Rattle.iommufd_core.specs.History.{History, world}
use Rattle.iommufd_core.specs.declared.apply.Stamp.{Stamp}
use Rattle.iova_ranges.specs.declared.range_set.RangeSet.{RangeSet}
use Rattle.lane_lock.specs.Outcomes.{HadAll, HadLane, HadNoLane, HadNone, MetNone, OnlySees, RefusesRead}
use Rattle.lane_lock.specs.Passes.{view_of}
use Rattle.lane_lock.specs.Views.{IsBlank}
use Rattle.lane_lock.specs.declared.table.View.{View}
use Rattle.guarded_core.specs.Entries.{history_of}
use Rattle.guarded_core.specs.Guarded.{RefusesCommit}
use Rattle.shared_iommufd.specs.Made.{Makes}
use Rattle.guarded_core.specs.Passes.{CoreGhosts, CorePass}
use Rattle.shared_iommufd.specs.Seen.{HasSeen, IsAnswered}
use Rattle.guarded_core.specs.declared.try_error.TryError.{TryError}
use Rattle.guarded_core.specs.declared.try_error.TryError.TheVariants as tried
use Rattle.shared_iommufd.specs.declared.ioctl_answer.IoctlAnswer.{IoctlAnswer}

-- what the question which pages were written is answered, as a reply to its command
abbrev pub reply_told : Answer → Reply
reply_told (looked.Dirty words) = reply.Dirty words
reply_told (looked.Refused refusal) = reply.Refused refusal
reply_told other = reply.Done

-- what is written back for a report that doesn't clear and is told so
unfoldable pub report_written_back : DirtyRequest → Reply → List ℕ
report_written_back request words = written_back {A = Global} (DirtyReport request false) words

module _ {A : Type 0} where
  -- this error is answered, if any, and these bytes are written back
  abbrev pub Answers : IoctlAnswer A → Option Errno → List ℕ → Type 0
  Answers answer errno bytes = (answer.errno ≡ errno) × (answer.bytes.items ≡ bytes)

  -- what is written back for an event that has this reply: that of the command that asks for it
  abbrev pub event_written_back : Event A → Reply → List ℕ
  event_written_back e reply = elim (command_of e) [ None ↦ [] | Some command ↦ written_back command reply ]

  -- it is answered so
  abbrev pub AnswersEvent : Event A → Reply → IoctlAnswer A → Type 0
  AnswersEvent e reply answer = Answers answer (errno_of reply) (event_written_back e reply)

  -- and so is what a core tells of ranges: the list of them, or why there is none
  abbrev pub AnswersSet : (Z : Type 0) → RangesRequest → Result (RangeSet Z) CallError → IoctlAnswer A → Type 0
  AnswersSet Z request (Ok set) answer =
      Answers answer (ranges_errno request (length set.spans)) (ranges_written_back request set.spans)
  AnswersSet Z request (Err (error.Refused refusal)) answer = Answers answer (Some (refusals.errno_of refusal.cause)) []
  AnswersSet Z request (Err (error.Memory no_memory)) answer = ⊥

  -- the question for ranges is answered in the world of the history: by why it is refused, or by the ranges
  abbrev pub AnswersRanges : History A → FileNo → RangesRequest → IoctlAnswer A → Type 0
  AnswersRanges h file request answer =
      elim (first_true (ranges_checks (view (world h)) file request.ioas)) as (λ _. Type 0) [
        | Some cause ↦ Answers answer (Some (refusals.errno_of cause)) []
        | None ↦ (ranges : List Bounds) × AreUsableRanges (view (world h)) file request.ioas ranges
            × Answers answer (ranges_errno request (length ranges)) (ranges_written_back request ranges)
      ]

  -- the words are written back behind its structure, or it is answered why there are none
  abbrev pub AnswersReport : DirtyRequest → Answer → IoctlAnswer A → Type 0
  AnswersReport request words answer =
      Answers answer (errno_of (reply_told words)) (report_written_back request (reply_told words))

  module _ {g : CoreGhosts A} where
    -- the event made one record, whose reply is answered to the command that asks for it
    pub record IsMade (settings : Settings) (p : CorePass A g) (e : Event A) (answer : IoctlAnswer A)
        (q : CorePass A g) : Type 0 where
      pub stamp : Stamp
      pub makes : Makes settings p (record { event = e; via = None }) stamp q
      pub answers : AnswersEvent e stamp.reply answer

    -- no record was made, and the pass had a share once; the ranges are those after all records that it has then seen
    pub record IsTold (settings : Settings) (p : CorePass A g) (file : FileNo) (request : RangesRequest)
        (answer : IoctlAnswer A) (q : CorePass A g) : Type 0 where
      pub sees : OnlySees (view_of p) (view_of q)
      pub had : HadLane (view_of p) (view_of q)
      pub records : List (Record A)
      pub seen : HasSeen settings q records
      pub answers : AnswersRanges (history_of settings records) file request answer

    -- no record was made, and the pass had a share once; the report is of all records that it has then seen
    pub record IsReported (settings : Settings) (p : CorePass A g) (file : FileNo) (request : DirtyRequest)
        (answer : IoctlAnswer A) (q : CorePass A g) : Type 0 where
      pub sees : OnlySees (view_of p) (view_of q)
      pub had : HadLane (view_of p) (view_of q)
      pub told : Answer
      pub answered : IsAnswered settings q (query.Dirty file request) told
      pub answers : AnswersReport request told answer

    -- what the command asks for was carried out
    abbrev pub IsServed : Settings → CorePass A g → FileNo → Asked A → IoctlAnswer A → CorePass A g → Type 0
    IsServed settings p file (asks.Event e) answer q = IsMade settings p e answer q
    IsServed settings p file (asks.Ranges request) answer q = IsTold settings p file request answer q
    IsServed settings p file (asks.Dirty request) answer q = IsReported settings p file request answer q

    -- the bytes spell no command, and are refused by the first cause; the pass is as it was
    pub record IsUndecoded (p : CorePass A g) (number : ℕ) (bytes : List ℕ) (answer : IoctlAnswer A) (q : CorePass A g)
        : Type 0 where
      pub cause : Cause
      pub first : codec.refusal number bytes ≡ Some cause
      pub same : q ≡ p
      pub answers : Answers answer (Some (refusals.errno_of cause)) []

    -- the bytes are refused, or the command that they spell was carried out
    abbrev pub IsDecoded : Settings → CorePass A g → FileNo → ℕ → List ℕ → IoctlAnswer A → CorePass A g → Type 0
    IsDecoded settings p file number bytes answer q =
        IsUndecoded p number bytes answer q
        ⊎ ((command : Command A) × Spells number bytes command
        × IsServed settings p file (asked file command) answer q)

-- no look was had: the lane of the pass was held or empty; or no lane was met held, a share was read at most once, and
-- memory was wanting
abbrev pub RefusesLook : {E : Type 0} → ℕ → View E → View E → TryError NoMemory → Type 0
RefusesLook lane v w (tried.NotNow refused) = RefusesRead v w lane refused
RefusesLook lane v w (tried.Call no_memory) = OnlySees v w × MetNone v w × (HadNone v w ⊎ HadLane v w)

-- An event isn't carried out, where so many lanes are: it is refused as a commit is; or memory was wanting for its
-- answer, before a lane was asked for.
abbrev pub RefusesEvent : {E : Type 0} → ℕ → View E → View E → TryError NoMemory → Type 0
RefusesEvent lanes v w (tried.NotNow refused) = RefusesCommit lanes v w (tried.NotNow refused)
RefusesEvent lanes v w (tried.Call no_memory) =
    OnlySees v w × MetNone v w × IsBlank w × (HadNone v w ⊎ HadAll v w)

-- What a command asks for isn't carried out by a call of this lane, where so many lanes are, and nothing was made: an
-- event is refused as a commit is, or for its answer, a question as a look is.
abbrev pub RefusesAsked : {A E : Type 0} → ℕ → ℕ → Asked A → View E → View E → TryError NoMemory → Type 0
RefusesAsked lanes lane (asks.Event e) v w error = RefusesEvent lanes v w error
RefusesAsked lanes lane (asks.Ranges request) v w error = RefusesLook lane v w error
RefusesAsked lanes lane (asks.Dirty request) v w error = RefusesLook lane v w error

-- A call of ioctl of the file isn't carried out: no cause refuses its bytes, they spell a command, and what this asks
-- for isn't carried out.
abbrev pub RefusesIoctl : (A : Type 0) → {E : Type 0} → FileNo → ℕ → List ℕ → ℕ → ℕ → View E → View E
    → TryError NoMemory → Type 0
RefusesIoctl A file number bytes lanes lane v w error =
    (codec.refusal number bytes ≡ None)
    × ((command : Command A) × Spells number bytes command × RefusesAsked lanes lane (asked file command) v w error)

-- What a command asks for isn't carried out by a call that waits, for want of memory: no share was had for an event,
-- and for a question at most one, and not all lanes.
abbrev pub FailsAsked : {A E : Type 0} → Asked A → View E → View E → Type 0
FailsAsked (asks.Event e) v w = HadNoLane v w
FailsAsked (asks.Ranges request) v w = HadNone v w ⊎ HadLane v w
FailsAsked (asks.Dirty request) v w = HadNone v w ⊎ HadLane v w

-- A call of ioctl of the file that waits isn't carried out: its bytes spell a command, and for what this asks for
-- memory was wanting.
abbrev pub FailsIoctl : (A : Type 0) → {E : Type 0} → FileNo → ℕ → List ℕ → View E → View E → Type 0
FailsIoctl A file number bytes v w =
    (command : Command A) × Spells number bytes command × FailsAsked (asked file command) v w
