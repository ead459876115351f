-- One step of a session: the line that it is answered with, and the server behind it.
use Rattle.std.specs.Prelude.{◌≡◌, ◌⊎◌, ◌<◌, ℕ, Bool, true, false, Option, Some, None, List, Vec, length}
use Rattle.iofd_words.specs.Accesses.{notices}
use Rattle.iofd_words.specs.Bounds.{Bounds}
use Rattle.iofd_refusals.specs.Checks.{refusal}
use Rattle.iofd_words.specs.FirstTrue.{first_true}
use Rattle.iofd_steps.specs.Look.{AreUsableRanges, answers_to, notices_checks, ranges_checks}
use Rattle.iofd_steps.specs.Run.{IsRun}
use Rattle.iofd_words.specs.View.{view}
use Rattle.iofd_words.specs.declared.event.DirtyRequest.{DirtyRequest}
use Rattle.iofd_words.specs.declared.event.Event.{Event}
use Rattle.iofd_words.specs.declared.event.Event.TheVariants as event
use Rattle.iofd_words.specs.declared.numbers.FileNo.{FileNo}
use Rattle.iofd_words.specs.declared.numbers.ObjId.{ObjId}
use Rattle.iofd_words.specs.declared.query.Answer.{Answer}
use Rattle.iofd_words.specs.declared.query.Query.{Query}
use Rattle.iofd_words.specs.declared.query.Query.TheVariants as query
use Rattle.iofd_words.specs.declared.refusal.Cause.{Cause}
use Rattle.iofd_words.specs.declared.reply.Reply.{Reply}
use Rattle.ioctl_codec.specs.Events.{asked}
use Rattle.ioctl_codec.specs.Refusals as codec
use Rattle.ioctl_codec.specs.Refusals.{SpellsEntries}
use Rattle.ioctl_codec.specs.Spelling.{Spells}
use Rattle.ioctl_codec.specs.declared.command.Command.{Command}
use Rattle.ioctl_codec.specs.declared.events.Asked.{Asked}
use Rattle.ioctl_codec.specs.declared.events.Asked.TheVariants as asks
use Rattle.ioctl_codec.specs.declared.command.RangesRequest.{RangesRequest}
use Rattle.iommufd_cli.specs.Replies.{answer_text, event_text, line, memory_text, notices_text, ranges_text}
use Rattle.iommufd_cli.specs.Replies.{refusal_text, report_text}
use Rattle.server_state.specs.Choice.{IsChosen, IsLooked}
use Rattle.iommufd_core.specs.History.{HasOneMore, world}
use Rattle.iommufd_core.specs.Server.{MayWant, Server}
use Rattle.iommufd_script.specs.declared.line.Step.{Step}
use Rattle.iommufd_script.specs.declared.line.Step.TheVariants as step

-- the text tells the notices of these spans, or there are some and memory was wanting
abbrev pub AreNotices : List Bounds → List ℕ → Type 0
AreNotices spans text = (text ≡ line (notices_text spans)) ⊎ ((0 < length spans) × (text ≡ line memory_text))

-- the step is an event of a few numbers: no ioctl, nothing with bytes, and no question
abbrev pub is_plain_event : Step → Bool
is_plain_event (step.Ioctl file number bytes) = false
is_plain_event (step.UserRead user va len) = false
is_plain_event (step.UserWrite user va bytes) = false
is_plain_event (step.DeviceRead device iova len) = false
is_plain_event (step.DeviceWrite device iova bytes) = false
is_plain_event (step.AccessRead file id iova len) = false
is_plain_event (step.AccessWrite file id iova bytes) = false
is_plain_event (step.Notices file id) = false
is_plain_event step.FreeFrames = false
is_plain_event (step.Held user) = false
is_plain_event s = true

module _ {A : Type 0} where
  -- the bytes of an answer: those of the long line where there is one, and else of the one in place
  abbrev pub text_of : Option (Vec ℕ A) → List ℕ → List ℕ
  text_of (Some long) line = long.items
  text_of None line = line

  -- the event is recorded with this reply, which is the one that is chosen, as caller 0's
  pub record IsRecorded (s : Server A) (e : Event A) (reply : Reply) (after : Server A) : Type 0 where
    pub record_is : HasOneMore (record { 0 = 0 }) e reply s.history after.history
    pub run : IsRun after.history.settings after.history.records
    pub chosen : refusal (world s.history) e ≡ None → IsChosen (world s.history) e None reply

  -- memory was wanting for the event or its record: nothing changes
  pub record IsWanting (s : Server A) (e : Event A) (text : List ℕ) (after : Server A) : Type 0 where
    pub wants : MayWant s (record { event = e; via = None })
    pub same : after.history ≡ s.history
    pub text_is : text ≡ line memory_text

  -- memory was wanting for the bytes of an ioctl, more than are decoded in place: nothing changes
  pub record IsUnread (s : Server A) (bytes text : List ℕ) (after : Server A) : Type 0 where
    pub long : 64 < length bytes
    pub same : after ≡ s
    pub text_is : text ≡ line memory_text

  -- an event: it is recorded, and the line tells its reply; or memory was wanting
  abbrev pub IsApplied : Server A → Event A → List ℕ → Server A → Type 0
  IsApplied s e text after =
      ((reply : Reply) × IsRecorded s e reply after × (text ≡ line (event_text e reply)))
      ⊎ IsWanting s e text after

  -- the question for usable ranges: nothing changes. Where it isn't refused, the line tells them, or memory was wanting
  abbrev pub AreTold : Server A → FileNo → RangesRequest → List ℕ → Type 0
  AreTold s file request text =
      ((ranges : List Bounds) × AreUsableRanges (view (world s.history)) file request.ioas ranges
      × (text ≡ line (ranges_text request ranges)))
      ⊎ (text ≡ line memory_text)

  abbrev pub IsRanges : Server A → FileNo → RangesRequest → List ℕ → Server A → Type 0
  IsRanges s file request text after =
      (after ≡ s)
      × elim (first_true (ranges_checks (view (world s.history)) file request.ioas)) as (λ _. Type 0) [
        | Some cause ↦ text ≡ line (refusal_text cause)
        | None ↦ AreTold s file request text
      ]

  -- the question for an access object's notices: nothing changes. Where it isn't refused, the line tells them
  abbrev pub IsNotices : Server A → FileNo → ObjId → List ℕ → Server A → Type 0
  IsNotices s file access text after =
      (after ≡ s)
      × elim (first_true (notices_checks (view (world s.history)) file access)) as (λ _. Type 0) [
        | Some cause ↦ text ≡ line (refusal_text cause)
        | None ↦ AreNotices (notices (view (world s.history)) file access) text
      ]

  -- the question which pages were written: nothing changes, and the line tells the answer
  abbrev pub IsReport : Server A → FileNo → DirtyRequest → List ℕ → Server A → Type 0
  IsReport s file request text after =
      (after ≡ s) × (answer : Answer)
      × IsLooked (answers_to s.history.settings s.history.records (query.Dirty file request)) answer
      × (text ≡ line (report_text request answer))

  -- what a command of a file asks for: an event, the ranges, or which pages were written
  abbrev pub IsServed : Server A → FileNo → Asked A → List ℕ → Server A → Type 0
  IsServed s file (asks.Event e) text after = IsApplied s e text after
  IsServed s file (asks.Ranges request) text after = IsRanges s file request text after
  IsServed s file (asks.Dirty request) text after = IsReport s file request text after

  -- bytes that spell no command are refused
  pub record IsUndecoded (s : Server A) (number : ℕ) (bytes text : List ℕ) (after : Server A) : Type 0 where
    pub cause : Cause
    pub first : codec.refusal number bytes ≡ Some cause
    pub same : after ≡ s
    pub text_is : text ≡ line (refusal_text cause)

  -- memory was wanting for the entries of a command that has some: nothing changes
  pub record IsUnlisted (s : Server A) (number : ℕ) (bytes text : List ℕ) (after : Server A) : Type 0 where
    pub some : (c : Command A) × SpellsEntries number bytes c
    pub same : after ≡ s
    pub text_is : text ≡ line memory_text

  -- an ioctl whose bytes are at hand: they are refused, or the command that they spell is carried out
  abbrev pub IsDecoded : Server A → FileNo → ℕ → List ℕ → List ℕ → Server A → Type 0
  IsDecoded s file number bytes text after =
      IsUndecoded s number bytes text after ⊎ IsUnlisted s number bytes text after
      ⊎ ((c : Command A) × Spells number bytes c × IsServed s file (asked file c) text after)

  -- an ioctl, unless memory was wanting for its bytes
  abbrev pub IsIoctl : Server A → FileNo → ℕ → List ℕ → List ℕ → Server A → Type 0
  IsIoctl s file number bytes text after = IsDecoded s file number bytes text after ⊎ IsUnread s bytes text after

  -- a question: nothing changes, and the line tells the answer, which is the one that is chosen
  abbrev pub IsAsked : Server A → Query → List ℕ → Server A → Type 0
  IsAsked s q text after =
      (after ≡ s) × (answer : Answer)
      × IsLooked (answers_to s.history.settings s.history.records q) answer × (text ≡ line (answer_text answer))

  -- a step of the script
  abbrev pub IsAnswered : Server A → Step → List ℕ → Server A → Type 0
  IsAnswered s (step.Ioctl file number bytes) text after = IsIoctl s file number bytes text after
  IsAnswered s (step.Close file) text after = IsApplied s (event.Close file) text after
  IsAnswered s (step.UserMap user va) text after = IsApplied s (event.UserMap user va) text after
  IsAnswered s (step.UserUnmap user va) text after = IsApplied s (event.UserUnmap user va) text after
  IsAnswered s (step.UserRead user va len) text after = IsAsked s (query.UserRead user va len) text after
  IsAnswered s (step.UserWrite user va bytes) text after =
      IsApplied s (event.UserWrite user va bytes) text after
  IsAnswered s (step.Bind file device) text after = IsApplied s (event.Bind file device) text after
  IsAnswered s (step.Unbind file id) text after = IsApplied s (event.Unbind file id) text after
  IsAnswered s (step.Attach device pt_id) text after = IsApplied s (event.Attach device pt_id) text after
  IsAnswered s (step.Detach device) text after = IsApplied s (event.Detach device) text after
  IsAnswered s (step.Flush device) text after = IsApplied s (event.Flush device) text after
  IsAnswered s (step.DeviceRead device iova len) text after = IsAsked s (query.DeviceRead device iova len) text after
  IsAnswered s (step.DeviceWrite device iova bytes) text after =
      IsApplied s (event.DeviceWrite device iova bytes) text after
  IsAnswered s (step.AccessCreate file) text after = IsApplied s (event.AccessCreate file) text after
  IsAnswered s (step.AccessAttach file id ioas) text after = IsApplied s (event.AccessAttach file id ioas) text after
  IsAnswered s (step.AccessDetach file id) text after = IsApplied s (event.AccessDetach file id) text after
  IsAnswered s (step.AccessPin file id request) text after = IsApplied s (event.AccessPin file id request) text after
  IsAnswered s (step.AccessUnpin file id request) text after =
      IsApplied s (event.AccessUnpin file id request) text after
  IsAnswered s (step.AccessRead file id iova len) text after = IsAsked s (query.AccessRead file id iova len) text after
  IsAnswered s (step.AccessWrite file id iova bytes) text after =
      IsApplied s (event.AccessWrite file id iova bytes) text after
  IsAnswered s (step.Notices file id) text after = IsNotices s file id text after
  IsAnswered s step.FreeFrames text after = IsAsked s query.FreeFrames text after
  IsAnswered s (step.Held user) text after = IsAsked s (query.Held user) text after
