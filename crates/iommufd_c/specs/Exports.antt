-- What the exports do: what the call of the handle does, whose result the status and the outcome tell.
use Rattle.std.specs.Prelude.{◌≡◌, ◌⊎◌, ◌<◌, ◌≤◌, ℕ, ℤ, Bool, true, false, List, [], ◌++◌, length, map, take, drop}
use Rattle.std.specs.Prelude.{Option, Some, None, Result, Ok, Err, Vec, ◌==◌, if◌then◌else◌}
use Rattle.std.specs.declared.alloc.Global.{Global}
use Rattle.iofd_words.specs.Bounds.{Bounds}
use Rattle.iofd_words.specs.Rights.{has_right}
use Rattle.iofd_words.specs.Settings.{Settings}
use Rattle.iofd_words.specs.declared.call_error.CallError.{CallError}
use Rattle.iofd_words.specs.declared.event.Event.{Event}
use Rattle.iofd_words.specs.declared.fault.AccessKind.{AccessKind}
use Rattle.iofd_words.specs.declared.fault.AccessKind.TheVariants as kind
use Rattle.iofd_words.specs.declared.numbers.FileNo.{FileNo}
use Rattle.iofd_words.specs.declared.numbers.ObjId.{ObjId}
use Rattle.iofd_words.specs.declared.query.Answer.{Answer}
use Rattle.iofd_words.specs.declared.query.Answer.TheVariants as answer
use Rattle.iofd_words.specs.declared.query.Query.{Query}
use Rattle.iofd_words.specs.declared.query.Translation.{Translation}
use Rattle.iofd_words.specs.declared.refusal.NoMemory.{NoMemory}
use Rattle.iommufd_core.specs.declared.apply.Stamp.{Stamp}
use Rattle.journal_audit_writing.specs.declared.whole.JournalError.{JournalError}
use Rattle.lane_lock.specs.declared.refusal.NotNow.{NotNow}
use Rattle.guarded_core.specs.declared.try_error.TryError.{TryError}
use Rattle.shared_iommufd.specs.declared.ioctl_answer.IoctlAnswer.{IoctlAnswer}
use Rattle.iommufd_c.specs.Calls.{Calls, Looks, ReadsBytes, Serves, TakesTurn, TellsJournal, TellsNotices}
use Rattle.iommufd_c.specs.Calls.{TranslatesPage, WritesBytes}
use Rattle.iommufd_c.specs.Handles.{GivesDevice, OnCaller, OnDevice, Opens, Shares}
use Rattle.iommufd_c.specs.declared.handle.client.Client.{Client}
use Rattle.iommufd_c.specs.declared.handle.device.Access.{Access}
use Rattle.iommufd_c.specs.declared.handle.error.GiveError.{GiveError}
use Rattle.iommufd_c.specs.declared.handle.error.OpenError.{OpenError}
use Rattle.iommufd_c.specs.declared.handle.turn.Turn.{Turn}
use Rattle.iommufd_c.specs.Configured.{are_in_limits}
use Rattle.iommufd_c.specs.Outcomes as tells
use Rattle.iommufd_c.specs.Statuses as says
use Rattle.iommufd_c.specs.declared.outcome.Outcome.{Outcome}
use Rattle.iommufd_c.specs.declared.spans.SpanRow.{SpanRow}
use Rattle.iommufd_c.specs.declared.translated.TranslationRow.{TranslationRow}

-- an event was applied by a caller's handle
pub record IsCalled (event : Event Global) (before : Option Client) (status : ℤ) (outcome : Outcome)
    (after : Option Client) : Type 0 where
  pub told : Option (Result Stamp (TryError NoMemory))
  pub called : OnCaller before told after (Calls event)
  pub says_so : status ≡ says.call_status told
  pub tells_so : outcome ≡ tells.call_outcome told

-- one access may have these bytes
abbrev pub IsBurst : List ℕ → Type 0
IsBurst bytes = (0 < length bytes) × (length bytes ≤ 64)

-- the same of an event with bytes that one access may have; with others nothing is called
abbrev pub IsCalledWith : List ℕ → Event Global → Option Client → ℤ → Outcome → Option Client → Type 0
IsCalledWith bytes event before status outcome after =
    (IsBurst bytes × IsCalled event before status outcome after)
    ⊎ ((IsBurst bytes → ⊥) × (status ≡ says.outside) × (outcome ≡ tells.nothing) × (after ≡ before))

-- a question was asked by a caller's handle
pub record IsAsked (query : Query) (before : Option Client) (status : ℤ) (outcome : Outcome) (after : Option Client)
    : Type 0 where
  pub told : Option (Result Answer NotNow)
  pub asked : OnCaller before told after (Looks query)
  pub says_so : status ≡ says.look_status told
  pub tells_so : outcome ≡ tells.look_outcome told

-- the items stand at the front, as many as there is place for, and behind them what stood there
abbrev pub over : {X : Type 0} → List X → List X → List X
over old items = take (length old) items ++ drop (length items) old

-- the bytes that were read, if any were
abbrev pub read_bytes : Option (Result Answer NotNow) → List ℕ
read_bytes None = []
read_bytes (Some (Ok (answer.Read bytes))) = bytes
read_bytes (Some (Ok (answer.Count count))) = []
read_bytes (Some (Ok (answer.Attached hwpt))) = []
read_bytes (Some (Ok (answer.Walk translation))) = []
read_bytes (Some (Ok (answer.Dirty words))) = []
read_bytes (Some (Ok (answer.Fault fault))) = []
read_bytes (Some (Ok (answer.Refused refusal))) = []
read_bytes (Some (Err refused)) = []

-- the same of a question for bytes, which stand in the buffer then
pub record IsPeeked (query : Query) (before : Option Client) (status : ℤ) (old new : List ℕ) (outcome : Outcome)
    (after : Option Client) : Type 0 where
  pub told : Option (Result Answer NotNow)
  pub asked : OnCaller before told after (Looks query)
  pub says_so : status ≡ says.look_status told
  pub tells_so : outcome ≡ tells.look_outcome told
  pub put : new ≡ over old (read_bytes told)

-- the span as C has it
abbrev pub row_of : Bounds → SpanRow
row_of span = record { first = span.first; last = span.last }

-- the spans that are told, if any are
abbrev pub spans_told : Option (Result (Vec Bounds Global) (TryError CallError)) → List SpanRow
spans_told None = []
spans_told (Some (Ok spans)) = map row_of spans.items
spans_told (Some (Err error)) = []

-- the notices of an access object were asked for by a caller's handle, and stand over the room for spans then
pub record AreNoticed (file : FileNo) (access : ObjId) (before : Option Client) (status : ℤ) (old new : List SpanRow)
    (outcome : Outcome) (after : Option Client) : Type 0 where
  pub told : Option (Result (Vec Bounds Global) (TryError CallError))
  pub asked : OnCaller before told after (TellsNotices file access)
  pub says_so : status ≡ says.notices_status told
  pub tells_so : outcome ≡ tells.notices_outcome told
  pub put : new ≡ over old (spans_told told)

-- what an ioctl writes back
abbrev pub back : Option (Result (IoctlAnswer Global) (TryError NoMemory)) → List ℕ
back None = []
back (Some (Ok answer)) = answer.bytes.items
back (Some (Err error)) = []

-- an ioctl was carried out by a caller's handle, and this many bytes are written back, over the room
pub record IsServedBy (file : FileNo) (number : ℕ) (bytes : List ℕ) (before : Option Client) (status : ℤ)
    (old new : List ℕ) (written : ℕ) (after : Option Client) : Type 0 where
  pub told : Option (Result (IoctlAnswer Global) (TryError NoMemory))
  pub served : OnCaller before told after (Serves file number bytes)
  pub says_so : status ≡ says.ioctl_status told
  pub put : new ≡ over old (back told)
  pub count : written ≡ length (back told)

-- the same where there is room for it; else nothing is called
abbrev pub IsCarriedOut : FileNo → ℕ → List ℕ → Option Client → ℤ → List ℕ → List ℕ → ℕ → Option Client → Type 0
IsCarriedOut file number bytes before status old new written after =
    ((64 ≤ length old) × IsServedBy file number bytes before status old new written after)
    ⊎ ((length old < 64) × (status ≡ says.outside) × (new ≡ old) × (written ≡ 0) × (after ≡ before))

-- the bytes of the journal that is told, if one is
abbrev pub journal_bytes : Option (Result (Vec ℕ Global) (TryError JournalError)) → List ℕ
journal_bytes None = []
journal_bytes (Some (Ok bytes)) = bytes.items
journal_bytes (Some (Err error)) = []

-- the journal was asked for by a caller's handle, and stands over the room then; it has this many bytes
pub record IsJournalled (before : Option Client) (status : ℤ) (old new : List ℕ) (written : ℕ) (after : Option Client)
    : Type 0 where
  pub told : Option (Result (Vec ℕ Global) (TryError JournalError))
  pub asked : OnCaller before told after TellsJournal
  pub says_so : status ≡ says.journal_status told
  pub put : new ≡ over old (journal_bytes told)
  pub count : written ≡ length (journal_bytes told)

-- a device took its turn, by its port's handle
pub record IsTurned (turn : Turn) (before : Option Client) (status : ℤ) (outcome : Outcome) (after : Option Client)
    : Type 0 where
  pub told : Option (Result Stamp (TryError NoMemory))
  pub turned : OnDevice before told after (TakesTurn turn)
  pub says_so : status ≡ says.call_status told
  pub tells_so : outcome ≡ tells.call_outcome told

-- a device read into the buffer, by its port's handle; by another the buffer stays as it was
pub record IsRead (address : ℕ) (before : Option Client) (status : ℤ) (old new : List ℕ) (outcome : Outcome)
    (after : Option Client) : Type 0 where
  pub access : Option Access
  pub read : OnDevice before access after (ReadsBytes address old new)
  pub kept : access ≡ None → new ≡ old
  pub says_so : status ≡ says.access_status access
  pub tells_so : outcome ≡ tells.access_outcome (length old) access

-- a device wrote these bytes, by its port's handle
pub record IsWritten (address : ℕ) (bytes : List ℕ) (before : Option Client) (status : ℤ) (outcome : Outcome)
    (after : Option Client) : Type 0 where
  pub access : Option Access
  pub written : OnDevice before access after (WritesBytes address bytes)
  pub says_so : status ≡ says.access_status access
  pub tells_so : outcome ≡ tells.access_outcome (length bytes) access

-- the right to write, unless this is 0
abbrev pub kind_of : ℕ → AccessKind
kind_of write = if write == 0 then kind.Read else kind.Write

abbrev pub row_of_translation : Translation → TranslationRow
row_of_translation t = record {
  frame = t.frame.0;
  readable = if has_right t.rights kind.Read then 1 else 0;
  writeable = if has_right t.rights kind.Write then 1 else 0;
}

-- what stands in the row once this was told: the translation, or what stood there
abbrev pub translation_told : TranslationRow → Option (Result (Option Translation) NotNow) → TranslationRow
translation_told old None = old
translation_told old (Some (Ok (Some translation))) = row_of_translation translation
translation_told old (Some (Ok None)) = old
translation_told old (Some (Err refused)) = old

-- what a page is translated to was asked for by a port's handle
pub record IsTranslated (address : ℕ) (right : AccessKind) (before : Option Client) (status : ℤ) (old new : TranslationRow)
    (after : Option Client) : Type 0 where
  pub told : Option (Result (Option Translation) NotNow)
  pub asked : OnDevice before told after (TranslatesPage address right)
  pub says_so : status ≡ says.translate_status told
  pub put : new ≡ translation_told old told

-- A server was opened, or why not; or the handle is open, and nothing else is asked; or what was asked for is outside
-- the limits; or there was no memory to ask a server for it, though nothing is outside them. But for the first the
-- handle is as it was.
abbrev pub IsOpened : Bool → Settings → ℕ → ℕ → Option Client → ℤ → Option Client → Type 0
IsOpened are_rows settings lanes cache before status after =
    ((told : Result (Unit {0}) OpenError) × Opens before settings lanes cache told after
    × (status ≡ says.open_status told) × (are_in_limits are_rows settings lanes cache ≡ true))
    ⊎ ((status ≡ says.open_already) × (before ≡ None → ⊥) × (after ≡ before))
    ⊎ ((status ≡ says.outside) × (are_in_limits are_rows settings lanes cache ≡ false) × (before ≡ None)
    × (after ≡ before))
    ⊎ ((status ≡ says.no_memory) × (are_in_limits are_rows settings lanes cache ≡ true) × (before ≡ None)
    × (after ≡ before))

-- another caller's handle was opened
pub record IsShared (before other : Option Client) (status : ℤ) (after now : Option Client) : Type 0 where
  pub told : Result (Unit {0}) GiveError
  pub shared : Shares before other told after now
  pub says_so : status ≡ says.given_status told

-- the number that is told, where it is told
abbrev pub told_number : ℕ → Result ℕ GiveError → ℕ
told_number old (Ok number) = number
told_number old (Err error) = old

-- a port's handle was opened, and the number of its device told
pub record IsPortGiven (before other : Option Client) (status : ℤ) (old new : ℕ) (after now : Option Client) : Type 0
  where
    pub told : Result ℕ GiveError
    pub given : GivesDevice before other told after now
    pub says_so : status ≡ says.given_status told
    pub number : new ≡ told_number old told
