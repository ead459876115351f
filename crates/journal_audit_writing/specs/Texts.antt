-- The numbers and lists that stand for an event and a reply, and which records have a spelling in version 2: from a
-- record's side, what `journal_audit_bytes` says from the side of the bytes.
use Rattle.std.specs.Prelude.{◌≡◌, ℕ, ◌^◌, ◌<◌, nat_lt, Bool, true, Option, Some, None, List, [], ◌∷◌, ◌++◌}
use Rattle.std.specs.Prelude.{length, map}
use Rattle.std.specs.Int.{w8, w16, w32, w64, to_le_bytes}
use Rattle.std.specs.List.{AllByRecursion}
use Rattle.iofd_words.specs.Bounds.{Bounds}
use Rattle.iofd_words.specs.Fault.{reason_number}
use Rattle.iofd_words.specs.Record.{Record}
use Rattle.iofd_words.specs.Refusal.{errno_number, number_of}
use Rattle.iofd_words.specs.Settings.{Settings}
use Rattle.iofd_words.specs.declared.event.DirtyRequest.{DirtyRequest}
use Rattle.iofd_words.specs.declared.event.Event.{Event}
use Rattle.iofd_words.specs.declared.event.Event.TheVariants as event
use Rattle.iofd_words.specs.declared.event.PinRequest.{PinRequest}
use Rattle.iofd_words.specs.declared.numbers.FrameNo.{FrameNo}
use Rattle.iofd_words.specs.declared.reply.Reply.{Reply}
use Rattle.iofd_words.specs.declared.reply.Reply.TheVariants as reply
use Rattle.journal_audit_bytes.specs.Format.{ListFits, Listed, burst, entries, frames, is_kept, list_spelled}
use Rattle.journal_audit_bytes.specs.Format.{tail_spelled}
use Rattle.journal_audit_bytes.specs.Format.{TailFits}
use Rattle.journal_audit_bytes.specs.Head.{all_spelled}
use Rattle.journal_audit_bytes.specs.Reading.{copy_numbers, map_numbers, of_frames, purpose_number, switch_number}
use Rattle.journal_audit_bytes.specs.Reading.{tagged_event}
use Rattle.journal_audit_bytes.specs.Replies.{fault_of}
use Rattle.journal_audit_writing.specs.declared.number.Number.{Number}
use Rattle.journal_audit_writing.specs.declared.number.Number.TheVariants.{U8, U16, U32, U64}

-- ---- numbers

abbrev pub number_text : Number → List ℕ
number_text (U8 n) = to_le_bytes w8 n
number_text (U16 n) = to_le_bytes w16 n
number_text (U32 n) = to_le_bytes w32 n
number_text (U64 n) = to_le_bytes w64 n

abbrev pub NumberFits : Number → Type 0
NumberFits (U8 n) = n < 2 ^ 8
NumberFits (U16 n) = n < 2 ^ 16
NumberFits (U32 n) = n < 2 ^ 32
NumberFits (U64 n) = n < 2 ^ 64

abbrev pub numbers_text : List Number → List ℕ
numbers_text numbers = all_spelled number_text numbers

abbrev pub NumbersFit : List Number → Type 0
NumbersFit numbers = AllByRecursion NumberFits numbers

abbrev pub byte_text : ℕ → List ℕ
byte_text byte = to_le_bytes w8 byte

abbrev pub ByteFits : ℕ → Type 0
ByteFits byte = byte < 2 ^ 8

abbrev pub frame_text : FrameNo → List ℕ
frame_text frame = to_le_bytes w32 frame.0

abbrev pub FrameFits : FrameNo → Type 0
FrameFits frame = frame.0 < 2 ^ 32

abbrev pub range_text : Bounds → List ℕ
range_text range = to_le_bytes w64 range.first ++ to_le_bytes w64 range.last

abbrev pub RangeFits : Bounds → Type 0
RangeFits range = (range.first < 2 ^ 64) × (range.last < 2 ^ 64)

-- ---- events and replies

abbrev pub pin_fields : ℕ → ℕ → ℕ → PinRequest → List Number
pin_fields tag file id p =
    U8 tag ∷ U16 file ∷ U32 id ∷ U64 p.iova.0 ∷ U64 p.length ∷ U8 (purpose_number p.write) ∷ []

abbrev pub dirty_fields : ℕ → DirtyRequest → List Number
dirty_fields file d = U8 0xf1 ∷ U16 file ∷ U32 d.hwpt.0 ∷ U64 d.iova.0 ∷ U64 d.length ∷ []

-- its tag, and its numbers by their widths
abbrev pub event_numbers : {A : Type 0} → Event A → List Number
event_numbers (event.Close file) = U8 0x01 ∷ U16 file.0 ∷ []
event_numbers (event.UserMap user va) = U8 0x02 ∷ U16 user.0 ∷ U64 va ∷ []
event_numbers (event.UserUnmap user va) = U8 0x03 ∷ U16 user.0 ∷ U64 va ∷ []
event_numbers (event.UserWrite user va bytes) = U8 0x04 ∷ U16 user.0 ∷ U64 va ∷ []
event_numbers (event.Bind file device) = U8 0x05 ∷ U16 file.0 ∷ U16 device.0 ∷ []
event_numbers (event.Unbind file id) = U8 0x06 ∷ U16 file.0 ∷ U32 id.0 ∷ []
event_numbers (event.Attach device pt_id) = U8 0x07 ∷ U16 device.0 ∷ U32 pt_id.0 ∷ []
event_numbers (event.Detach device) = U8 0x08 ∷ U16 device.0 ∷ []
event_numbers (event.Flush device) = U8 0x09 ∷ U16 device.0 ∷ []
event_numbers (event.DeviceWrite device iova bytes) = U8 0x0a ∷ U16 device.0 ∷ U64 iova.0 ∷ []
event_numbers (event.AccessCreate file) = U8 0x0b ∷ U16 file.0 ∷ []
event_numbers (event.AccessAttach file id ioas) = U8 0x0c ∷ U16 file.0 ∷ U32 id.0 ∷ U32 ioas.0 ∷ []
event_numbers (event.AccessDetach file id) = U8 0x0d ∷ U16 file.0 ∷ U32 id.0 ∷ []
event_numbers (event.AccessPin file id request) = pin_fields 0x0e file.0 id.0 request
event_numbers (event.AccessUnpin file id request) = pin_fields 0x0f file.0 id.0 request
event_numbers (event.AccessWrite file id iova bytes) = U8 0x10 ∷ U16 file.0 ∷ U32 id.0 ∷ U64 iova.0 ∷ []
event_numbers (event.Destroy file id) = U8 0x80 ∷ U16 file.0 ∷ U32 id.0 ∷ []
event_numbers (event.IoasAlloc file) = U8 0x81 ∷ U16 file.0 ∷ []
event_numbers (event.AllowIovas file ioas ranges) = U8 0x82 ∷ U16 file.0 ∷ U32 ioas.0 ∷ []
event_numbers (event.Copy file c) =
    U8 0x83 ∷ U16 file.0 ∷ U32 c.flags.0 ∷ U32 c.dst_ioas.0 ∷ U32 c.src_ioas.0 ∷ U64 c.length ∷ U64 c.dst_iova.0
    ∷ U64 c.src_iova.0 ∷ []
event_numbers (event.Map file m) =
    U8 0x85 ∷ U16 file.0 ∷ U32 m.flags.0 ∷ U32 m.ioas.0 ∷ U64 m.user_va ∷ U64 m.length ∷ U64 m.iova.0 ∷ []
event_numbers (event.Unmap file u) = U8 0x86 ∷ U16 file.0 ∷ U32 u.ioas.0 ∷ U64 u.iova.0 ∷ U64 u.length ∷ []
event_numbers (event.HwptAlloc file h) = U8 0x89 ∷ U16 file.0 ∷ U32 h.device.0 ∷ U32 h.ioas.0 ∷ []
event_numbers (event.DirtyEnable file hwpt on) = U8 0xf0 ∷ U16 file.0 ∷ U32 hwpt.0 ∷ U8 (switch_number on) ∷ []
event_numbers (event.DirtyClear file request) = dirty_fields file.0 request

-- the list behind them
abbrev pub event_list : {A : Type 0} → Event A → Option Listed
event_list (event.UserWrite user va bytes) = Some burst
event_list (event.DeviceWrite device iova bytes) = Some burst
event_list (event.AccessWrite file id iova bytes) = Some burst
event_list (event.AllowIovas file ioas ranges) = Some entries
event_list event = None

abbrev pub reply_numbers : Reply → List Number
reply_numbers reply.Done = U8 0x00 ∷ []
reply_numbers (reply.Id id) = U8 0x01 ∷ U32 id.0 ∷ []
reply_numbers (reply.Iova iova) = U8 0x02 ∷ U64 iova.0 ∷ []
reply_numbers (reply.Bytes count) = U8 0x03 ∷ U64 count ∷ []
reply_numbers (reply.Pending errno) = U8 0x04 ∷ U8 (errno_number errno) ∷ []
reply_numbers (reply.Frame frame) = U8 0x05 ∷ U32 frame.0 ∷ []
reply_numbers (reply.Passed frame) = U8 0x06 ∷ U32 frame.0 ∷ []
reply_numbers (reply.Fault fault) = U8 0x07 ∷ U8 (reason_number fault.reason) ∷ []
reply_numbers (reply.Refused refusal) = U8 0x08 ∷ U8 (number_of refusal.cause) ∷ []
reply_numbers (reply.Dirty words) = U8 0x09 ∷ map (λ word. U64 word) words

-- a report has four words
abbrev pub HasWords : Reply → Type 0
HasWords (reply.Dirty words) = length words ≡ 4
HasWords reply = Unit {0}

-- ---- records

module _ {A : Type 0} where
  abbrev pub list_text : Event A → List ℕ
  list_text event = tail_spelled (event_list event) (tagged_event event).list

  abbrev pub ListOfFits : Event A → Type 0
  ListOfFits event = TailFits (event_list event) (tagged_event event).list

  abbrev pub event_text : Event A → List ℕ
  event_text event = numbers_text (event_numbers event) ++ list_text event

  abbrev pub record_text : Record A → List ℕ
  record_text r =
      to_le_bytes w16 r.pass.0
      ++ (event_text r.event
      ++ (numbers_text (reply_numbers r.reply)
      ++ (list_spelled frames (of_frames r.taken) ++ list_spelled frames (of_frames r.given))))

  pub record RecordFits (r : Record A) : Type 0 where
    pub pass : r.pass.0 < 2 ^ 16
    pub event : NumbersFit (event_numbers r.event)
    pub list : ListOfFits r.event
    pub reply : NumbersFit (reply_numbers r.reply)
    pub words : HasWords r.reply
    pub taken : ListFits frames (of_frames r.taken)
    pub given : ListFits frames (of_frames r.given)

  -- flags are known and leave no address to be ignored; ranges can be counted
  abbrev pub is_kept_event : Event A → Bool
  is_kept_event (event.Map file m) = is_kept (map_numbers file.0 m)
  is_kept_event (event.Copy file c) = is_kept (copy_numbers file.0 c)
  is_kept_event (event.AllowIovas file ioas ranges) = nat_lt (length ranges) (2 ^ 32)
  is_kept_event event = true

  -- a fault is the event's own
  abbrev pub IsOwnReply : Settings → Event A → Reply → Type 0
  IsOwnReply s event (reply.Fault fault) = fault_of s event fault.reason ≡ Some fault
  IsOwnReply s event reply = Unit {0}

  pub record IsSpelt (s : Settings) (r : Record A) : Type 0 where
    pub pass : r.pass.0 < s.passes
    pub event : is_kept_event r.event ≡ true
    pub reply : IsOwnReply s r.event r.reply
    pub taken : length r.taken < 2 ^ 16
    pub given : length r.given < 2 ^ 16
