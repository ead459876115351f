-- Reading a record from the front of bytes, as a function.
use Rattle.std.specs.Prelude.{◌≡◌, ◌≢◌, ℕ, zero, suc, nat_lt, Bool, Option, Some, None, Result, Ok, Err, List, [], ◌∷◌}
use Rattle.std.specs.Prelude.{length, map, take, drop, if◌then◌else◌}
use Rattle.std.specs.Int.{Width, w8, w16, byte_len, from_le_bytes}
use Rattle.iofd_words.specs.Bounds.{Bounds}
use Rattle.iofd_words.specs.declared.event.CopyRequest.{CopyRequest}
use Rattle.iofd_words.specs.declared.event.DirtyRequest.{DirtyRequest}
use Rattle.iofd_words.specs.declared.event.Event.{Event}
use Rattle.iofd_words.specs.declared.event.Event.TheVariants as event
use Rattle.iofd_words.specs.declared.event.MapRequest.{MapRequest}
use Rattle.iofd_words.specs.declared.event.PinRequest.{PinRequest}
use Rattle.iofd_words.specs.declared.numbers.FrameNo.{FrameNo}
use Rattle.journal_audit_bytes.specs.declared.spelled.SpelledReply.{SpelledReply}
use Rattle.journal_audit_bytes.specs.declared.spelled.SpelledReply.TheVariants as reply
use Rattle.journal_audit_bytes.specs.declared.spelled.ReadError.{ReadError}
use Rattle.journal_audit_bytes.specs.declared.spelled.ReadError.TheVariants.{Memory, Torn}
use Rattle.journal_audit_bytes.specs.declared.spelled.SpelledRecord.{SpelledRecord}
use Rattle.journal_audit_bytes.specs.declared.version.Version.{Version}
use Rattle.journal_audit_bytes.specs.Format.{HasRanges, Listed, Raw, Row, Tagged, events_of, frames, replies_of}
use Rattle.journal_audit_bytes.specs.Format.{row_of}

infixl 10 ◌>>=◌
abbrev pub ◌>>=◌ : {A B : Type 0} → Option A → (A → Option B) → Option B
(Some x) >>= f = f x
None >>= f = None

abbrev pub some_if : {A : Type 0} → Bool → A → Option A
some_if test x = if test then Some x else None

abbrev pub Fails : {Y : Type 0} → ReadError → Option Y → Type 0
Fails Torn read = read ≡ None
Fails Memory read = Unit {0}

-- what a function returned, seen by a view, is what reading gives, unless memory was refused
abbrev pub Gives : {X Y : Type 0} → (X → Y) → Result X ReadError → Option Y → Type 0
Gives view (Ok x) read = read ≡ Some (view x)
Gives view (Err e) read = Fails e read

-- P, if this is want of memory
abbrev pub IfMemory : ReadError → Type 0 → Type 0
IfMemory Torn P = Unit {0}
IfMemory Memory P = P

-- where memory was refused
abbrev pub OnMemory : {X : Type 0} → Result X ReadError → Type 0 → Type 0
OnMemory (Ok x) P = Unit {0}
OnMemory (Err e) P = IfMemory e P

abbrev pub number_at : Width → List ℕ → Option (ℕ × List ℕ)
number_at w bytes =
    if nat_lt (length bytes) (byte_len w) then None
    else Some (from_le_bytes w (take (byte_len w) bytes), drop (byte_len w) bytes)

abbrev pub fields_at : List Width → List ℕ → Option (List ℕ × List ℕ)
fields_at [] bytes = Some ([], bytes)
fields_at (w ∷ ws) bytes = do
  n ← number_at w bytes
  ns ← fields_at ws n.1
  Some (n.0 ∷ ns.0, ns.1)

-- so many elements
abbrev pub elements_at : ℕ → List Width → List ℕ → Option (List (List ℕ) × List ℕ)
elements_at zero ws bytes = Some ([], bytes)
elements_at (suc n) ws bytes = do
  e ← fields_at ws bytes
  es ← elements_at n ws e.1
  Some (e.0 ∷ es.0, es.1)

unfoldable pub list_at : Listed → List ℕ → Option (List (List ℕ) × List ℕ)
list_at l bytes = do
  n ← number_at l.count bytes
  if l.may_be n.0 then elements_at n.0 l.element n.1 else None

abbrev pub tail_at : Option Listed → List ℕ → Option (List (List ℕ) × List ℕ)
tail_at None bytes = Some ([], bytes)
tail_at (Some l) bytes = list_at l bytes

-- the fields of a tag, by its row
unfoldable pub fields_of_row : Row → List ℕ → Option (Tagged × List ℕ)
fields_of_row row bytes = do
  numbers ← fields_at row.numbers bytes
  list ← tail_at row.list numbers.1
  some_if (row.allows numbers.0)
      (record { tag = row.tag; numbers = numbers.0; list = list.0 }, list.1)

unfoldable pub fields_of_tag : List Row → ℕ → List ℕ → Option (Tagged × List ℕ)
fields_of_tag rows tag bytes = do
  row ← row_of rows tag
  fields_of_row row bytes

-- the fields of a tag behind the first number, by its row, where that number is read already
unfoldable pub row_behind : Row → ℕ → List ℕ → Option (Tagged × List ℕ)
row_behind row first bytes = do
  numbers ← fields_at (drop 1 row.numbers) bytes
  list ← tail_at row.list numbers.1
  some_if (row.allows (first ∷ numbers.0))
      (record { tag = row.tag; numbers = first ∷ numbers.0; list = list.0 }, list.1)

unfoldable pub fields_behind : List Row → ℕ → ℕ → List ℕ → Option (Tagged × List ℕ)
fields_behind rows tag first bytes = do
  row ← row_of rows tag
  row_behind row first bytes

-- a tag and its fields
unfoldable pub tagged_at : List Row → List ℕ → Option (Tagged × List ℕ)
tagged_at rows bytes = do
  tag ← number_at w8 bytes
  fields_of_tag rows tag.0 tag.1

-- a list is read, and it isn't empty
abbrev pub HasElements : Option (List (List ℕ) × List ℕ) → Type 0
HasElements read = (x : List (List ℕ) × List ℕ) × (read ≡ Some x) × (x.0 ≢ [])

-- what is read has ranges of addresses, by these rows
abbrev pub IsWithRanges : List Row → Option (Tagged × List ℕ) → Type 0
IsWithRanges rows read = (x : Tagged × List ℕ) × (read ≡ Some x) × HasRanges rows x.0.tag × (x.0.list ≢ [])

unfoldable pub record_at : Version → ℕ → List ℕ → Option (Raw × List ℕ)
record_at version passes bytes = do
  pass ← number_at w16 bytes
  e ← (if nat_lt pass.0 passes then tagged_at (events_of version) pass.1 else None)
  a ← tagged_at (replies_of version) e.1
  taken ← list_at frames a.1
  given ← list_at frames taken.1
  Some (record { pass = pass.0; event = e.0; reply = a.0; taken = taken.0; given = given.0 }, given.1)

-- ---- typed values as tags and fields

abbrev pub singles : List ℕ → List (List ℕ)
singles numbers = map (λ n. n ∷ []) numbers

abbrev pub pairs : List Bounds → List (List ℕ)
pairs ranges = map (λ range. range.first ∷ range.last ∷ []) ranges

abbrev pub of_frames : List FrameNo → List (List ℕ)
of_frames numbers = map (λ frame. frame.0 ∷ []) numbers

abbrev pub plainly : ℕ → List ℕ → Tagged
plainly tag numbers = record { tag = tag; numbers = numbers; list = [] }

abbrev pub map_numbers : ℕ → MapRequest → List ℕ
map_numbers file m = file ∷ m.flags.0 ∷ m.ioas.0 ∷ m.user_va ∷ m.length ∷ m.iova.0 ∷ []

abbrev pub copy_numbers : ℕ → CopyRequest → List ℕ
copy_numbers file c =
    file ∷ c.flags.0 ∷ c.dst_ioas.0 ∷ c.src_ioas.0 ∷ c.length ∷ c.dst_iova.0 ∷ c.src_iova.0 ∷ []

-- 1 for writes too, 0 for reads alone
abbrev pub purpose_number : Bool → ℕ
purpose_number write = if write then 1 else 0

-- 1 for on, 0 for off
abbrev pub switch_number : Bool → ℕ
switch_number on = if on then 1 else 0

abbrev pub pin_numbers : ℕ → ℕ → PinRequest → List ℕ
pin_numbers file id p = file ∷ id ∷ p.iova.0 ∷ p.length ∷ purpose_number p.write ∷ []

abbrev pub dirty_numbers : ℕ → DirtyRequest → List ℕ
dirty_numbers file d = file ∷ d.hwpt.0 ∷ d.iova.0 ∷ d.length ∷ []

abbrev pub tagged_event : {A : Type 0} → Event A → Tagged
tagged_event (event.Close file) = plainly 0x01 (file.0 ∷ [])
tagged_event (event.UserMap user va) = plainly 0x02 (user.0 ∷ va ∷ [])
tagged_event (event.UserUnmap user va) = plainly 0x03 (user.0 ∷ va ∷ [])
tagged_event (event.UserWrite user va bytes) =
    record { tag = 0x04; numbers = user.0 ∷ va ∷ []; list = singles bytes }
tagged_event (event.Bind file device) = plainly 0x05 (file.0 ∷ device.0 ∷ [])
tagged_event (event.Unbind file id) = plainly 0x06 (file.0 ∷ id.0 ∷ [])
tagged_event (event.Attach device pt_id) = plainly 0x07 (device.0 ∷ pt_id.0 ∷ [])
tagged_event (event.Detach device) = plainly 0x08 (device.0 ∷ [])
tagged_event (event.Flush device) = plainly 0x09 (device.0 ∷ [])
tagged_event (event.DeviceWrite device iova bytes) =
    record { tag = 0x0a; numbers = device.0 ∷ iova.0 ∷ []; list = singles bytes }
tagged_event (event.AccessCreate file) = plainly 0x0b (file.0 ∷ [])
tagged_event (event.AccessAttach file id ioas) = plainly 0x0c (file.0 ∷ id.0 ∷ ioas.0 ∷ [])
tagged_event (event.AccessDetach file id) = plainly 0x0d (file.0 ∷ id.0 ∷ [])
tagged_event (event.AccessPin file id request) = plainly 0x0e (pin_numbers file.0 id.0 request)
tagged_event (event.AccessUnpin file id request) = plainly 0x0f (pin_numbers file.0 id.0 request)
tagged_event (event.AccessWrite file id iova bytes) =
    record { tag = 0x10; numbers = file.0 ∷ id.0 ∷ iova.0 ∷ []; list = singles bytes }
tagged_event (event.Destroy file id) = plainly 0x80 (file.0 ∷ id.0 ∷ [])
tagged_event (event.IoasAlloc file) = plainly 0x81 (file.0 ∷ [])
tagged_event (event.AllowIovas file ioas ranges) =
    record { tag = 0x82; numbers = file.0 ∷ ioas.0 ∷ []; list = pairs ranges }
tagged_event (event.Copy file request) = plainly 0x83 (copy_numbers file.0 request)
tagged_event (event.Map file request) = plainly 0x85 (map_numbers file.0 request)
tagged_event (event.Unmap file request) =
    plainly 0x86 (file.0 ∷ request.ioas.0 ∷ request.iova.0 ∷ request.length ∷ [])
tagged_event (event.HwptAlloc file request) = plainly 0x89 (file.0 ∷ request.device.0 ∷ request.ioas.0 ∷ [])
tagged_event (event.DirtyEnable file hwpt on) = plainly 0xf0 (file.0 ∷ hwpt.0 ∷ switch_number on ∷ [])
tagged_event (event.DirtyClear file request) = plainly 0xf1 (dirty_numbers file.0 request)

abbrev pub tagged_reply : SpelledReply → Tagged
tagged_reply reply.Done = plainly 0x00 []
tagged_reply (reply.Id id) = plainly 0x01 (id ∷ [])
tagged_reply (reply.Iova iova) = plainly 0x02 (iova ∷ [])
tagged_reply (reply.Bytes count) = plainly 0x03 (count ∷ [])
tagged_reply (reply.Pending errno) = plainly 0x04 (errno ∷ [])
tagged_reply (reply.Frame frame) = plainly 0x05 (frame ∷ [])
tagged_reply (reply.Passed frame) = plainly 0x06 (frame ∷ [])
tagged_reply (reply.Fault reason) = plainly 0x07 (reason ∷ [])
tagged_reply (reply.Refused number) = plainly 0x08 (number ∷ [])
tagged_reply (reply.Dirty words) = plainly 0x09 words

abbrev pub raw_of : {A : Type 0} → SpelledRecord A → Raw
raw_of r =
    record {
      pass = r.pass.0;
      event = tagged_event r.event;
      reply = tagged_reply r.reply;
      taken = of_frames r.taken;
      given = of_frames r.given;
    }
