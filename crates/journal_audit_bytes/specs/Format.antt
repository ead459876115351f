-- The bytes of a record: its pass; the tag of its event, and that event's fields; the tag of its reply, and that
-- reply's fields; the table frames taken, and those given back. All numbers are little-endian. Which tags there are is
-- the version's.
use Rattle.std.specs.Prelude.{◌≡◌, ◌≢◌, ◌⊎◌, ℕ, ◌^◌, ◌*◌, ◌<◌, nat_lt, Bool, true, ◌==◌, ◌&&◌, ◌||◌, Option, Some, None}
use Rattle.std.specs.Prelude.{List, [], option_map}
use Rattle.std.specs.Prelude.{◌∷◌, ◌++◌, find, length, slice_index}
use Rattle.std.specs.Int.{Width, w8, w16, w32, w64, byte_len, to_le_bytes}
use Rattle.iofd_words.specs.Rights.{has_flag}
use Rattle.iofd_words.specs.Settings.{is_between}
use Rattle.journal_audit_bytes.specs.declared.version.Version.{Version}
use Rattle.journal_audit_bytes.specs.declared.version.Version.TheVariants.{One, Two}

-- ---- numbers and lists

-- numbers of these widths, one behind the other
abbrev pub spelled : List Width → List ℕ → List ℕ
spelled [] numbers = []
spelled (w ∷ ws) [] = []
spelled (w ∷ ws) (n ∷ numbers) = to_le_bytes w n ++ spelled ws numbers

-- there is a number for each width, and it fits it
abbrev pub FitWidths : List Width → List ℕ → Type 0
FitWidths [] [] = Unit {0}
FitWidths [] (n ∷ numbers) = ⊥
FitWidths (w ∷ ws) [] = ⊥
FitWidths (w ∷ ws) (n ∷ numbers) = (n < 2 ^ (8 * byte_len w)) × FitWidths ws numbers

-- elements that have numbers of these widths
abbrev pub elements_spelled : List Width → List (List ℕ) → List ℕ
elements_spelled ws [] = []
elements_spelled ws (e ∷ es) = spelled ws e ++ elements_spelled ws es

abbrev pub ElementsFit : List Width → List (List ℕ) → Type 0
ElementsFit ws [] = Unit {0}
ElementsFit ws (e ∷ es) = FitWidths ws e × ElementsFit ws es

-- a list of elements behind their number: the width of that number, how many there may be, and the widths of an
-- element's numbers
pub record Listed : Type 0 where
  pub count : Width
  pub may_be : ℕ → Bool
  pub element : List Width

abbrev pub list_spelled : Listed → List (List ℕ) → List ℕ
list_spelled l es = to_le_bytes l.count (length es) ++ elements_spelled l.element es

abbrev pub ListFits : Listed → List (List ℕ) → Type 0
ListFits l es =
    (length es < 2 ^ (8 * byte_len l.count)) × ((l.may_be (length es) ≡ true) × ElementsFit l.element es)

-- the bytes of an access, 1 to 64
abbrev pub burst : Listed
burst = record { count = w8; may_be = is_between 1 64; element = w8 ∷ [] }

-- ranges of addresses, by start and last
abbrev pub entries : Listed
entries = record { count = w32; may_be = λ n. true; element = w64 ∷ w64 ∷ [] }

-- numbers of frames
abbrev pub frames : Listed
frames = record { count = w16; may_be = λ n. true; element = w32 ∷ [] }

-- ---- rows

-- a tag, the widths of its numbers, the list behind them, if there is one, and which numbers may stand there
pub record Row : Type 0 where
  pub tag : ℕ
  pub numbers : List Width
  pub list : Option Listed
  pub allows : List ℕ → Bool

-- the flags (the second number) have no bit but 1, 2 and 4, and an address that they don't fix (the sixth) is 0
unfoldable pub is_kept : List ℕ → Bool
is_kept numbers =
    nat_lt (slice_index numbers 1) 8 && (has_flag (slice_index numbers 1) 1 || slice_index numbers 5 == 0)

-- what a pin is for (the fifth number) is 0 for reads alone, or 1 for writes too
abbrev pub is_purpose : List ℕ → Bool
is_purpose numbers = nat_lt (slice_index numbers 4) 2

-- the third number is 1 or 0, for on and off
abbrev pub is_switch : List ℕ → Bool
is_switch numbers = nat_lt (slice_index numbers 2) 2

abbrev pub always : List ℕ → Bool
always numbers = true

abbrev pub plain : ℕ → List Width → Row
plain tag numbers = record { tag = tag; numbers = numbers; list = None; allows = always }

abbrev pub kept : ℕ → List Width → Row
kept tag numbers = record { tag = tag; numbers = numbers; list = None; allows = is_kept }

abbrev pub access : ℕ → Row
access tag = record { tag = tag; numbers = w16 ∷ w64 ∷ []; list = Some burst; allows = always }

-- file, id, address, length, what it is for
abbrev pub pin : ℕ → Row
pin tag =
    record { tag = tag; numbers = w16 ∷ w32 ∷ w64 ∷ w64 ∷ w8 ∷ []; list = None; allows = is_purpose }

-- a file is 16 bits wide, as are a user and a device; an id is 32 wide; an address and a length are 64
-- those of either version
abbrev pub event_rows : List Row
event_rows =
    -- Close: file
    plain 0x01 (w16 ∷ [])
    -- UserMap and UserUnmap: user, address
    ∷ plain 0x02 (w16 ∷ w64 ∷ [])
    ∷ plain 0x03 (w16 ∷ w64 ∷ [])
    -- UserWrite: user, address, bytes
    ∷ access 0x04
    -- Bind: file, device
    ∷ plain 0x05 (w16 ∷ w16 ∷ [])
    -- Unbind: file, id
    ∷ plain 0x06 (w16 ∷ w32 ∷ [])
    -- Attach: device, id
    ∷ plain 0x07 (w16 ∷ w32 ∷ [])
    -- Detach and Flush: device
    ∷ plain 0x08 (w16 ∷ [])
    ∷ plain 0x09 (w16 ∷ [])
    -- DeviceWrite: device, address, bytes
    ∷ access 0x0a
    -- AccessCreate: file
    ∷ plain 0x0b (w16 ∷ [])
    -- AccessAttach: file, id, address space
    ∷ plain 0x0c (w16 ∷ w32 ∷ w32 ∷ [])
    -- AccessDetach: file, id
    ∷ plain 0x0d (w16 ∷ w32 ∷ [])
    -- AccessPin and AccessUnpin: file, id, address, length, what the pin is for
    ∷ pin 0x0e
    ∷ pin 0x0f
    -- AccessWrite: file, id, address, bytes
    ∷ record { tag = 0x10; numbers = w16 ∷ w32 ∷ w64 ∷ []; list = Some burst; allows = always }
    -- DESTROY: file, id
    ∷ plain 0x80 (w16 ∷ w32 ∷ [])
    -- IOAS_ALLOC: file
    ∷ plain 0x81 (w16 ∷ [])
    -- IOAS_ALLOW_IOVAS: file, address space, ranges
    ∷ record { tag = 0x82; numbers = w16 ∷ w32 ∷ []; list = Some entries; allows = always }
    -- IOAS_COPY: file, flags, target, source, length, address in the target, address in the source
    ∷ kept 0x83 (w16 ∷ w32 ∷ w32 ∷ w32 ∷ w64 ∷ w64 ∷ w64 ∷ [])
    -- IOAS_MAP: file, flags, address space, user address, length, address
    ∷ kept 0x85 (w16 ∷ w32 ∷ w32 ∷ w64 ∷ w64 ∷ w64 ∷ [])
    -- IOAS_UNMAP: file, address space, address, length
    ∷ plain 0x86 (w16 ∷ w32 ∷ w64 ∷ w64 ∷ [])
    -- HWPT_ALLOC: file, device object, address space
    ∷ plain 0x89 (w16 ∷ w32 ∷ w32 ∷ [])
    ∷ []

-- those that version 2 has more
abbrev pub dirty_event_rows : List Row
dirty_event_rows =
    -- DIRTY_ENABLE: file, page table, on or off
    record { tag = 0xf0; numbers = w16 ∷ w32 ∷ w8 ∷ []; list = None; allows = is_switch }
    -- DIRTY_REPORT that clears: file, page table, address, length
    ∷ plain 0xf1 (w16 ∷ w32 ∷ w64 ∷ w64 ∷ [])
    ∷ []

abbrev pub events_of : Version → List Row
events_of One = event_rows
events_of Two = event_rows ++ dirty_event_rows

-- those of either version
abbrev pub reply_rows : List Row
reply_rows =
    -- Done
    plain 0x00 []
    -- Id
    ∷ plain 0x01 (w32 ∷ [])
    -- Iova
    ∷ plain 0x02 (w64 ∷ [])
    -- Bytes
    ∷ plain 0x03 (w64 ∷ [])
    -- Pending: errno
    ∷ plain 0x04 (w8 ∷ [])
    -- Frame
    ∷ plain 0x05 (w32 ∷ [])
    -- Passed: frame
    ∷ plain 0x06 (w32 ∷ [])
    -- Fault: reason
    ∷ plain 0x07 (w8 ∷ [])
    -- Refused: number
    ∷ plain 0x08 (w8 ∷ [])
    ∷ []

-- those that version 2 has more
abbrev pub dirty_reply_rows : List Row
dirty_reply_rows =
    -- Dirty: the four words
    plain 0x09 (w64 ∷ w64 ∷ w64 ∷ w64 ∷ [])
    ∷ []

abbrev pub replies_of : Version → List Row
replies_of One = reply_rows
replies_of Two = reply_rows ++ dirty_reply_rows

abbrev pub row_of : List Row → ℕ → Option Row
row_of rows tag = find (λ row. row.tag == tag) rows

-- a tag, and what stands in its fields
pub record Tagged : Type 0 where
  pub tag : ℕ
  pub numbers : List ℕ
  pub list : List (List ℕ)

abbrev pub tail_spelled : Option Listed → List (List ℕ) → List ℕ
tail_spelled None list = []
tail_spelled (Some l) list = list_spelled l list

abbrev pub TailFits : Option Listed → List (List ℕ) → Type 0
TailFits None list = list ≡ []
TailFits (Some l) list = ListFits l list

-- these bytes are the tag and its fields, by one of these rows
pub record SpellsTagged (rows : List Row) (t : Tagged) (bytes : List ℕ) : Type 0 where
  pub row : Row
  pub known : row_of rows t.tag ≡ Some row
  pub tag_fits : t.tag < 2 ^ (8 * byte_len w8)
  pub numbers_fit : FitWidths row.numbers t.numbers
  pub list_fits : TailFits row.list t.list
  pub allowed : row.allows t.numbers ≡ true
  pub bytes_are : bytes
      ≡ to_le_bytes w8 t.tag ++ (spelled row.numbers t.numbers ++ tail_spelled row.list t.list)

-- ---- records

pub record Raw : Type 0 where
  pub pass : ℕ
  pub event : Tagged
  pub reply : Tagged
  pub taken : List (List ℕ)
  pub given : List (List ℕ)

-- these bytes are the record's in a journal of this version, where there are so many passes
pub record Spells (version : Version) (passes : ℕ) (r : Raw) (bytes : List ℕ) : Type 0 where
  pub pass : r.pass < passes
  pub pass_fits : r.pass < 2 ^ (8 * byte_len w16)
  pub event : List ℕ
  pub event_is : SpellsTagged (events_of version) r.event event
  pub reply : List ℕ
  pub reply_is : SpellsTagged (replies_of version) r.reply reply
  pub taken_fit : ListFits frames r.taken
  pub given_fit : ListFits frames r.given
  pub bytes_are : bytes
      ≡ to_le_bytes w16 r.pass ++ (event ++ (reply ++ (list_spelled frames r.taken ++ list_spelled frames r.given)))

-- ---- where memory is asked for

-- by its row, a tag has ranges of addresses behind its numbers
abbrev pub HasRanges : List Row → ℕ → Type 0
HasRanges rows tag = option_map (λ row. row.list) (row_of rows tag) ≡ Some (Some entries)

-- the bytes begin with frames, and not with none
pub record BeginWithFrames (bytes : List ℕ) : Type 0 where
  pub numbers : List (List ℕ)
  pub some : numbers ≢ []
  pub fit : ListFits frames numbers
  pub rest : List ℕ
  pub bytes_are : bytes ≡ list_spelled frames numbers ++ rest

-- the bytes begin with a reply, and behind it with frames that were taken, or with none and then with frames that were
-- given back
pub record BeginWithMoves (version : Version) (bytes : List ℕ) : Type 0 where
  pub reply : Tagged
  pub text : List ℕ
  pub reply_is : SpellsTagged (replies_of version) reply text
  pub rest : List ℕ
  pub bytes_are : bytes ≡ text ++ rest
  pub moves : BeginWithFrames rest
      ⊎ ((given : List ℕ) × (rest ≡ list_spelled frames [] ++ given) × BeginWithFrames given)

-- the bytes begin with a pass and an event, and either the event has ranges, or behind it stand a reply and frames that
-- were taken or given back
pub record BeginWithList (version : Version) (passes : ℕ) (bytes : List ℕ) : Type 0 where
  pub pass : ℕ
  pub pass_is : pass < passes
  pub event : Tagged
  pub text : List ℕ
  pub event_is : SpellsTagged (events_of version) event text
  pub rest : List ℕ
  pub bytes_are : bytes ≡ to_le_bytes w16 pass ++ (text ++ rest)
  pub list : (HasRanges (events_of version) event.tag × (event.list ≢ [])) ⊎ BeginWithMoves version rest
