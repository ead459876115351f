-- Pinned pages: those of memory objects that an area in an address space with a hardware page table translates, or that
-- an access object has pinned (iommufd.rst, "User Objects", on struct iopt_pages). A page keeps the frame that it had
-- when it was pinned, whatever its user does, for as long as it stays pinned.
use Rattle.std.specs.Prelude.{ℕ, ◌+◌, ◌*◌, ◌/◌, Bool, true, false, ◌==◌, ◌&&◌, ◌||◌, not, nat_le, Option}
use Rattle.std.specs.Prelude.{Some, None, is_some}
use Rattle.std.specs.Prelude.{is_none, List, [], ◌∷◌, ◌++◌, map, filter, find, if◌then◌else◌}
use Rattle.std.specs.List.{count_by, list_any, list_all, flat_map, filter_map, range_with_len}
use Rattle.iofd_words.specs.Bounds.{Bounds}
use Rattle.iofd_words.specs.Pages.{page_of}
use Rattle.iofd_words.specs.Span.{holds, lies_in, meets, size_of, span_from}
use Rattle.iofd_words.specs.Objects.{has_hwpt, is_access_to, kind_of}
use Rattle.iofd_words.specs.Frames.{frame_at}
use Rattle.iofd_words.specs.declared.fault.AccessKind.{AccessKind}
use Rattle.iofd_words.specs.declared.fault.AccessKind.TheVariants.{Read, Write}
use Rattle.iofd_words.specs.declared.numbers.FileNo.{FileNo}
use Rattle.iofd_words.specs.declared.numbers.FrameNo.{FrameNo}
use Rattle.iofd_words.specs.declared.numbers.ObjId.{ObjId}
use Rattle.iofd_words.specs.declared.numbers.UserNo.{UserNo}
use Rattle.iofd_words.specs.declared.rows.AccessPin.{AccessPin}
use Rattle.iofd_words.specs.declared.rows.Area.{Area}
use Rattle.iofd_words.specs.declared.rows.MemoryObject.{MemoryObject}
use Rattle.iofd_words.specs.declared.rows.Object.{Object}
use Rattle.iofd_words.specs.declared.rows.Pin.{Pin}
use Rattle.iofd_words.specs.declared.rows.UserPage.{UserPage}

-- ---- pages of memory objects

-- a page of a memory object: the object's number, and which page, from 0
pub record ObjectPage : Type 0 where
  pub memory : ℕ
  pub index : ℕ

abbrev pub is_page : ObjectPage → ObjectPage → Bool
is_page a b = a.memory == b.memory && a.index == b.index

abbrev pub page_of_pin : Pin → ObjectPage
page_of_pin pin = record { memory = pin.memory; index = pin.index }

-- the first pages of the memory object of this number, so many
abbrev pub pages_from : ℕ → ℕ → List ObjectPage
pages_from number count = map (λ i. record { memory = number; index = i }) (range_with_len 0 count)

abbrev pub pages_of : MemoryObject → List ObjectPage
pages_of m = pages_from m.number m.count

-- the pages that an area covers: all of its memory object
abbrev pub area_pages : Area → List ObjectPage
area_pages area = pages_from area.memory (size_of area.span / 4096)

-- where a page of the area lies
abbrev pub span_of_page : Area → ℕ → Bounds
span_of_page area index = span_from (area.span.first + 4096 * index) 4096

-- ---- which are to be pinned

-- some area over the memory object of this number stands in an address space that has a hardware page table
abbrev pub is_translated : List Object → List Area → ℕ → Bool
is_translated objects areas number =
    list_any (λ area. area.memory == number && has_hwpt objects area.file area.ioas) areas

-- the access object that holds the pin is attached to the area's address space
abbrev pub is_pin_in : List Object → AccessPin → Area → Bool
is_pin_in objects pin area =
    area.file.0 == pin.file.0
    && elim (kind_of objects pin.file pin.access) [ Some kind ↦ is_access_to area.ioas kind | None ↦ false ]

-- the access pin covers this page of the area: it is one of the area's address space, and the page lies in its span
abbrev pub covers_page : List Object → ℕ → AccessPin → Area → Bool
covers_page objects index pin area = is_pin_in objects pin area && lies_in (span_of_page area index) pin.span

-- some access pin of its address space meets the area
abbrev pub has_pin_in : List Object → List AccessPin → Area → Bool
has_pin_in objects access_pins area =
    list_any (λ pin. is_pin_in objects pin area && meets area.span pin.span) access_pins

-- the access object of this id holds a pin
abbrev pub holds_pin : List AccessPin → FileNo → ObjId → Bool
holds_pin access_pins file access =
    list_any (λ pin. pin.file.0 == file.0 && pin.access.0 == access.0) access_pins

-- the pin is one of this access object
abbrev pub is_of_access : FileNo → ObjId → AccessPin → Bool
is_of_access file access pin = pin.file.0 == file.0 && pin.access.0 == access.0

-- an access object holds at most 65,535 pins, of which equal ones count each
abbrev pub most_pins : ℕ
most_pins = 65535

abbrev pub has_most_pins : List AccessPin → FileNo → ObjId → Bool
has_most_pins access_pins file access = nat_le most_pins (count_by (is_of_access file access) access_pins)

-- the two are pins of one access object, of the same pages, and for the same
abbrev pub is_equal : AccessPin → AccessPin → Bool
is_equal a b =
    is_of_access a.file a.access b && a.span.first == b.span.first && a.span.last == b.span.last
    && (if a.write then b.write else not b.write)

-- a pin that equals this one is held
abbrev pub is_held : List AccessPin → AccessPin → Bool
is_held access_pins pin = list_any (is_equal pin) access_pins

-- all but one that equals this one
abbrev pub without_pin : AccessPin → List AccessPin → List AccessPin
without_pin pin [] = []
without_pin pin (p ∷ pins) = if is_equal pin p then pins else (p ∷ without_pin pin pins)

-- what a pin is for: each for reads, and some for writes too
abbrev pub allows : Bool → AccessKind → Bool
allows write Read = true
allows write Write = write

-- a pin of the access object covers the page at the address, and is for such an access
abbrev pub is_covered : List AccessPin → FileNo → ObjId → ℕ → AccessKind → Bool
is_covered access_pins file access address kind =
    list_any (λ pin. is_of_access file access pin && (holds pin.span address && allows pin.write kind)) access_pins

-- a pin of the access object and the span have an address in common
abbrev pub meets_pin : List AccessPin → FileNo → ObjId → Bounds → Bool
meets_pin access_pins file access span =
    list_any (λ pin. is_of_access file access pin && meets span pin.span) access_pins

-- some access pin covers the page, in some area over its memory object
abbrev pub is_accessed : List Object → List Area → List AccessPin → ObjectPage → Bool
is_accessed objects areas access_pins page =
    list_any (λ pin. list_any (λ area. area.memory == page.memory && covers_page objects page.index pin area) areas)
    access_pins

-- the page of a memory object is to be pinned
abbrev pub is_pinned : List Object → List Area → List AccessPin → ObjectPage → Bool
is_pinned objects areas access_pins page =
    is_translated objects areas page.memory || is_accessed objects areas access_pins page

-- the pages that are to be pinned, each once
abbrev pub pinned_pages : List Object → List Area → List MemoryObject → List AccessPin → List ObjectPage
pinned_pages objects areas memory access_pins = filter (is_pinned objects areas access_pins) (flat_map pages_of memory)

-- ---- at which frame

-- the frame that is the page's in its user's memory now
abbrev pub frame_now : List MemoryObject → List UserPage → ObjectPage → Option FrameNo
frame_now memory user_pages page =
    elim (find (λ m. m.number == page.memory) memory)
    [ Some m ↦ frame_at user_pages m.user (page_of m.va + page.index) | None ↦ None ]

abbrev pub pin_now : List MemoryObject → List UserPage → ObjectPage → Option Pin
pin_now memory user_pages page =
    elim (frame_now memory user_pages page) [
      | Some frame ↦ Some (record {
        memory = page.memory;
        index = page.index;
        frame = frame;
      })
      | None ↦ None
    ]

-- each of these pages is in its user's memory, by a look-up of the frames that pages have there now
abbrev pub are_present : (ObjectPage → Option FrameNo) → List ObjectPage → Bool
are_present now pages = list_all (λ page. is_some (now page)) pages

-- the pins of pages that are pinned still, and then those of pages that weren't pinned before
abbrev pub settled : List ObjectPage → List ObjectPage → List MemoryObject → List UserPage →
    List Pin → List Pin
settled before after memory user_pages pins =
    filter (λ pin. list_any (is_page (page_of_pin pin)) after) pins
    ++ filter_map (pin_now memory user_pages) (filter (λ page. not (list_any (is_page page) before)) after)

-- the frame that a page was pinned at
abbrev pub pinned_frame : List Pin → ObjectPage → Option FrameNo
pinned_frame pins page =
    elim (find (λ pin. is_page (page_of_pin pin) page) pins) [ Some pin ↦ Some pin.frame | None ↦ None ]

-- ---- how many are charged to a user

-- the pages of these memory objects of which a look-up finds no pin
abbrev pub unpinned_pages : (ObjectPage → Option FrameNo) → List MemoryObject → List ObjectPage
unpinned_pages pinned_frame memory = filter (λ page. is_none (pinned_frame page)) (flat_map pages_of memory)

-- the user's account: how many pages of the user's memory objects are pinned, by a look-up of the pins
abbrev pub held_by : (ObjectPage → Option FrameNo) → List MemoryObject → UserNo → ℕ
held_by pinned_frame memory user =
    count_by (λ page. is_some (pinned_frame page)) (flat_map pages_of (filter (λ m. m.user.0 == user.0) memory))
