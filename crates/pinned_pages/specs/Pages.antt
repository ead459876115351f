-- What is seen of a memory object, and what pins by page tables make of it.
use Rattle.std.specs.Prelude.{ℕ, ◌+◌, ◌-◌, Bool, ◌==◌, ◌&&◌, ◌||◌, not, nat_lt, Option, Some, None, List, [], ◌∷◌}
use Rattle.std.specs.Prelude.{is_none, is_some, length, slice_get}
use Rattle.std.specs.Prelude.{if◌then◌else◌}
use Rattle.std.specs.List.{count_by, filter_map, list_all, range_with_len}
use Rattle.iofd_words.specs.FirstTrue.{first_true}
use Rattle.iofd_words.specs.Frames.{frame_at}
use Rattle.iofd_words.specs.Pages.{page_of}
use Rattle.iofd_words.specs.declared.numbers.FrameNo.{FrameNo}
use Rattle.iofd_words.specs.declared.numbers.UserNo.{UserNo}
use Rattle.iofd_words.specs.declared.refusal.Cause.{Cause}
use Rattle.iofd_words.specs.declared.refusal.Cause.TheVariants as cause
use Rattle.iofd_words.specs.declared.rows.UserPage.{UserPage}
use Rattle.mem_account.specs.Accounts.{charged, has_room, refunded}
use Rattle.mem_account.specs.declared.Account.{Account}
use Rattle.pinned_pages.specs.Access.{AccessRows, frame_in, pins_in, row_at}

-- so many pages of a user from a user address on; how many pins by page tables stand on them, one for each area over
-- them in an address space that has a page table; while some does each page's frame, in order; and the pages on which
-- a pin by an access stands
pub record ObjectPages : Type 0 where
  pub user : UserNo
  pub va : ℕ
  pub count : ℕ
  pub writable : Bool
  pub table_pins : ℕ
  pub frames : List FrameNo
  pub access : AccessRows

-- what is seen: the pages, for how many frames there is memory, and for how many more rows of pages that accesses pin
pub record MemoryPages : Type 0 where
  pub pages : ObjectPages
  pub capacity : ℕ
  pub room : ℕ

-- a memory object, of which no page is pinned
abbrev pub unpinned : UserNo → ℕ → ℕ → Bool → ObjectPages
unpinned user va count writable =
    record { user = user; va = va; count = count; writable = writable; table_pins = 0; frames = []; access = [] }

-- the first of two frames that is there
abbrev pub or_else : Option FrameNo → Option FrameNo → Option FrameNo
or_else None next = next
or_else (Some frame) next = Some frame

-- a frame, where there is no other
abbrev pub unless : Option FrameNo → Option FrameNo → Option FrameNo
unless None frame = frame
unless (Some other) frame = None

-- the frame at which accesses pin a page, and how many of their pins stand on it
abbrev pub access_frame : ObjectPages → ℕ → Option FrameNo
access_frame pages index = frame_in (row_at pages.access index)

abbrev pub access_pins : ObjectPages → ℕ → ℕ
access_pins pages index = pins_in (row_at pages.access index)

-- the frame at which a page is pinned, by accesses or by page tables, and the frames of all pages that are
abbrev pub frame_of : ObjectPages → ℕ → Option FrameNo
frame_of pages index = or_else (access_frame pages index) (slice_get pages.frames index)

abbrev pub held_frames : ObjectPages → List FrameNo
held_frames pages = filter_map (frame_of pages) (range_with_len 0 pages.count)

-- how many pages are pinned
abbrev pub pinned_count : ObjectPages → ℕ
pinned_count pages = length (held_frames pages)

-- the object has the page, and a pin by a page table stands on the object or one by an access on the page
abbrev pub is_pinned : ObjectPages → ℕ → Bool
is_pinned pages index =
    nat_lt index pages.count && (nat_lt 0 pages.table_pins || nat_lt 0 (access_pins pages index))

-- the frame that a page is in its user's memory now
abbrev pub frame_now : ObjectPages → List UserPage → ℕ → Option FrameNo
frame_now pages rows index = frame_at rows pages.user (page_of pages.va + index)

-- the frames that the user's pages from this one on are now, so many of them
abbrev pub frames_now : List UserPage → UserNo → ℕ → ℕ → List FrameNo
frames_now rows user page count = filter_map (λ i. frame_at rows user (page + i)) (range_with_len 0 count)

-- the object's pages where page tables pin them from now on: one that accesses pin keeps its frame, and each other has
-- the frame that it is now
abbrev pub own_frame_now : ObjectPages → List UserPage → ℕ → Option FrameNo
own_frame_now pages rows index = or_else (access_frame pages index) (frame_now pages rows index)

abbrev pub own_frames_now : ObjectPages → List UserPage → List FrameNo
own_frames_now pages rows = filter_map (own_frame_now pages rows) (range_with_len 0 pages.count)

-- each page that no access pins is in its user's memory
abbrev pub are_present : ObjectPages → List UserPage → Bool
are_present pages rows = list_all (λ index. is_some (own_frame_now pages rows index)) (range_with_len 0 pages.count)

-- how many pages no access pins
abbrev pub count_of_others : ObjectPages → ℕ
count_of_others pages = count_by (λ index. is_none (access_frame pages index)) (range_with_len 0 pages.count)

-- the frames of pages that page tables pin from now on, and nothing did: of all that no access pins, where no page
-- table pins the object yet
abbrev pub new_frames : ObjectPages → List UserPage → List FrameNo
new_frames pages rows =
    if pages.table_pins == 0
    then filter_map (λ index. unless (access_frame pages index) (frame_now pages rows index))
    (range_with_len 0 pages.count)
    else []

-- how many pages those are, and for how many frames there has to be memory then: all where no page table pins the
-- object yet
abbrev pub new_count : ObjectPages → ℕ
new_count pages = if pages.table_pins == 0 then count_of_others pages else 0

abbrev pub needed : ObjectPages → ℕ
needed pages = if pages.table_pins == 0 then pages.count else 0

-- why page tables don't pin them: the first cause that applies
abbrev pub pin_refusal : ObjectPages → List UserPage → List Account → Option Cause
pin_refusal pages rows accounts = first_true (
    (cause.Absent, pages.table_pins == 0 && not (are_present pages rows))
    ∷ (cause.Account, pages.table_pins == 0 && not (has_room accounts pages.user.0 (count_of_others pages)))
    ∷ [])

-- they are pinned once more by a page table: for the first time each at the frame that it has or is now, later at the
-- frames that they have
abbrev pub pinned : ObjectPages → List UserPage → ObjectPages
pinned pages rows =
    record pages {
      table_pins = pages.table_pins + 1;
      frames = if pages.table_pins == 0 then own_frames_now pages rows else pages.frames;
    }

-- they are pinned once less: after the last time no page is but those that accesses pin
abbrev pub released : ObjectPages → ObjectPages
released pages =
    record pages {
      table_pins = pages.table_pins - 1;
      frames = if pages.table_pins == 1 then [] else pages.frames;
    }

-- what their user holds, each pinned page once: more with the first time, and less with the last
abbrev pub charged_first : ObjectPages → List Account → List Account
charged_first pages accounts =
    if pages.table_pins == 0 then charged accounts pages.user.0 (count_of_others pages) else accounts

abbrev pub refunded_last : ObjectPages → List Account → List Account
refunded_last pages accounts =
    if pages.table_pins == 1 then refunded accounts pages.user.0 (count_of_others pages) else accounts

-- the frames of pages that are pinned no longer
abbrev pub last_frames : ObjectPages → List FrameNo
last_frames pages =
    if pages.table_pins == 1
    then filter_map (λ index. unless (access_frame pages index) (slice_get pages.frames index))
    (range_with_len 0 pages.count)
    else []

-- how many pages those are
abbrev pub last_count : ObjectPages → ℕ
last_count pages = if pages.table_pins == 1 then count_of_others pages else 0
