-- What is seen of the users' memory: their pages, their limits and the memory objects, and what is asked of it.
use Rattle.std.specs.Prelude.{ℕ, ◌≤◌, ◌+◌, ◌^◌, Bool, true, false, ◌==◌, ◌&&◌, ◌||◌, not, nat_le}
use Rattle.std.specs.Prelude.{nat_lt, Option, Some, None}
use Rattle.std.specs.Prelude.{List, [], ◌∷◌, filter, length, slice_index}
use Rattle.std.specs.List.{count_by, list_all, list_any}
use Rattle.iofd_words.specs.Files.{numbered}
use Rattle.iofd_words.specs.Pins as pin
use Rattle.iofd_words.specs.Pins.{ObjectPage}
use Rattle.iofd_words.specs.declared.numbers.FrameNo.{FrameNo}
use Rattle.iofd_words.specs.declared.numbers.UserNo.{UserNo}
use Rattle.iofd_words.specs.declared.rows.MemoryObject.{MemoryObject}
use Rattle.iofd_words.specs.declared.rows.UserPage.{UserPage}
use Rattle.memory_objects.specs.Objects as objects
use Rattle.memory_objects.specs.Objects.{MemoryEntry}
use Rattle.memory_objects.specs.Runs.{covers}
use Rattle.memory_objects.specs.declared.run.PageRun.{PageRun}

-- the users' pages; how many pages each user may have pinned, from user 1 on; the memory objects by rising number; and
-- for how many more pages of users there is memory
pub record Memory : Type 0 where
  pub pages : List UserPage
  pub limits : List ℕ
  pub objects : List MemoryEntry
  pub room : ℕ

-- ---- memory objects

-- their rows in the world
abbrev pub rows_of : Memory → List MemoryObject
rows_of m = objects.rows_of m.objects

-- the frame at which a page of an object is pinned
abbrev pub pinned_frame : Memory → ObjectPage → Option FrameNo
pinned_frame m page = objects.pinned_frame m.objects page.memory page.index

-- the frame that a page of an object is in its user's memory now
abbrev pub frame_now : Memory → ObjectPage → Option FrameNo
frame_now m page = pin.frame_now (rows_of m) m.pages page

-- how many areas lie over the object of this number, and how many pins by page tables stand on it
abbrev pub areas_in : Option MemoryEntry → ℕ
areas_in None = 0
areas_in (Some object) = object.areas

abbrev pub areas_over : Memory → ℕ → ℕ
areas_over m number = areas_in (objects.object_at m.objects number)

abbrev pub pins_in : Option MemoryEntry → ℕ
pins_in None = 0
pins_in (Some object) = object.pages.pages.table_pins

abbrev pub table_pins : Memory → ℕ → ℕ
table_pins m number = pins_in (objects.object_at m.objects number)

-- how many pins by accesses stand on a page of an object
abbrev pub access_pins : Memory → ObjectPage → ℕ
access_pins m page = objects.access_pins_on m.objects page.memory page.index

-- the object has the page, and a pin by a page table stands on the object or one by an access on the page
abbrev pub is_pinned : Memory → ObjectPage → Bool
is_pinned m page =
    list_any (λ row. page.memory == row.number && nat_lt page.index row.count) (rows_of m)
    && (nat_lt 0 (table_pins m page.memory) || nat_lt 0 (access_pins m page))

-- ---- accounts

-- how many pinned pages the user has
abbrev pub held_by : Memory → UserNo → ℕ
held_by m user = pin.held_by (pinned_frame m) (rows_of m) user

-- the user may have so many more
abbrev pub has_room : Memory → UserNo → ℕ → Bool
has_room m user count =
    elim (numbered m.limits user.0) [ Some limit ↦ nat_le (held_by m user + count) limit | None ↦ false ]

-- ---- what pinning objects asks

-- no page table pins the object, and a page that no access pins isn't in its user's memory
abbrev pub lacks_page : Memory → ℕ → Bool
lacks_page m number = not (objects.passes (objects.can_pin m.pages) (objects.object_at m.objects number))

-- how many pages pinning it pins anew
abbrev pub new_pages : Memory → ℕ → ℕ
new_pages m number = objects.new_count_in (objects.object_at m.objects number)

-- pinning it takes no memory: there is some for the frames of its pages, or they are pinned already
abbrev pub has_memory : Memory → ℕ → Bool
has_memory m number = objects.passes objects.has_memory (objects.object_at m.objects number)

-- the rows of the objects of these numbers
abbrev pub rows_at : Memory → List ℕ → List MemoryObject
rows_at m numbers = filter (λ row. list_any (λ n. n == row.number) numbers) (rows_of m)

-- how many pages pinning them pins anew, each once
abbrev pub newly_pinned : Memory → List ℕ → ℕ
newly_pinned m numbers = length (pin.unpinned_pages (pinned_frame m) (rows_at m numbers))

-- they are all of this user
abbrev pub are_of : UserNo → List MemoryObject → Bool
are_of user rows = list_all (λ row. row.user.0 == user.0) rows

-- no number comes again later
abbrev pub are_different : List ℕ → Bool
are_different [] = true
are_different (number ∷ numbers) = not (list_any (λ n. n == number) numbers) && are_different numbers

-- ---- what pinning runs of pages asks

-- there is a memory object of the run's number, and the run lies within its pages
abbrev pub run_lies : Memory → PageRun → Bool
run_lies m run =
    list_any (λ row. row.number == run.number && nat_le (run.first + run.count) row.count) (rows_of m)

-- the page is one of these runs'
abbrev pub is_in_runs : List PageRun → ObjectPage → Bool
is_in_runs runs page = list_any (λ run. covers run page.memory page.index) runs

-- the pages of these runs that aren't pinned, each once
abbrev pub new_in_runs : Memory → List PageRun → List ObjectPage
new_in_runs m runs = filter (is_in_runs runs) (pin.unpinned_pages (pinned_frame m) (rows_of m))

-- ---- frames

-- how many of the users' pages, and of the pins, name the frame
abbrev pub reached : Memory → ℕ → ℕ
reached m frame = count_by (λ page. page.frame.0 == frame) m.pages + objects.pins_on m.objects frame

-- each frame has a hold for each page and each pin that names it; others have put few holds on it
pub record IsBacked (m : Memory) (holds : List ℕ) : Type 0 where
  pub least : (frame : ℕ) → reached m frame ≤ slice_index holds frame
  pub most : (frame : ℕ) → slice_index holds frame ≤ reached m frame + 2 ^ 64
