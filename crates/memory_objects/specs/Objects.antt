-- What is seen of memory objects by number, and what each call makes of them.
use Rattle.std.specs.Prelude.{ℕ, ◌≡◌, ◌≤◌, ◌+◌, ◌-◌, Bool, true, false, ◌==◌, ◌&&◌}
use Rattle.std.specs.Prelude.{◌||◌, not, nat_lt, nat_le, Option}
use Rattle.std.specs.Prelude.{Some, None, List, [], ◌∷◌, map, filter, find, length, sum_by, count_by, if◌then◌else◌}
use Rattle.std.specs.List.{list_all, list_any}
use Rattle.iofd_words.specs.Frames.{frame_at}
use Rattle.iofd_words.specs.Pages.{page_of}
use Rattle.iofd_words.specs.declared.numbers.FrameNo.{FrameNo}
use Rattle.iofd_words.specs.declared.rows.MemoryObject.{MemoryObject}
use Rattle.iofd_words.specs.declared.rows.UserPage.{UserPage}
use Rattle.pinned_pages.specs.Holds.{times}
use Rattle.pinned_pages.specs.Pages.{MemoryPages, ObjectPages, access_frame, access_pins, are_present, frame_of}
use Rattle.pinned_pages.specs.Pages.{held_frames, needed, new_count, own_frames_now, pinned_count}
use Rattle.memory_objects.specs.declared.entry.Entry.{Entry}

-- an object: its number, how many areas lie over it, and its pages
abbrev pub MemoryEntry : Type 0
MemoryEntry = Entry MemoryPages

-- the objects by rising number, for how many more there is room, and the entries that stay of objects that are gone
pub record ObjectTable : Type 0 where
  pub objects : List MemoryEntry
  pub room : ℕ
  pub gone : List MemoryEntry

-- those over which an area lies; the others are gone
abbrev pub standing : List MemoryEntry → List MemoryEntry
standing entries = filter (λ object. not (object.areas == 0)) entries

abbrev pub gone_among : List MemoryEntry → List MemoryEntry
gone_among entries = filter (λ object. object.areas == 0) entries

-- those that are gone keep no memory for frames
abbrev pub is_freed : MemoryEntry → Bool
is_freed object = object.pages.capacity == 0

abbrev pub are_freed : List MemoryEntry → Bool
are_freed entries = list_all is_freed (gone_among entries)

-- each object has a lower number than those that follow it
abbrev pub are_rising : List MemoryEntry → Bool
are_rising [] = true
are_rising (object ∷ objects) = list_all (λ next. nat_lt object.number next.number) objects && are_rising objects

-- all numbers are below this one
abbrev pub are_below : List MemoryEntry → ℕ → Bool
are_below objects number = list_all (λ object. nat_lt object.number number) objects

-- the object of this number
abbrev pub is_numbered : ℕ → MemoryEntry → Bool
is_numbered number object = object.number == number

abbrev pub object_at : List MemoryEntry → ℕ → Option MemoryEntry
object_at objects number = find (is_numbered number) objects

-- the objects' rows in the world
abbrev pub row_of : MemoryEntry → MemoryObject
row_of object = record {
  number = object.number;
  user = object.pages.pages.user;
  va = object.pages.pages.va;
  count = object.pages.pages.count;
  writable = object.pages.pages.writable;
}

abbrev pub rows_of : List MemoryEntry → List MemoryObject
rows_of objects = map row_of objects

-- the frame at which a page of an object is pinned
abbrev pub frame_in : Option MemoryEntry → ℕ → Option FrameNo
frame_in None index = None
frame_in (Some object) index = frame_of object.pages.pages index

abbrev pub pinned_frame : List MemoryEntry → ℕ → ℕ → Option FrameNo
pinned_frame objects number index = frame_in (object_at objects number) index

-- the frame that a page of an object is in its user's memory now
abbrev pub frame_now_in : List UserPage → Option MemoryEntry → ℕ → Option FrameNo
frame_now_in rows None index = None
frame_now_in rows (Some object) index =
    if nat_lt index object.pages.pages.count
    then frame_at rows object.pages.pages.user (page_of object.pages.pages.va + index)
    else None

-- the frame at which accesses pin a page of an object, and how many of their pins stand on it
abbrev pub access_frame_in : Option MemoryEntry → ℕ → Option FrameNo
access_frame_in None index = None
access_frame_in (Some object) index = access_frame object.pages.pages index

abbrev pub access_pins_in : Option MemoryEntry → ℕ → ℕ
access_pins_in None index = 0
access_pins_in (Some object) index = access_pins object.pages.pages index

abbrev pub access_pins_on : List MemoryEntry → ℕ → ℕ → ℕ
access_pins_on objects number index = access_pins_in (object_at objects number) index

-- how many pins name the frame, and how many pages of this user's objects are pinned
abbrev pub pins_on : List MemoryEntry → ℕ → ℕ
pins_on objects frame = sum_by (λ object. times frame (held_frames object.pages.pages)) objects

abbrev pub pinned_by : List MemoryEntry → ℕ → ℕ
pinned_by objects user =
    sum_by (λ object. if object.pages.pages.user.0 == user then pinned_count object.pages.pages else 0) objects

-- ---- lists of numbers: an object's comes once for each of the areas meant that lie over it

-- how many times the number is in the list
abbrev pub times_of : ℕ → List ℕ → ℕ
times_of number numbers = count_by (λ n. n == number) numbers

-- each object of these numbers passes the test; a number of no object says nothing
abbrev pub passes : (MemoryEntry → Bool) → Option MemoryEntry → Bool
passes test None = true
passes test (Some object) = test object

abbrev pub all_pass : (MemoryEntry → Bool) → List MemoryEntry → List ℕ → Bool
all_pass test objects numbers = list_all (λ number. passes test (object_at objects number)) numbers

-- the object's pages are pinned by a page table, or each of them by an access or in its user's memory
abbrev pub can_pin : List UserPage → MemoryEntry → Bool
can_pin rows object = not (object.pages.pages.table_pins == 0) || are_present object.pages.pages rows

-- there is memory for all that pinning it needs
abbrev pub has_memory : MemoryEntry → Bool
has_memory object = nat_le (needed object.pages.pages) object.pages.capacity

-- the object is of this user
abbrev pub is_of : ℕ → MemoryEntry → Bool
is_of user object = object.pages.pages.user.0 == user

-- how many pages pinning these objects pins anew, each page once
abbrev pub new_pages : List MemoryEntry → List ℕ → ℕ
new_pages objects numbers =
    sum_by (λ object. if list_any (λ n. n == object.number) numbers then new_count object.pages.pages else 0) objects

-- how many pages pinning an object pins anew
abbrev pub new_count_in : Option MemoryEntry → ℕ
new_count_in None = 0
new_count_in (Some object) = new_count object.pages.pages

-- ---- what the calls make of the objects

-- pinned so many times more: from the first time on each page at the frame that it is then, but for one that an access
-- pins, which keeps its frame
abbrev pub pinned_more : List UserPage → ℕ → ObjectPages → ObjectPages
pinned_more rows more pages =
    record pages {
      table_pins = pages.table_pins + more;
      frames = if pages.table_pins == 0 && not (more == 0) then own_frames_now pages rows else pages.frames;
    }

-- pinned so many times less: after the last time no page is but those that accesses pin
abbrev pub pinned_less : ℕ → ObjectPages → ObjectPages
pinned_less less pages =
    record pages {
      table_pins = pages.table_pins - less;
      frames = if nat_le pages.table_pins less && not (less == 0) then [] else pages.frames;
    }

-- the object with other pages
abbrev pub with_pages : ObjectPages → MemoryEntry → MemoryEntry
with_pages pages object = record object { pages = record object.pages { pages = pages } }

-- there is the object, and at most so many pins stand on it
abbrev pub has_at_most : ℕ → Option MemoryEntry → Bool
has_at_most count None = false
has_at_most count (Some object) = nat_le object.pages.pages.table_pins count

-- a pin of these objects is the first one of this object, or the end of these pins its last
abbrev pub is_pinned_anew : List MemoryEntry → List ℕ → ℕ → Bool
is_pinned_anew objects numbers number = list_any (λ n. n == number) numbers && has_at_most 0 (object_at objects number)

abbrev pub is_unpinned : List MemoryEntry → List ℕ → ℕ → Bool
is_unpinned objects numbers number =
    list_any (λ n. n == number) numbers && has_at_most (times_of number numbers) (object_at objects number)

-- each is pinned once more for each time that its number is in the list, or once less
abbrev pub all_pinned : List UserPage → List ℕ → List MemoryEntry → List MemoryEntry
all_pinned rows numbers objects =
    map (λ object. with_pages (pinned_more rows (times_of object.number numbers) object.pages.pages) object) objects

abbrev pub all_unpinned : List ℕ → List MemoryEntry → List MemoryEntry
all_unpinned numbers objects =
    map (λ object. with_pages (pinned_less (times_of object.number numbers) object.pages.pages) object) objects

-- the object with so many areas over it
abbrev pub with_areas : ℕ → MemoryEntry → MemoryEntry
with_areas areas object = record object { areas = areas }

-- one area more lies over the object of this number
abbrev pub with_area : ℕ → List MemoryEntry → List MemoryEntry
with_area number objects =
    map (λ object. with_areas (object.areas + (if object.number == number then 1 else 0)) object) objects

-- an area less lies over each for each time that its number is in the list; those over which none is left are gone
abbrev pub all_less : List ℕ → List MemoryEntry → List MemoryEntry
all_less numbers objects = map (λ object. with_areas (object.areas - times_of object.number numbers) object) objects

abbrev pub without_areas : List ℕ → List MemoryEntry → List MemoryEntry
without_areas numbers objects = standing (all_less numbers objects)

-- of each object so many more areas are meant than pins stand on it, so that no object has more pins than areas
abbrev pub have_areas : List ℕ → List MemoryEntry → Bool
have_areas numbers objects =
    list_all (λ object. nat_le (object.pages.pages.table_pins + times_of object.number numbers) object.areas) objects

-- no access pins a page of an object over which no other areas lie than those meant
abbrev pub may_go : List ℕ → List MemoryEntry → Bool
may_go numbers objects =
    list_all (λ object. nat_lt (times_of object.number numbers) object.areas
    || length object.pages.pages.access == 0) objects

-- each object has as many pins as areas of it are meant
abbrev pub have_pins : List ℕ → List MemoryEntry → Bool
have_pins numbers objects =
    list_all (λ object. nat_le (times_of object.number numbers) object.pages.pages.table_pins) objects

-- the object with memory for so many frames
abbrev pub with_capacity : ℕ → MemoryEntry → MemoryEntry
with_capacity capacity object = record object { pages = record object.pages { capacity = capacity } }

-- the objects are as they were, but that there may be memory for more frames of each
pub record MemoryGrows (old new : List MemoryEntry) : Type 0 where
  pub capacity : MemoryEntry → ℕ
  pub more : (object : MemoryEntry) → object.pages.capacity ≤ capacity object
  pub objects : new ≡ map (λ object. with_capacity (capacity object) object) old

-- the same pages are pinned, each at the same frame, and by as many accesses; so as many pins name each frame, and as
-- many pages of each user's are pinned
pub record SamePins (old new : List MemoryEntry) : Type 0 where
  pub frames : (number index : ℕ) → pinned_frame new number index ≡ pinned_frame old number index
  pub access : (number index : ℕ) → access_pins_on new number index ≡ access_pins_on old number index
  pub pins : (frame : ℕ) → pins_on new frame ≡ pins_on old frame
  pub pinned : (user : ℕ) → pinned_by new user ≡ pinned_by old user
