-- When the users' memory and a pool show the rows of a world: users' pages, memory objects with their areas, pins, and
-- the bytes of frames.
use Rattle.std.specs.Prelude.{◌≡◌, ◌==◌, ◌&&◌, ◌<◌, ◌≤◌, ◌+◌, ℕ, Bool, true, nat_lt, List}
use Rattle.std.specs.Prelude.{length, slice_index, sum_by}
use Rattle.std.specs.List.{count_by, list_any}
use Rattle.frame_memory.specs.Pool.{FramePool, bytes_of}
use Rattle.iofd_words.specs.Frames.{FrameWrite, byte_at, frame_at}
use Rattle.iofd_words.specs.Objects.{has_hwpt}
use Rattle.iofd_words.specs.Pins.{ObjectPage, covers_page, pinned_frame}
use Rattle.iofd_words.specs.declared.numbers.UserNo.{UserNo}
use Rattle.iofd_words.specs.declared.rows.AccessPin.{AccessPin}
use Rattle.iofd_words.specs.declared.rows.Area.{Area}
use Rattle.iofd_words.specs.declared.rows.MemoryObject.{MemoryObject}
use Rattle.iofd_words.specs.declared.rows.Object.{Object}
use Rattle.iofd_words.specs.declared.rows.Pin.{Pin}
use Rattle.iofd_words.specs.declared.rows.TableFrame.{TableFrame}
use Rattle.iofd_words.specs.declared.rows.UserPage.{UserPage}
use Rattle.memory_objects.specs.Invariant.{MemoryInvariant}
use Rattle.memory_objects.specs.Objects.{pins_on}
use Rattle.user_memory.specs.Memory as memory
use Rattle.user_memory.specs.Memory.{Memory, access_pins, areas_over, reached, rows_of, table_pins}

-- how many of the areas are over the memory object of this number, and how many of these a page table translates
abbrev pub over : List Area → ℕ → ℕ
over areas number = count_by (λ area. area.memory == number) areas

abbrev pub translated : List Object → List Area → ℕ → ℕ
translated objects areas number =
    count_by (λ area. area.memory == number && has_hwpt objects area.file area.ioas) areas

-- in how many of these areas the page lies in the access pin's span
abbrev pub covered_by : List Object → List Area → ObjectPage → AccessPin → ℕ
covered_by objects areas page pin =
    count_by (λ area. area.memory == page.memory && covers_page objects page.index pin area) areas

-- how often access pins cover the page: once for each pin and each area in which it does
abbrev pub accessed : List Object → List Area → List AccessPin → ObjectPage → ℕ
accessed objects areas access_pins page = sum_by (covered_by objects areas page) access_pins

-- one of these memory objects has the page
abbrev pub has_page : List MemoryObject → ObjectPage → Bool
has_page memory_objects page =
    list_any (λ row. page.memory == row.number && nat_lt page.index row.count) memory_objects

-- which page is which frame; the same rows, in whatever order
pub record UsersShown (user_pages kept : List UserPage) : Type 0 where
  pub pages : (user : UserNo) (page : ℕ) → frame_at user_pages user page ≡ frame_at kept user page
  pub counts : (test : UserPage → Bool) → count_by test user_pages ≡ count_by test kept

-- the memory objects, how many areas and how many translated areas lie over each, how often access pins cover a page,
-- and at which frame it is pinned
pub record PinsShown (objects : List Object) (all_areas : List Area) (memory_objects : List MemoryObject)
    (pins : List Pin) (all_access_pins : List AccessPin) (kept : Memory) : Type 0 where
  pub rows : memory_objects ≡ rows_of kept
  pub areas : (number : ℕ) → areas_over kept number ≡ over all_areas number
  pub tables : (number : ℕ) → table_pins kept number ≡ translated objects all_areas number
  pub access : (page : ObjectPage) → has_page memory_objects page ≡ true
      → access_pins kept page ≡ accessed objects all_areas all_access_pins page
  pub frames : (page : ObjectPage) → pinned_frame pins page ≡ memory.pinned_frame kept page
  pub names : (frame : ℕ) → list_any (λ pin. pin.frame.0 == frame) pins ≡ nat_lt 0 (pins_on kept.objects frame)
  pub invariant : MemoryInvariant kept.objects

-- how many tables are in the frame
abbrev pub tables_in : List TableFrame → ℕ → ℕ
tables_in tables frame = count_by (λ table. table.frame.0 == frame) tables

-- each frame has a hold for each page, each pin and each table that names it, and no two tables are in one. Where a
-- page or a pin names it each byte is what was written there last; the bytes of a table's frame are its page table's,
-- and those of a free one nobody's.
pub record FramesShown (pool : ℕ) (writes : List FrameWrite) (tables : List TableFrame) (kept : Memory)
    (frames : FramePool) : Type 0 where
  pub size : length frames.holds ≡ pool
  pub count : length frames.bytes ≡ pool
  pub full : (frame : ℕ) → frame < pool → 0 < reached kept frame → length (bytes_of frames frame) ≡ 4096
  pub holds : (frame : ℕ) → slice_index frames.holds frame ≡ reached kept frame + tables_in tables frame
  pub once : (frame : ℕ) → tables_in tables frame ≤ 1
  pub written : (frame offset : ℕ) → frame < pool → offset < 4096 → 0 < reached kept frame
      → slice_index (bytes_of frames frame) offset ≡ byte_at writes frame offset
