-- What is left where a page table is given back.
use Rattle.std.specs.Prelude.{ℕ, ◌≡◌, ◌≤◌, ◌+◌, ◌==◌, true, false, List, ◌++◌}
use Rattle.std.specs.Prelude.{length, map, slice_index}
use Rattle.std.specs.List.{count_by}
use Rattle.std.specs.List.Sorted.{IsNonDecreasingBy, IsPermutation}
use Rattle.iofd_words.specs.declared.numbers.FrameNo.{FrameNo}
use Rattle.frame_memory.specs.Pool.{FramePool}
use Rattle.page_table_words.specs.Rows.{MappedPage, TableRow}
use Rattle.page_table_words.specs.Stands.{TableRoot, TableStands}
use Rattle.page_table_words.specs.Taken.{names}

-- how many times the frame is listed
abbrev pub times : ℕ → List FrameNo → ℕ
times frame frames = count_by (λ f. f.0 == frame) frames

-- each frame has one hold less for each time that it is listed; all else is as it was
pub record HasFewerHolds (old new : FramePool) (frames : List FrameNo) : Type 0 where
  pub holds : (frame : ℕ) → slice_index new.holds frame + times frame frames ≡ slice_index old.holds frame
  pub bytes : new.bytes ≡ old.bytes
  pub count : length new.holds ≡ length old.holds

-- the page table stands in the pool, and there is room for the frames of all its tables
pub record CanRelease (pool : FramePool) (table : TableRoot) (room : ℕ) : Type 0 where
  pub rows : List TableRow
  pub pages : List MappedPage
  pub stands : TableStands pool table rows pages
  pub enough : length rows ≤ room

-- behind what was listed stand the frames of these tables, each once, by rising number
pub record GivesBack (rows : List TableRow) (old new : List FrameNo) : Type 0 where
  pub given : List FrameNo
  pub is : new ≡ old ++ given
  pub same : IsPermutation (map (λ row. row.frame) rows) given
  pub rising : IsNonDecreasingBy (λ frame. frame.0) given

-- no hold is left on the frames of these tables; every other hold and every byte is as it was
pub record Releases (rows : List TableRow) (old new : FramePool) : Type 0 where
  pub free : (frame : ℕ) → names rows frame ≡ true → slice_index new.holds frame ≡ 0
  pub others : (frame : ℕ) → names rows frame ≡ false →
      slice_index new.holds frame ≡ slice_index old.holds frame
  pub bytes : new.bytes ≡ old.bytes
  pub count : length new.holds ≡ length old.holds
