-- What a page table is once tables are made that a page lacks.
use Rattle.std.specs.Prelude.{ℕ, ◌≡◌, ◌≢◌, ◌⊎◌, ◌<◌, ◌+◌, ◌-◌, ◌*◌, ◌^◌}
use Rattle.std.specs.Prelude.{◌++◌, false, Some, List, slice_set}
use Rattle.iofd_words.specs.declared.numbers.FrameNo.{FrameNo}
use Rattle.frame_memory.specs.Pool.{FramePool, bytes_of, is_free, least_free}
use Rattle.page_table_words.specs.Entries.{entry_at}
use Rattle.iofd_words.specs.Levels.{index_at}
use Rattle.page_table_words.specs.Rows.{MappedPage, TableRow, table_at}
use Rattle.page_table_words.specs.Stands.{Stands}
use Rattle.page_table_words.specs.Taken.{LeavesOthers, least_frames, rows_below}

-- the least free frame is an empty table now, which the page's entry of this table, one of this level, names; all else
-- is as it was
pub record AddsTable (old new : FramePool) (level page : ℕ) (table frame : FrameNo) : Type 0 where
  pub least : least_free old.holds ≡ Some frame.0
  pub small : frame.0 < 2 ^ 32
  pub holds : new.holds ≡ slice_set old.holds frame.0 1
  pub entry : entry_at new table.0 (index_at level page) ≡ 4096 * frame.0 + 3
  pub empty : (i : ℕ) → i < 512 → entry_at new frame.0 i ≡ 0
  pub others : (f i : ℕ) → is_free old.holds f ≡ false → (f ≢ table.0) ⊎ (i ≢ index_at level page) →
      entry_at new f i ≡ entry_at old f i
  pub bytes : (f : ℕ) → f ≢ table.0 → f ≢ frame.0 → bytes_of new f ≡ bytes_of old f

-- the rows and those of the levels below this one, of the least free frames, of which the last level's is this one
pub record Extends (old new : FramePool) (levels : ℕ) (root : FrameNo) (rows : List TableRow)
    (pages : List MappedPage) (level page : ℕ) (last : FrameNo) : Type 0 where
  pub stands : Stands new levels root (rows ++ rows_below level page (least_frames old.holds (level - 1))) pages
  pub at : table_at (rows ++ rows_below level page (least_frames old.holds (level - 1))) 1 page ≡ Some last
  pub others : LeavesOthers (rows ++ rows_below level page (least_frames old.holds (level - 1))) old new
