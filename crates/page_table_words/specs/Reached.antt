-- How far a page's tables go.
use Rattle.std.specs.Prelude.{ℕ, ◌≡◌, ◌<◌, ◌-◌, Some, None, List}
use Rattle.iofd_words.specs.declared.numbers.FrameNo.{FrameNo}
use Rattle.frame_memory.specs.Pool.{FramePool}
use Rattle.page_table_words.specs.Rows.{MappedPage, TableRow, table_at}
use Rattle.page_table_words.specs.Stands.{Stands}

-- the frame is that of the level's table through which the page goes, in some page table that stands in the pool
pub record GoesThrough (pool : FramePool) (level page : ℕ) (frame : FrameNo) : Type 0 where
  pub levels : ℕ
  pub root : FrameNo
  pub rows : List TableRow
  pub pages : List MappedPage
  pub stands : Stands pool levels root rows pages
  pub at : table_at rows level page ≡ Some frame

-- of the tables through which the page goes this is the lowest one
pub record IsLowest (rows : List TableRow) (level page : ℕ) (frame : FrameNo) : Type 0 where
  pub at : table_at rows level page ≡ Some frame
  pub last : 1 < level → table_at rows (level - 1) page ≡ None

-- the same of some page table that stands in the pool
pub record EndsAt (pool : FramePool) (level page : ℕ) (frame : FrameNo) : Type 0 where
  pub levels : ℕ
  pub root : FrameNo
  pub rows : List TableRow
  pub pages : List MappedPage
  pub stands : Stands pool levels root rows pages
  pub lowest : IsLowest rows level page frame
