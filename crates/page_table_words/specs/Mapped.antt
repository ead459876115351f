-- What a call makes of a page table, and what it asks for.
use Rattle.std.specs.Prelude.{ℕ, ◌≤◌, ◌<◌, ◌*◌, ◌^◌, List}
use Rattle.iofd_words.specs.Width.{bits_of}
use Rattle.iofd_words.specs.declared.width.Width.{Width}
use Rattle.frame_memory.specs.Pool.{FramePool}
use Rattle.iofd_words.specs.Levels.{levels_of}
use Rattle.page_table_words.specs.Rows.{MappedPage, TableRow}
use Rattle.page_table_words.specs.Stands.{TableRoot, TableStands}
use Rattle.page_table_words.specs.Taken.{LeavesOthers, missing}

-- the page lies below the end of a width
abbrev pub IsBelow : Width → ℕ → Type 0
IsBelow width page = page * 4096 < 2 ^ bits_of width

-- the row of a root
abbrev pub root_row : TableRoot → TableRow
root_row table = record { level = levels_of table.width; first = 0; frame = table.root }

-- the page table has these rows and pages from now on, and each frame that isn't its own is as it was
pub record Becomes (old new : FramePool) (table : TableRoot) (rows : List TableRow)
    (pages : List MappedPage) : Type 0 where
  pub stands : TableStands new table rows pages
  pub others : LeavesOthers rows old new

-- the page table stands in the pool, with some rows and pages
pub record IsTable (pool : FramePool) (table : TableRoot) : Type 0 where
  pub rows : List TableRow
  pub pages : List MappedPage
  pub stands : TableStands pool table rows pages

-- the page table stands in the pool, with some rows and pages, and there is room for the frames of the tables that the
-- page lacks
pub record HasRoom (pool : FramePool) (table : TableRoot) (page room : ℕ) : Type 0 where
  pub rows : List TableRow
  pub pages : List MappedPage
  pub stands : TableStands pool table rows pages
  pub enough : missing rows (levels_of table.width) page ≤ room
