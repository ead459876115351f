-- What ties a hardware page table to the words of the pool.
use Rattle.std.specs.Prelude.{ℕ, ◌≡◌, ◌≤◌, ◌<◌, ◌+◌, ◌-◌, ◌^◌, true, is_some, ◌==◌}
use Rattle.std.specs.Prelude.{Some, List, slice_index}
use Rattle.std.specs.List.{count_by, list_all}
use Rattle.iofd_words.specs.Pages.{page_of}
use Rattle.iofd_words.specs.declared.numbers.FrameNo.{FrameNo}
use Rattle.iofd_words.specs.declared.width.Width.{Width}
use Rattle.frame_memory.specs.Pool.{FramePool}
use Rattle.page_table_words.specs.Entries.{entry_at, page_entry, table_entry}
use Rattle.iofd_words.specs.Levels.{first_address, index_at, levels_of, number_at}
use Rattle.page_table_words.specs.Rows.{MappedPage, TableRow, is_table, page_at, table_at}

-- what is seen of a page table: the width of the addresses that it translates, and the frame of its root
pub record TableRoot : Type 0 where
  pub width : Width
  pub root : FrameNo

-- of so many levels, the tables below this root are these rows in the pool, and map these pages
pub record Stands (pool : FramePool) (levels : ℕ) (root : FrameNo) (rows : List TableRow)
    (pages : List MappedPage) : Type 0 where
  -- the root is the one table of the first level, and each other one stands below another
  pub at_root : table_at rows levels 0 ≡ Some root
  pub top : (page : ℕ) (frame : FrameNo) → table_at rows levels page ≡ Some frame → number_at levels page ≡ 0
  pub level : (level page : ℕ) (frame : FrameNo) → table_at rows level page ≡ Some frame →
      (0 < level) × (level ≤ levels)
  pub above : (level page : ℕ) (frame : FrameNo) → table_at rows level page ≡ Some frame → level < levels →
      is_some (table_at rows (level + 1) page) ≡ true
  -- each row begins where its table does, and is alone at its place
  pub placed : list_all (λ row. row.first == first_address row.level (page_of row.first)) rows ≡ true
  pub once : (level page : ℕ) → count_by (is_table level page) rows ≤ 1
  -- each table has a frame of its own, on which one hold stands
  pub held : (level page : ℕ) (frame : FrameNo) → table_at rows level page ≡ Some frame →
      slice_index pool.holds frame.0 ≡ 1
  pub own : (level page other at : ℕ) (frame : FrameNo) → table_at rows level page ≡ Some frame →
      table_at rows other at ≡ Some frame → (level ≡ other) × (number_at level page ≡ number_at other at)
  pub fits : (level page : ℕ) (frame : FrameNo) → table_at rows level page ≡ Some frame → frame.0 < 2 ^ 32
  -- an entry above the last level names the table below it, with both rights, or is 0 where there is none
  pub entries : (level page : ℕ) (frame : FrameNo) → table_at rows level page ≡ Some frame → 1 < level →
      entry_at pool frame.0 (index_at level page) ≡ table_entry (table_at rows (level - 1) page)
  -- the entries of the last level are the mapped pages
  pub leaves : (page : ℕ) (frame : FrameNo) → table_at rows 1 page ≡ Some frame →
      entry_at pool frame.0 (index_at 1 page) ≡ page_entry (page_at pages page)
  -- each mapped page goes through a table of the last level, leads to a frame, and has a right
  pub mapped : (page : ℕ) (to : MappedPage) → page_at pages page ≡ Some to →
      is_some (table_at rows 1 page) ≡ true
  pub rights : (page : ℕ) (to : MappedPage) → page_at pages page ≡ Some to →
      (0 < to.rights.0) × (to.rights.0 < 4) × (to.frame.0 < 2 ^ 32)

-- the page table stands so in the pool, by its root and the levels of its width
abbrev pub TableStands : FramePool → TableRoot → List TableRow → List MappedPage → Type 0
TableStands pool table rows pages = Stands pool (levels_of table.width) table.root rows pages

-- with the rows and pages with which the page table stands, this holds
abbrev pub IfStands : FramePool → TableRoot → (List TableRow → List MappedPage → Type 0) → Type 0
IfStands pool table P =
    (rows : List TableRow) (pages : List MappedPage) → TableStands pool table rows pages → P rows pages
