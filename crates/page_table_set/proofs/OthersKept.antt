-- The bytes of frames that have no tables, as a page table changes.
use Rattle.std.proofs.Common.{◌≡◌, ℕ, true, false, List, ◌++◌, map, ap, sym, ◌∙◌, arith}
use Rattle.std.specs.List.{list_all}
use Rattle.iofd_rows.proofs.ListTests.{false_else}
use Rattle.iofd_words.specs.TablePlaces.{is_table_of}
use Rattle.iofd_words.specs.declared.rows.Object.{Object}
use Rattle.iofd_words.specs.declared.rows.TableFrame.{TableFrame}
use Rattle.frame_memory.specs.Pool.{FramePool}
use Rattle.page_table_words.specs.Mapped.{Becomes}
use Rattle.page_table_words.specs.Rows.{MappedPage, TableRow}
use Rattle.page_table_words.specs.Stands.{TableRoot}
use Rattle.page_table_words.specs.Taken.{names}
use Rattle.page_table_set.proofs.Changed.{all_rows}
use Rattle.page_table_set.proofs.Counted.{rows_append, tables_append}
use Rattle.page_table_set.proofs.Staying.{named_within}
use Rattle.page_table_set.specs.PageTables.{KeepsOthers, row_of, rows_of, tables_in}

-- a frame without tables is no row's of a page table
pub unnamed : (frames : List TableFrame) (object : Object) (frame : ℕ) → tables_in frames frame ≡ 0
    → names (rows_of frames object) frame ≡ false
unnamed frames object frame none = false_else (names (rows_of frames object) frame)
    (λ named. let some = named_within frames object frame named in omega (arith, some, none))

-- as a page table changes that gets more tables
pub one_kept : (old new : FramePool) (table : TableRoot) (frames more : List TableFrame) (object : Object)
    (pages : List MappedPage) → list_all (is_table_of object.file object.id) more ≡ true
    → Becomes old new table (rows_of frames object ++ map row_of more) pages → KeepsOthers (frames ++ more) old new
one_kept old new table frames more object pages own becomes frame none =
    becomes.others.bytes frame
    (ap (λ (rows : List TableRow). names rows frame)
    (sym (rows_append frames more object ∙ ap (λ (l : List TableRow). rows_of frames object ++ l)
    (all_rows more object own)))
    ∙ unnamed (frames ++ more) object frame none)

-- and one that gets none
pub none_more_kept : (old new : FramePool) (table : TableRoot) (frames : List TableFrame) (object : Object)
    (pages : List MappedPage)
    → Becomes old new table (rows_of frames object) pages → KeepsOthers frames old new
none_more_kept old new table frames object pages becomes frame none =
    becomes.others.bytes frame (unnamed frames object frame none)

-- one change after the other
pub kept_in_turn : (old mid new : FramePool) (frames more : List TableFrame) → KeepsOthers frames old mid
    → KeepsOthers (frames ++ more) mid new → KeepsOthers (frames ++ more) old new
kept_in_turn old mid new frames more first later frame none =
    let sum = tables_append frames more frame in
    later frame none ∙ first frame (omega (arith, sum, none))
