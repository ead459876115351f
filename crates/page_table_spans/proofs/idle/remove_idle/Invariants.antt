use Rattle.std.proofs.Common.{◌≡◌, List, vec_len}
use Rattle.std.specs.Prelude.{vec_capacity}
use Rattle.iofd_words.specs.Levels.{levels_of}
use Rattle.area_map_rows.specs.Areas.{areas_outside}
use Rattle.page_table_words.specs.Rows.{MappedPage, TableRow}
use Rattle.page_table_words.specs.Stands.{TableStands}
use Rattle.page_table_spans.specs.Idle.{MayShed, Sheds}
use Rattle.page_table_spans.proofs.IdleTables.{is_idle_below}
use Rattle.page_table_spans.proofs.idle.remove_idle.Given as goal

-- those below this level are gone
abbrev pub invariant-loop-level : goal.invariant-loop-level
invariant-loop-level g l = record {
  table : l.table ≡ l.fn.table;
  capacity : vec_capacity l.out ≡ vec_capacity l.fn.out;
  shed : (rows : List TableRow) (pages : List MappedPage) → TableStands l.fn.pool l.fn.table rows pages
      → MayShed (levels_of l.fn.table.width) l.areas.areas l.span 1 rows pages
      → Sheds l.fn.pool l.pool l.fn.table rows pages
      (is_idle_below (levels_of l.fn.table.width) (areas_outside l.span l.areas.areas) l.level)
      l.fn.out.items l.out.items (vec_len l.fn.out) (vec_len l.out);
}
