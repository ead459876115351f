use Rattle.std.proofs.Common.{◌≡◌, List, vec_len}
use Rattle.std.specs.Prelude.{vec_capacity}
use Rattle.iofd_words.specs.Levels.{levels_of}
use Rattle.area_map_rows.specs.Areas.{areas_outside}
use Rattle.page_table_words.specs.Rows.{MappedPage, TableRow}
use Rattle.page_table_words.specs.Stands.{TableStands}
use Rattle.page_table_spans.specs.Idle.{MayShed, Sheds, is_idle_between}
use Rattle.page_table_spans.proofs.idle.remove_between.Given as goal

-- those before this number are gone
abbrev pub invariant-loop-number : goal.invariant-loop-number
invariant-loop-number g l = record {
  table : l.table ≡ l.fn.table;
  capacity : vec_capacity l.out ≡ vec_capacity l.fn.out;
  shed : (rows : List TableRow) (pages : List MappedPage) → TableStands l.fn.pool l.fn.table rows pages
      → MayShed (levels_of l.fn.table.width) l.areas.areas l.span l.level rows pages
      → Sheds l.fn.pool l.pool l.fn.table rows pages
      (is_idle_between (levels_of l.fn.table.width) (areas_outside l.span l.areas.areas) l.level l.first l.number)
      l.fn.out.items l.out.items (vec_len l.fn.out) (vec_len l.out);
}
