use Rattle.std.proofs.Common.{◌≡◌, ◌≤◌, ◌*◌, ◌^◌, false, List}
use Rattle.std.specs.List.{count_by, list_any}
use Rattle.iofd_words.specs.Levels.{levels_of}
use Rattle.area_map_rows.specs.Areas.{areas_outside}
use Rattle.page_table_words.specs.Rows.{MappedPage, TableRow}
use Rattle.page_table_words.specs.Stands.{TableStands}
use Rattle.page_table_spans.specs.Idle.{is_idle}
use Rattle.page_table_spans.proofs.IdleTables.{is_idle_below}
use Rattle.page_table_spans.proofs.idle.count_idle.Given as goal

-- those below this level are counted
abbrev pub invariant-loop-level : goal.invariant-loop-level
invariant-loop-level g l = record {
  bound : l.total ≤ l.level * 2 ^ 45;
  idle : (rows : List TableRow) (pages : List MappedPage) → TableStands l.pool l.table rows pages
      → list_any (is_idle (levels_of l.table.width) l.areas.areas) rows ≡ false
      → l.total ≡ count_by (is_idle_below (levels_of l.table.width) (areas_outside l.span l.areas.areas) l.level) rows;
}
