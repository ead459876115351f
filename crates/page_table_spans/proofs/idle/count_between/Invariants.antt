use Rattle.std.proofs.Common.{◌≡◌, ◌≤◌, ◌-◌, List}
use Rattle.std.specs.List.{count_by}
use Rattle.iofd_words.specs.Levels.{levels_of}
use Rattle.area_map_rows.specs.Areas.{areas_outside}
use Rattle.page_table_words.specs.Rows.{MappedPage, TableRow}
use Rattle.page_table_words.specs.Stands.{TableStands}
use Rattle.page_table_spans.specs.Idle.{is_idle_between}
use Rattle.page_table_spans.proofs.idle.count_between.Given as goal

-- those before this number are counted
abbrev pub invariant-loop-number : goal.invariant-loop-number
invariant-loop-number g l = record {
  small : l.total ≤ l.number - l.first;
  idle : (rows : List TableRow) (pages : List MappedPage) → TableStands l.pool l.table rows pages
      → l.total ≡ count_by (is_idle_between (levels_of l.table.width) (areas_outside l.span l.areas.areas) l.level l.first
      l.number) rows;
}
