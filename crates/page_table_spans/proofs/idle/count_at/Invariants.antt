use Rattle.std.proofs.Common.{◌≡◌, ◌≤◌, ◌^◌, false, List}
use Rattle.std.specs.List.{All, count_by, list_any}
use Rattle.iofd_words.specs.Levels.{levels_of}
use Rattle.area_map_rows.specs.Areas.{areas_outside, areas_within}
use Rattle.page_table_words.specs.Rows.{MappedPage, TableRow}
use Rattle.page_table_words.specs.Stands.{TableStands}
use Rattle.page_table_spans.specs.Idle.{is_idle, is_idle_between}
use Rattle.page_table_spans.specs.Spans.{IsOfPages}
use Rattle.page_table_spans.proofs.IdleAreas.{AreLeft}
use Rattle.page_table_spans.proofs.idle.count_at.Given as goal

-- those before the next one are counted; those from it on are of areas that are left
abbrev pub invariant-loop-area : goal.invariant-loop-area
invariant-loop-area g l = record {
  are : AreLeft l.level l.next (areas_within l.span l.areas.areas) l.area-iterator;
  pages : All (λ area. IsOfPages l.table.width area.span) l.area-iterator;
  few : l.total ≤ l.next;
  bound : l.next ≤ 2 ^ 45;
  idle : (rows : List TableRow) (pages : List MappedPage) → TableStands l.pool l.table rows pages
      → list_any (is_idle (levels_of l.table.width) l.areas.areas) rows ≡ false
      → l.total ≡ count_by (is_idle_between (levels_of l.table.width) (areas_outside l.span l.areas.areas) l.level 0
      l.next) rows;
}
