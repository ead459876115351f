use Rattle.std.proofs.Common.{◌≡◌, ◌≤◌, ◌^◌, List, vec_len}
use Rattle.std.specs.Prelude.{vec_capacity}
use Rattle.std.specs.List.{All}
use Rattle.iofd_words.specs.Levels.{levels_of}
use Rattle.area_map_rows.specs.Areas.{areas_outside, areas_within}
use Rattle.page_table_words.specs.Rows.{MappedPage, TableRow}
use Rattle.page_table_words.specs.Stands.{TableStands}
use Rattle.page_table_spans.specs.Idle.{MayShed, Sheds, is_idle_between}
use Rattle.page_table_spans.specs.Spans.{IsOfPages}
use Rattle.page_table_spans.proofs.IdleAreas.{AreLeft}
use Rattle.page_table_spans.proofs.idle.remove_at.Given as goal

-- those before the next one are gone; those from it on are of areas that are left
abbrev pub invariant-loop-area : goal.invariant-loop-area
invariant-loop-area g l = record {
  are : AreLeft l.level l.next (areas_within l.span l.areas.areas) l.area-iterator;
  pages : All (λ area. IsOfPages l.fn.table.width area.span) l.area-iterator;
  bound : l.next ≤ 2 ^ 52;
  table : l.table ≡ l.fn.table;
  capacity : vec_capacity l.out ≡ vec_capacity l.fn.out;
  shed : (rows : List TableRow) (pages : List MappedPage) → TableStands l.fn.pool l.fn.table rows pages
      → MayShed (levels_of l.fn.table.width) l.areas.areas l.span l.level rows pages
      → Sheds l.fn.pool l.pool l.fn.table rows pages
      (is_idle_between (levels_of l.fn.table.width) (areas_outside l.span l.areas.areas) l.level 0 l.next)
      l.fn.out.items l.out.items (vec_len l.fn.out) (vec_len l.out);
}
