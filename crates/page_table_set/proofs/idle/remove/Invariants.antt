use Rattle.std.proofs.Common.{◌≡◌, take, vec_len}
use Rattle.std.specs.Prelude.{vec_capacity}
use Rattle.area_map_rows.specs.Areas.{areas_outside}
use Rattle.page_table_set.specs.Idle.{MayShed, Shedding, is_idle_in}
use Rattle.page_table_set.specs.PageTables.{IfAllStand}
use Rattle.page_table_set.proofs.idle.remove.Given as goal

-- those of the page tables so far are gone
abbrev pub invariant-loop-hwpt : goal.invariant-loop-hwpt
invariant-loop-hwpt g l = record {
  same : l.hwpt-items ≡ l.fn.tables;
  capacity : vec_capacity l.out ≡ vec_capacity l.fn.out;
  shed : IfAllStand l.fn.pool l.fn.tables (λ frames leads.
      MayShed l.fn.file l.fn.ioas l.fn.areas.areas l.fn.span frames leads l.fn.tables
      → Shedding l.fn.pool l.pool frames leads l.fn.tables
      (is_idle_in l.fn.file l.fn.ioas (areas_outside l.fn.span l.fn.areas.areas) (take l.hwpt-index l.fn.tables))
      l.fn.out.items l.out.items (vec_len l.fn.out) (vec_len l.out));
}
