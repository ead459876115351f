use Rattle.std.proofs.Common.{◌≡◌, ◌≤◌, ◌*◌, ◌^◌, false, length, take}
use Rattle.std.specs.List.{count_by, list_any}
use Rattle.area_map_rows.specs.Areas.{areas_outside}
use Rattle.page_table_set.specs.Idle.{is_idle_in}
use Rattle.page_table_set.specs.OverSpans.{hwpts_over}
use Rattle.page_table_set.specs.PageTables.{IfAllStand}
use Rattle.page_table_set.proofs.idle.count.Given as goal

-- those of the page tables so far are counted
abbrev pub invariant-loop-hwpt : goal.invariant-loop-hwpt
invariant-loop-hwpt g l = record {
  total : IfAllStand l.fn.pool l.fn.tables (λ frames leads.
      list_any (is_idle_in l.fn.file l.fn.ioas l.fn.areas.areas l.fn.tables) frames ≡ false
      → l.total ≡ count_by (is_idle_in l.fn.file l.fn.ioas (areas_outside l.fn.span l.fn.areas.areas)
      (take l.hwpt-index l.fn.tables)) frames);
  small : l.total ≤ 5 * 2 ^ 45 * length (hwpts_over l.fn.file l.fn.ioas (take l.hwpt-index l.fn.tables));
}
