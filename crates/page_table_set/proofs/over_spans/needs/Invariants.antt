use Rattle.std.proofs.Common.{◌≡◌, ◌≤◌, ◌*◌, ◌^◌, length, take}
use Rattle.page_table_set.specs.OverSpans.{hwpts_over, tables_needed}
use Rattle.page_table_set.specs.PageTables.{IfAllStand}
use Rattle.page_table_set.proofs.over_spans.needs.Given as goal

abbrev pub invariant-loop-hwpt : goal.invariant-loop-hwpt
invariant-loop-hwpt g l = record {
  total : IfAllStand l.fn.pool l.fn.tables (λ frames leads. l.total ≡ tables_needed frames l.fn.file l.fn.ioas l.fn.span
      (take l.hwpt-index l.fn.tables));
  small : l.total ≤ 2 ^ 47 * length (hwpts_over l.fn.file l.fn.ioas (take l.hwpt-index l.fn.tables));
}
