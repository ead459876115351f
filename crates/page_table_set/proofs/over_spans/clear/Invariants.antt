use Rattle.std.proofs.Common.{◌≡◌, take}
use Rattle.page_table_set.proofs.Partly.{Leads, partly}
use Rattle.page_table_set.specs.OverSpans.{LeadsCleared}
use Rattle.page_table_set.specs.PageTables.{AllStand, IfAllStand, KeepsOthers}
use Rattle.page_table_set.proofs.over_spans.clear.Given as goal

abbrev pub invariant-loop-hwpt : goal.invariant-loop-hwpt
invariant-loop-hwpt g l = record {
  same : l.hwpt-items ≡ l.fn.tables;
  holds : l.pool.holds ≡ l.fn.pool.holds;
  stand : IfAllStand l.fn.pool l.fn.tables (λ frames leads. (others : Leads)
      → LeadsCleared l.fn.file l.fn.ioas l.fn.first_page l.fn.count leads others
      → AllStand l.pool frames (partly (take l.hwpt-index l.fn.tables) leads others) l.fn.tables);
  others : IfAllStand l.fn.pool l.fn.tables (λ frames leads. KeepsOthers frames l.fn.pool l.pool);
}
