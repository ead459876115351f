use Rattle.std.proofs.Common.{◌≡◌, take, vec_capacity}
use Rattle.page_table_set.proofs.MappedInTurn.{IsMapped}
use Rattle.page_table_set.specs.PageTables.{IfAllStand}
use Rattle.page_table_set.proofs.over_spans.map.Given as goal

-- those before this one are done
abbrev pub invariant-loop-hwpt : goal.invariant-loop-hwpt
invariant-loop-hwpt g l = record {
  same : l.hwpt-items ≡ l.fn.tables;
  capacity : vec_capacity l.out ≡ vec_capacity l.fn.out;
  mapped : IfAllStand l.fn.pool l.fn.tables
      (IsMapped l.fn.file l.fn.ioas l.fn.span l.fn.frames l.fn.rights l.fn.pool l.pool l.fn.out.items l.out.items
      l.fn.tables (take l.hwpt-index l.fn.tables));
}
