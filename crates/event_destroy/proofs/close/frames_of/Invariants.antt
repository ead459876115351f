use Rattle.std.proofs.Common.{◌≡◌, length, take}
use Rattle.page_table_set.specs.PageTables.{IfAllStand}
use Rattle.page_table_set.specs.Removed.{rows_of_file}
use Rattle.event_destroy.proofs.close.frames_of.Given as goal

-- the count is that of the page tables so far
abbrev pub invariant-loop-hwpt : goal.invariant-loop-hwpt
invariant-loop-hwpt g l =
    IfAllStand l.fn.state.pool l.fn.state.page_tables.tables
    (λ frames leads. l.count ≡ length (rows_of_file frames l.fn.file (take l.hwpt-index l.fn.state.page_tables.tables)))
