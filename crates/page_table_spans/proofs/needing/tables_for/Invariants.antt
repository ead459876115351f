use Rattle.std.proofs.Common.{◌≡◌, ◌+◌, ◌-◌, ◌*◌, ◌^◌, ◌≤◌}
use Rattle.std.specs.List.{range_with_len, sum_by}
use Rattle.iofd_words.specs.TablePlaces.{live_pages}
use Rattle.page_table_spans.proofs.AreaTables.{nothing}
use Rattle.page_table_spans.proofs.ByLevel.{lacked_at}
use Rattle.page_table_spans.proofs.needing.tables_for.Given as goal

-- the root, and the levels so far
abbrev pub invariant-loop-level : goal.invariant-loop-level
invariant-loop-level g l = record {
  small : l.total ≤ 1 + (l.level - 1) * 2 ^ 52;
  value : l.total ≡ 1 + sum_by (lacked_at nothing (live_pages l.areas.areas)) (range_with_len 1 (l.level - 1));
}
