use Rattle.std.proofs.Common.{◌≡◌, ◌≤◌, ◌*◌, ◌-◌, ◌^◌, List}
use Rattle.std.specs.List.{range_with_len, sum_by}
use Rattle.iofd_words.specs.Levels.{levels_of}
use Rattle.page_table_words.specs.Needed.{needed_at}
use Rattle.page_table_words.specs.Rows.{MappedPage, TableRow}
use Rattle.page_table_words.specs.Stands.{TableStands}
use Rattle.page_table.proofs.table.Table.needs.Given as goal

-- the levels so far
abbrev pub invariant-loop-level : goal.invariant-loop-level
invariant-loop-level g l = record {
  small : l.total ≤ (l.level - 1) * 2 ^ 52;
  needed : (rows : List TableRow) (pages : List MappedPage) → TableStands l.pool l.self rows pages
      → l.total ≡ sum_by (λ level. needed_at rows (levels_of l.self.width) level l.spans)
      (range_with_len 1 (l.level - 1));
}
