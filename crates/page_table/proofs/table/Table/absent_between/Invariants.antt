use Rattle.std.proofs.Common.{◌≡◌, ◌≤◌, ◌-◌, List}
use Rattle.std.specs.List.{count_by, range_with_len}
use Rattle.page_table_words.specs.Needed.{is_absent}
use Rattle.page_table_words.specs.Rows.{MappedPage, TableRow}
use Rattle.page_table_words.specs.Stands.{TableStands}
use Rattle.page_table.proofs.table.Table.absent_between.Given as goal

-- the tables so far
abbrev pub invariant-loop-number : goal.invariant-loop-number
invariant-loop-number g l = record {
  small : l.total ≤ l.number - l.first;
  absent : (rows : List TableRow) (pages : List MappedPage) → TableStands l.pool l.self rows pages
      → l.total ≡ count_by (is_absent rows l.level) (range_with_len l.first (l.number - l.first));
}
