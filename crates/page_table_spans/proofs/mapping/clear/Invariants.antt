use Rattle.std.proofs.Common.{◌≡◌, ◌-◌, List}
use Rattle.page_table_words.specs.Rows.{MappedPage, TableRow}
use Rattle.page_table_words.specs.Stands.{TableStands}
use Rattle.page_table_spans.proofs.SpanMapped.{IsCleared}
use Rattle.page_table_spans.proofs.mapping.clear.Given as goal

-- the pages before this one are cleared
abbrev pub invariant-loop-page : goal.invariant-loop-page
invariant-loop-page g l = record {
  table : l.table ≡ l.fn.table;
  holds : l.pool.holds ≡ l.fn.pool.holds;
  cleared : (rows : List TableRow) (pages : List MappedPage) → TableStands l.fn.pool l.fn.table rows pages
      → IsCleared l.fn.pool l.pool l.fn.table rows pages l.first_page (l.page - l.first_page);
}
