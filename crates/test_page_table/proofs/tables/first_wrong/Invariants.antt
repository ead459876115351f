use Rattle.page_table_words.specs.Mapped.{IsTable}
use Rattle.test_page_table.proofs.tables.first_wrong.Given as goal

abbrev pub invariant-loop-place : goal.invariant-loop-place
invariant-loop-place l = IsTable l.pool l.table
