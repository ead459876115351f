use Rattle.std.proofs.Common.{rules}
use Rattle.page_table_words.proofs.AddingTable.{taken_least}
use Rattle.page_table_words.proofs.Rooted.{root_becomes}
use Rattle.page_table_words.proofs.Tops.{some_levels}
use Rattle.page_table.proofs.table.Table.new.Goals as goal

pub returns-clause-table : goal.returns-clause-table
returns-clause-table g c =
    root_becomes c.args.pool.now c.take.new.self (record { width = c.args.width; root = c.in_ok-root.root })
    (some_levels c.args.width)
    (taken_least c.args.pool.now.holds c.take.result c.in_ok-root.root c.take.ensures.least c.take.ensures.refused
    c.in_ok-root.was) (search rules) c.in_ok-root.ensures.ok c.in_ok-root.ensures.zero
