use Rattle.std.proofs.Common.{◌^◌, ◌/◌, ◌≤◌, arith}
use Rattle.iofd_words.specs.Width.{bits_of}
use Rattle.page_table.proofs.Mapping.{beyond_cleared, ends_within, nothing_cleared, page_cleared}
use Rattle.page_table.proofs.table.Table.clear.Goals as goal

pub returns-then-page-end-clause-table : goal.returns-then-page-end-clause-table
returns-then-page-end-clause-table g c = λ rows pages stands.
    let table = c.args.self.now in
    let beyond : 2 ^ bits_of table.width / 4096 ≤ c.args.page =
    rw (← c.self.view_is) (omega (arith, c.end.ensures, c.if-page-end.true)) in
    beyond_cleared c.args.pool.now table rows pages c.args.page stands beyond

pub write-requires-clause-frame : goal.write-requires-clause-frame
write-requires-clause-frame g c = ends_within c.args.pool.now c.lowest-lowest.result.level c.args.page
    c.lowest-lowest.result.frame c.lowest-lowest.ensures.ends

pub returns-then-lowest-eq1-clause-table : goal.returns-then-lowest-eq1-clause-table
returns-then-lowest-eq1-clause-table g c = λ rows pages stands.
    page_cleared c.args.pool.now c.write.new.pool c.args.self.now rows pages c.lowest-lowest.result.level c.args.page
    c.lowest-lowest.result.frame stands (c.lowest-lowest.ensures.lowest rows pages stands)
    c.if-lowest-eq1.true c.write.ensures

pub returns-else-lowest-eq1-clause-table : goal.returns-else-lowest-eq1-clause-table
returns-else-lowest-eq1-clause-table g c = λ rows pages stands.
    nothing_cleared c.args.pool.now c.args.pool.now c.args.self.now rows pages c.lowest-lowest.result.level c.args.page
    c.lowest-lowest.result.frame stands (c.lowest-lowest.ensures.lowest rows pages stands) (omega arith)
