use Rattle.std.proofs.Common.{◌++◌, ℕ, List, sym, ap, ◌∙◌, arith, rules}
use Rattle.frame_memory.specs.Pool.{free_count}
use Rattle.iofd_words.specs.Levels.{levels_of}
use Rattle.page_table_words.specs.Taken.{least_frames}
use Rattle.page_table.proofs.Mapping.{last_within, page_mapped}
use Rattle.page_table_words.proofs.Missing.{missing_is}
use Rattle.page_table.proofs.table.Table.map.Goals as goal

pub extend-last-requires-clause-room : goal.extend-last-requires-clause-room
extend-last-requires-clause-room g c =
    let has = c.requires.table in
    let table = c.args.self.now in
    let lacks = missing_is c.args.pool.now (levels_of table.width) table.root has.rows has.pages
    c.lowest-lowest.result.level c.args.page c.lowest-lowest.result.frame has.stands
    (c.lowest-lowest.ensures.lowest has.rows has.pages has.stands) in
    omega (arith, lacks, has.enough)

pub write-requires-clause-frame : goal.write-requires-clause-frame
write-requires-clause-frame g c = last_within c.args.pool.now c.extend-last.new.pool c.lowest-lowest.result.level
    c.args.page c.lowest-lowest.result.frame c.extend-last.result c.lowest-lowest.ensures.ends
    c.extend-last.ensures.tables

pub returns-clause-table : goal.returns-clause-table
returns-clause-table g c = λ rows pages stands.
    let table = c.args.self.now in
    let lowest = c.lowest-lowest.ensures.lowest rows pages stands in
    page_mapped pages c.args.page c.args.frame c.args.rights c.requires.some_right c.requires.no_other (search rules)
    c.args.pool.now c.extend-last.new.pool c.write.new.pool table rows c.lowest-lowest.result.level
    c.lowest-lowest.result.frame c.extend-last.result stands lowest
    (c.extend-last.ensures.tables (levels_of table.width) table.root rows pages stands lowest)
    (record {
      holds = c.write.ensures.holds;
      entry = c.write.ensures.entry ∙ c.to.ensures;
      others = c.write.ensures.others;
      bytes = c.write.ensures.bytes;
    })

pub returns-clause-refused : goal.returns-clause-refused
returns-clause-refused g c = λ rows pages stands few.
    let table = c.args.self.now in
    let lacks = missing_is c.args.pool.now (levels_of table.width) table.root rows pages c.lowest-lowest.result.level
    c.args.page c.lowest-lowest.result.frame stands (c.lowest-lowest.ensures.lowest rows pages stands) in
    absurd (omega (arith, lacks, few))

pub returns-then-free_count-from-clause-taken : goal.returns-then-free_count-from-clause-taken
returns-then-free_count-from-clause-taken g c = λ rows pages stands enough.
    let table = c.args.self.now in
    let lacks = missing_is c.args.pool.now (levels_of table.width) table.root rows pages c.lowest-lowest.result.level
    c.args.page c.lowest-lowest.result.frame stands (c.lowest-lowest.ensures.lowest rows pages stands) in
    absurd (omega (arith, lacks, enough))

pub returns-clause-out : goal.returns-clause-out
returns-clause-out g c = λ rows pages stands.
    let table = c.args.self.now in
    let lacks = missing_is c.args.pool.now (levels_of table.width) table.root rows pages c.lowest-lowest.result.level
    c.args.page c.lowest-lowest.result.frame stands (c.lowest-lowest.ensures.lowest rows pages stands) in
    c.extend-last.ensures.out ∙ ap (λ (n : ℕ). c.args.out.now.items ++ least_frames c.args.pool.now.holds n) (sym lacks)

pub returns-clause-free : goal.returns-clause-free
returns-clause-free g c = λ rows pages stands.
    let table = c.args.self.now in
    let lacks = missing_is c.args.pool.now (levels_of table.width) table.root rows pages c.lowest-lowest.result.level
    c.args.page c.lowest-lowest.result.frame stands (c.lowest-lowest.ensures.lowest rows pages stands) in
    let same = ap (λ (holds : List ℕ). free_count holds) c.write.ensures.holds in
    omega (arith, lacks, same, c.extend-last.ensures.free, c.lowest-lowest.ensures.some)
