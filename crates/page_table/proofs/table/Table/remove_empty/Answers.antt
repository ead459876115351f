use Rattle.std.proofs.Common.{◌+◌}
use Rattle.iofd_words.specs.Levels.{levels_of}
use Rattle.page_table_words.specs.Needed.{first_page}
use Rattle.page_table_words.specs.Stands.{TableRoot}
use Rattle.page_table_words.proofs.Tables.{table_within}
use Rattle.page_table.proofs.Emptying.{from_root, given_up, left_stands, may_release, over, reached, way_above, way_down}
use Rattle.page_table.proofs.table.Table.remove_empty.Goals as goal

pub descend_to-above-requires-clause-table : goal.descend_to-above-requires-clause-table
descend_to-above-requires-clause-table g c =
    let has = rw (← c.self.view_is) at c.requires.table in
    let below = rw (← c.self.view_is) at c.requires.number in
    rw (c.levels.ensures.value, c.first_page-page.ensures)
    (way_above c.args.pool.now (record { width = c.self.inside.width; root = c.self.inside.root }) c.args.level
    c.args.number below has.rows has.pages has.stands has.empty)

pub descend_to-frame-requires-clause-table : goal.descend_to-frame-requires-clause-table
descend_to-frame-requires-clause-table g c =
    let has = rw (← c.self.view_is) at c.requires.table in
    let below = rw (← c.self.view_is) at c.requires.number in
    let table : TableRoot = record { width = c.self.inside.width; root = c.self.inside.root } in
    let at = rw (c.levels.ensures.value, c.first_page-page.ensures) at (c.descend_to-above.ensures (levels_of c.self.inside.width) c.self.inside.root has.rows
    has.pages has.stands) in
    rw c.first_page-page.ensures
    (way_down c.args.pool.now table c.args.level c.args.number below has.rows has.pages has.stands has.empty
    c.descend_to-above.result
    (at (from_root c.args.pool.now table c.args.level c.args.number below has.rows has.pages has.stands has.empty)
    (over c.args.pool.now table c.args.level c.args.number below has.rows has.pages has.stands has.empty)))

pub write-requires-clause-frame : goal.write-requires-clause-frame
write-requires-clause-frame g c =
    let has = rw (← c.self.view_is) at c.requires.table in
    let below = rw (← c.self.view_is) at c.requires.number in
    let table : TableRoot = record { width = c.self.inside.width; root = c.self.inside.root } in
    let ways = reached c.args.pool.now table c.args.level c.args.number below has.rows has.pages has.stands has.empty
    c.descend_to-above.result c.descend_to-frame.result
    (rw (c.levels.ensures.value, c.first_page-page.ensures) at c.descend_to-above.ensures)
    (rw c.first_page-page.ensures at c.descend_to-frame.ensures) in
    table_within c.args.pool.now (levels_of table.width) table.root has.rows has.pages has.stands (c.args.level + 1)
    (first_page c.args.level c.args.number) c.descend_to-above.result ways.0

pub release-requires : goal.release-requires
release-requires g c =
    let has = rw (← c.self.view_is) at c.requires.table in
    let below = rw (← c.self.view_is) at c.requires.number in
    let table : TableRoot = record { width = c.self.inside.width; root = c.self.inside.root } in
    let ways = reached c.args.pool.now table c.args.level c.args.number below has.rows has.pages has.stands has.empty
    c.descend_to-above.result c.descend_to-frame.result
    (rw (c.levels.ensures.value, c.first_page-page.ensures) at c.descend_to-above.ensures)
    (rw c.first_page-page.ensures at c.descend_to-frame.ensures) in
    may_release c.args.pool.now c.write.new.pool (levels_of table.width) table.root has.rows has.pages has.stands
    c.args.level c.args.number has.empty c.descend_to-above.result c.descend_to-frame.result c.requires.some ways.0
    ways.1 (rw c.first_page-page.ensures at c.write.ensures)

pub returns-clause-table : goal.returns-clause-table
returns-clause-table g c =
    rw (← c.self.view_is, c.release.ensures)
    (λ rows pages stands empty.
    let below = rw (← c.self.view_is) at c.requires.number in
    let table : TableRoot = record { width = c.self.inside.width; root = c.self.inside.root } in
    let ways = reached c.args.pool.now table c.args.level c.args.number below rows pages stands empty
    c.descend_to-above.result c.descend_to-frame.result
    (rw (c.levels.ensures.value, c.first_page-page.ensures) at c.descend_to-above.ensures)
    (rw c.first_page-page.ensures at c.descend_to-frame.ensures) in
    left_stands c.args.pool.now c.write.new.pool (levels_of table.width) table.root rows pages stands
    c.args.level c.args.number empty c.descend_to-above.result c.descend_to-frame.result c.requires.some ways.0
    ways.1 (rw c.first_page-page.ensures at c.write.ensures))

pub returns-clause-given : goal.returns-clause-given
returns-clause-given g c =
    rw (← c.self.view_is, c.release.ensures)
    (λ rows pages stands empty.
    let below = rw (← c.self.view_is) at c.requires.number in
    let table : TableRoot = record { width = c.self.inside.width; root = c.self.inside.root } in
    let ways = reached c.args.pool.now table c.args.level c.args.number below rows pages stands empty
    c.descend_to-above.result c.descend_to-frame.result
    (rw (c.levels.ensures.value, c.first_page-page.ensures) at c.descend_to-above.ensures)
    (rw c.first_page-page.ensures at c.descend_to-frame.ensures) in
    given_up c.args.pool.now c.write.new.pool (levels_of table.width) table.root rows pages stands
    c.args.level c.args.number empty c.descend_to-above.result c.descend_to-frame.result c.requires.some ways.0
    ways.1 (rw c.first_page-page.ensures at c.write.ensures) c.args.out.now.items c.push_reserved.new.self.items
    c.push_reserved.ensures.items)
