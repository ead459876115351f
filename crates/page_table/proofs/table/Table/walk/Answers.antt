use Rattle.std.proofs.Common.{◌≡◌, ◌<◌, ◌%◌, ◌^◌, sym, ◌∙◌, arith}
use Rattle.iofd_words.specs.Pages.{page_of}
use Rattle.iofd_words.specs.Width.{bits_of}
use Rattle.iofd_words.specs.declared.flags.Rights.{Rights}
use Rattle.std.specs.Int.RustNames.{bit_and}
use Rattle.iofd_words.specs.Levels.{levels_of}
use Rattle.page_table.proofs.Mapping.{ends_within}
use Rattle.page_table.proofs.Walking.{absent_page, no_leaf, present_page, same_rights, walk_hit, walk_none}
use Rattle.page_table.proofs.table.Table.walk.Goals as goal

pub read-entry-requires-clause-frame : goal.read-entry-requires-clause-frame
read-entry-requires-clause-frame g c = ends_within c.args.pool.now c.lowest-lowest.result.level (page_of c.args.iova)
    c.lowest-lowest.result.frame c.lowest-lowest.ensures.ends

pub returns-then-lowest-gt1 : goal.returns-then-lowest-gt1
returns-then-lowest-gt1 g c = λ rows pages stands.
    let width = c.args.self.now.width in
    let below : c.args.iova < 2 ^ bits_of width =
    rw (← c.self.view_is) (omega (arith, c.end.ensures, c.if-iova-end.false)) in
    let lowest = c.lowest-lowest.ensures.lowest rows pages stands in
    walk_none width pages c.args.iova below (no_leaf c.args.pool.now (levels_of width) c.args.self.now.root rows pages
    stands c.lowest-lowest.result.level (page_of c.args.iova) c.lowest-lowest.result.frame
    lowest c.if-lowest-gt1.true)

pub returns-then-not-is_present : goal.returns-then-not-is_present
returns-then-not-is_present g c = λ rows pages stands.
    let width = c.args.self.now.width in
    let below : c.args.iova < 2 ^ bits_of width =
    rw (← c.self.view_is) (omega (arith, c.end.ensures, c.if-iova-end.false)) in
    let lowest = c.lowest-lowest.ensures.lowest rows pages stands in
    let last : c.lowest-lowest.result.level ≡ 1 = omega arith in
    walk_none width pages c.args.iova below (absent_page c.args.pool.now (levels_of width) c.args.self.now.root rows
    pages stands c.lowest-lowest.result.level (page_of c.args.iova) c.lowest-lowest.result.frame lowest
    c.read-entry.result.0 last c.read-entry.ensures (sym c.if-not-is_present.ensures))

pub returns : goal.returns
returns g c = λ rows pages stands.
    let width = c.args.self.now.width in
    let below : c.args.iova < 2 ^ bits_of width =
    rw (← c.self.view_is) (omega (arith, c.end.ensures, c.if-iova-end.false)) in
    let last : c.lowest-lowest.result.level ≡ 1 = omega arith in
    let rights : Rights = record { 0 = bit_and c.lowest-lowest.result.rights.0 c.rights.result.0 } in
    let rights_are : bit_and c.lowest-lowest.result.rights.0 c.rights.result.0 ≡ c.read-entry.result.0 % 4 =
    same_rights c.lowest-lowest.result.rights.0 c.rights.result.0 c.lowest-lowest.ensures.rights
    (omega (arith, c.rights.ensures)) ∙ c.rights.ensures in
    let to = present_page c.args.pool.now (levels_of width) c.args.self.now.root rows pages stands
    c.lowest-lowest.result.level (page_of c.args.iova) c.lowest-lowest.result.frame
    (c.lowest-lowest.ensures.lowest rows pages stands) c.read-entry.result.0 last c.read-entry.ensures
    (record { page = 0; frame = c.frame.result; rights = rights }) (sym c.if-not-is_present.ensures)
    c.frame.ensures rights_are in
    walk_hit width pages c.args.iova to.0 c.frame.result rights below to.1 to.2 to.3
