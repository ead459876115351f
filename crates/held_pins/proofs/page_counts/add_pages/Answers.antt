use Rattle.std.proofs.Common.{◌≡◌, ◌+◌, ◌<◌, ℕ, subst, sym, ap, ◌∙◌, if◌then◌else◌, arith}
use Rattle.std.specs.BTreeMap.{is_at}
use Rattle.held_pins.specs.Counts.{count_in}
use Rattle.held_pins.specs.Held.{at_page, is_from, page_cmp}
use Rattle.held_pins.specs.declared.keys.PageKey.{PageKey}
use Rattle.held_pins.proofs.InOrder.{IsMore}
use Rattle.held_pins.proofs.PageKeys.{at_from, not_before, once, one_further}
use Rattle.held_pins.proofs.Results.{from_ok}
use Rattle.held_pins.proofs.page_counts.add_pages.Goals as goal

pub add-requires : goal.add-requires
add-requires g c =
    let first = c.args.first in
    let page = c.loop-page.page in
    let there = c.requires.room (at_page first page)
    (at_from first page c.args.end c.loop-page.auto.page c.loop-page-test.true) in
    let same = c.loop-page.invariant (at_page first page) in
    let none : once (is_from first page (at_page first page)) ≡ 0 = ap once (not_before first page) in
    subst (λ key. count_in page_cmp c.loop-page.counts key < 65535) (sym c.at.ensures)
    (omega (arith, there, same, none))

pub returns-clause-ok : goal.returns-clause-ok
returns-clause-ok g c key =
    let ended : c.loop-page.page ≡ c.args.end =
    omega (arith, c.loop-page-test.false, c.loop-page.auto.page-end c.requires.ordered) in
    let P : ℕ → Type 0 = λ at. count_in page_cmp c.loop-page.counts key
    ≡ count_in page_cmp c.args.counts.now key + (if is_from c.args.first at key then 1 else 0) in
    subst P ended (c.loop-page.invariant key)

pub loop-page-preserved : goal.loop-page-preserved
loop-page-preserved g c key =
    let first = c.args.first in
    let page = c.loop-page.page in
    let P : PageKey → Type 0 = λ at. count_in page_cmp c.add.new.self key
    ≡ count_in page_cmp c.loop-page.counts key + once (is_at (page_cmp at) key) in
    let added = from_ok c.add.result (IsMore c.loop-page.counts c.add.new.self c.at.result)
    (sym c.is_err.ensures.value ∙ c.if-is_err.false) c.add.ensures.counts in
    let more = subst P c.at.ensures (added key) in
    let further = one_further first key page c.loop-page.auto.page in
    let before = c.loop-page.invariant key in
    omega (arith, more, before, further)
