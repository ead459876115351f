use Rattle.std.proofs.Common.{◌≡◌, ◌+◌, ◌<◌, ℕ, subst, sym, ap, if◌then◌else◌, arith}
use Rattle.std.specs.BTreeMap.{is_at}
use Rattle.held_pins.specs.Counts.{count_in}
use Rattle.held_pins.specs.Held.{at_page, is_from, page_cmp}
use Rattle.held_pins.specs.declared.keys.PageKey.{PageKey}
use Rattle.held_pins.proofs.PageKeys.{at_from, not_before, once, one_further}
use Rattle.held_pins.proofs.page_counts.remove_pages.Goals as goal

pub remove-requires : goal.remove-requires
remove-requires g c =
    let first = c.args.first in
    let page = c.loop-page.page in
    let there = c.requires.counted (at_page first page)
    (at_from first page c.args.end c.loop-page.auto.page c.loop-page-test.true) in
    let same = c.loop-page.invariant (at_page first page) in
    let none : once (is_from first page (at_page first page)) ≡ 0 = ap once (not_before first page) in
    subst (λ key. 0 < count_in page_cmp c.loop-page.counts key) (sym c.at.ensures) (omega (arith, there, same, none))

pub loop-page-preserved : goal.loop-page-preserved
loop-page-preserved g c key =
    let first = c.args.first in
    let page = c.loop-page.page in
    let P : PageKey → Type 0 = λ at. count_in page_cmp c.remove.new.self key + once (is_at (page_cmp at) key)
    ≡ count_in page_cmp c.loop-page.counts key in
    let less = subst P c.at.ensures (c.remove.ensures.counts key) in
    let further = one_further first key page c.loop-page.auto.page in
    let before = c.loop-page.invariant key in
    omega (arith, less, before, further)

pub returns : goal.returns
returns g c key =
    let ended : c.loop-page.page ≡ c.args.end =
    omega (arith, c.loop-page-test.false, c.loop-page.auto.page-end c.requires.ordered) in
    let P : ℕ → Type 0 = λ at.
    count_in page_cmp c.loop-page.counts key + (if is_from c.args.first at key then 1 else 0)
    ≡ count_in page_cmp c.args.counts.now key in
    subst P ended (c.loop-page.invariant key)
