use Rattle.std.proofs.Common.{◌≡◌, ◌+◌, ◌<◌, ◌≤◌, ◌^◌, Fits, List, subst, sym, arith, ℕ}
use Rattle.std.specs.Int.{w128}
use Rattle.iofd_words.specs.declared.rows.Area.{Area}
use Rattle.area_map_rows.specs.Areas.{IsFirstFree}
use Rattle.area_map_rows.specs.Rows.{first_free, in_rows}
use Rattle.area_map_rows.proofs.FirstFree.{free-is_first, free-none}
use Rattle.area_map.proofs.gaps.free_from.Goals as goal

sum_fits : (at from count : ℕ) → at ≤ 2 ^ 64 → from ≡ count → count < 2 ^ 64 → Fits w128 (at + from)
sum_fits at from count low is few = omega (arith, low, is, few)

pub free_behind-at-requires-clause-apart : goal.free_behind-at-requires-clause-apart
free_behind-at-requires-clause-apart g c = c.requires.apart

pub free_behind-at-requires-clause-rows : goal.free_behind-at-requires-clause-rows
free_behind-at-requires-clause-rows g c = c.requires.rows

pub free_behind-at-requires-clause-blocks : goal.free_behind-at-requires-clause-blocks
free_behind-at-requires-clause-blocks g c = c.requires.blocks

pub overflow_add-at : goal.overflow_add-at
overflow_add-at g c =
    sum_fits c.free_behind-at.result c.from.result c.args.count c.free_behind-at.ensures.bound c.from.ensures
    c.ranges.count.fits

pub returns-then-at-from : goal.returns-then-at-from
returns-then-at-from g c =
    let areas : List Area = in_rows c.args.rows.now in
    let is : c.free_behind-at.result ≡ first_free c.args.start c.args.count areas = c.free_behind-at.ensures.value in
    subst (λ (n : ℕ). IsFirstFree c.args.start c.args.count areas n) (sym is)
    (free-is_first c.args.start c.args.count areas c.requires.apart c.requires.some
    (omega (arith, is, c.from.ensures, c.if-at-from.true)))

pub returns-else-at-from : goal.returns-else-at-from
returns-else-at-from g c =
    let areas : List Area = in_rows c.args.rows.now in
    let is : c.free_behind-at.result ≡ first_free c.args.start c.args.count areas = c.free_behind-at.ensures.value in
    free-none c.args.start c.args.count areas c.requires.some (omega (arith, is, c.from.ensures, c.if-at-from.false))
