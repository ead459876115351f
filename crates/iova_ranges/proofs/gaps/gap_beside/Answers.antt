use Rattle.std.proofs.Common.{◌≤◌, ◌<◌, rules, arith}
use Rattle.iova_ranges.proofs.LeftOut.{gap_before, gap_behind, no_gap}
use Rattle.iova_ranges.proofs.gaps.gap_beside.Goals as goal

pub returns-then-first : goal.returns-then-first
returns-then-first c =
    let ordered : c.args.span.first ≤ c.args.span.last = search (rules, c.first.ensures, arith) in
    let before : c.args.span.first < c.args.one.first =
    rw (c.first.ensures.value, c.first-2.ensures.value) at c.if-first.true in
    rw (c.between.ensures, c.first-then-first.ensures.value, c.first-then-first-2.ensures.value)
    (gap_before c.args.spans.now c.args.span c.args.one c.requires.merged c.requires.reaching ordered before)

pub returns-then-last : goal.returns-then-last
returns-then-last c =
    let ordered : c.args.span.first ≤ c.args.span.last = search (rules, c.first.ensures, arith) in
    let begins : c.args.one.first ≤ c.args.span.first =
    rw (c.first.ensures.value, c.first-2.ensures.value) at c.if-first.false in
    let ends : c.args.span.last ≤ c.args.one.last =
    rw (c.last.ensures.value, c.last-2.ensures.value) at c.if-last.true in
    no_gap c.args.spans.now c.args.span c.args.one c.requires.merged c.requires.reaching ordered begins ends

pub returns : goal.returns
returns c =
    let behind : c.args.one.last < c.args.span.last =
    rw (c.last.ensures.value, c.last-2.ensures.value) at c.if-last.false in
    rw (
      c.between-2.ensures,
      c.last-3.ensures.value,
      c.last-4.ensures.value,
    ) (gap_behind c.args.spans.now c.args.span c.args.one c.requires.merged
    c.requires.reaching behind)
