use Rattle.std.proofs.Common.{◌≤◌, sym, arith, ◌∙◌}
use Rattle.iova_ranges.proofs.Reaching.{covers_none, covers_some, covers-tells}
use Rattle.iova_ranges.proofs.lookups.covers.Goals as goal

pub returns-in-Some-clause-value : goal.returns-in-Some-clause-value
returns-in-Some-clause-value c =
    let ordered : c.args.span.first ≤ c.args.span.last = omega arith in
    let is = covers_some c.args.span c.args.spans.now c.in-Some.one.now c.requires ordered
    (rw c.first.ensures.value at (sym c.in-Some.ensures)) in
    c.lies_in.ensures ∙ sym is

pub returns-in-None-clause-value : goal.returns-in-None-clause-value
returns-in-None-clause-value c =
    let ordered : c.args.span.first ≤ c.args.span.last = omega arith in
    sym (covers_none c.args.span c.args.spans.now c.requires ordered
    (rw c.first.ensures.value at (sym c.in-None.ensures)))

pub returns-in-Some-clause-covered : goal.returns-in-Some-clause-covered
returns-in-Some-clause-covered c =
    let ordered : c.args.span.first ≤ c.args.span.last = omega arith in
    covers-tells c.args.span c.args.spans.now _ c.requires ordered (returns-in-Some-clause-value c)

pub returns-in-None-clause-covered : goal.returns-in-None-clause-covered
returns-in-None-clause-covered c =
    let ordered : c.args.span.first ≤ c.args.span.last = omega arith in
    covers-tells c.args.span c.args.spans.now _ c.requires ordered (returns-in-None-clause-value c)
