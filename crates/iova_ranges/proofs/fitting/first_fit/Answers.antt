use Rattle.std.proofs.Common.{◌≡◌, ℕ, ◌<◌, ◌≤◌, ◌+◌, max, List, ◌∷◌, length, drop, get_or, ap, sym, ◌∙◌, arith}
use Rattle.std.proofs.lemmas.List.{drop_more, drop_all}
use Rattle.iofd_words.specs.Bounds.{Bounds}
use Rattle.iova_ranges.proofs.Fitted.{IsLeastFit, step-span, step-area, step-found, left-none, first_below-some}
use Rattle.iova_ranges.proofs.fitting.first_fit.Goals as goal

at_place : (xs : List Bounds) (i : ℕ) (x : Bounds) → i < length xs → x ≡ get_or xs i x → drop i xs ≡ x ∷ drop (i + 1) xs
at_place xs i x within is = drop_more xs i x within ∙ ap (λ y. y ∷ drop (i + 1) xs) (sym is)

pub loop-passed-preserved-in-None : goal.loop-passed-preserved-in-None
loop-passed-preserved-in-None c =
    let here = at_place c.args.spans.now c.loop-passed.passed c.index-spans-passed.result (omega arith)
    c.index-spans-passed.is in
    let bound = c.loop-passed.invariant.bound in
    record {
      bound = bound;
      left = step-span c.args.count c.args.spans.now c.args.areas.now c.loop-passed.from c.loop-passed.passed
          c.loop-passed.beside c.index-spans-passed.result c.requires.merged here c.in-None.ensures.value
          c.loop-passed.invariant.left;
    }

found : (c : goal.In-None-next_below) → IsLeastFit c.args.count c.args.spans.now c.args.areas.now c.in-Some.start
found c =
    let here = at_place c.args.spans.now c.loop-passed.passed c.index-spans-passed.result (omega arith)
    c.index-spans-passed.is in
    let positive : 0 < c.args.count = omega arith in
    let none = rw c.from.ensures at c.in-None-next_below.ensures in
    step-found c.args.count c.args.spans.now c.args.areas.now c.loop-passed.from c.loop-passed.passed
    c.loop-passed.beside c.index-spans-passed.result c.in-Some.start positive c.requires.merged c.requires.rise here
    c.in-Some.ensures.value none c.loop-passed.invariant.left

pub returns-in-None-next_below-clause-fit : goal.returns-in-None-next_below-clause-fit
returns-in-None-next_below-clause-fit c = (found c).fit

pub returns-in-None-next_below-clause-least : goal.returns-in-None-next_below-clause-least
returns-in-None-next_below-clause-least c = (found c).least

pub loop-passed-preserved : goal.loop-passed-preserved
loop-passed-preserved c =
    let here = at_place c.args.spans.now c.loop-passed.passed c.index-spans-passed.result (omega arith)
    c.index-spans-passed.is in
    let some = rw c.from.ensures at c.in-Some-next_below.ensures in
    let next = first_below-some (c.in-Some.start + c.args.count) c.args.areas.now c.loop-passed.beside
    c.in-Some-next_below.area some in
    let ordered : c.in-Some-next_below.area.first ≤ c.in-Some-next_below.area.last = omega arith in
    let left = step-area c.args.count c.args.spans.now c.args.areas.now c.loop-passed.from c.loop-passed.passed
    c.loop-passed.beside c.index-spans-passed.result c.in-Some-next_below.area c.in-Some.start c.requires.merged
    here c.in-Some.ensures.value next ordered c.loop-passed.invariant.left in
    let room = c.in-Some.ensures.bound in
    let is : c.max-from.result ≡ max c.in-Some.start (c.in-Some-next_below.area.last + 1) =
    rw (c.from-in-Some-next_below.ensures, c.last.ensures.value) at c.max-from.ensures in
    record {
      bound = omega arith;
      left = rw is left;
    }

pub returns-clause-none : goal.returns-clause-none
returns-clause-none c =
    let none_left = drop_all c.loop-passed.passed c.args.spans.now (omega arith) in
    left-none c.args.count c.args.spans.now c.args.areas.now c.loop-passed.from
    (drop c.loop-passed.beside c.args.areas.now) (rw none_left at c.loop-passed.invariant.left)
