use Rattle.std.proofs.Common.{◌≤◌, ◌∙◌, true, false, ap, not, map, rules, arith, length}
use Rattle.std.proofs.lemmas.Fn.{filter_same}
use Rattle.iofd_words.specs.Bounds.{Bounds}
use Rattle.iofd_words.specs.Span.{lies_in}
use Rattle.iova_ranges.specs.Removing.{trimmed, HasAround}
use Rattle.iova_ranges.proofs.Errors.{on_err}
use Rattle.iova_ranges.proofs.Removed.{around-splits, IsCutOut, cut_out-split, cut_out-trim}
use Rattle.iova_ranges.proofs.removing.remove.Given.{Over}
use Rattle.std.proofs.lemmas.List.{length-map}
use Rattle.std.proofs.lemmas.Result.{IfOk-from_err}
use Rattle.iova_ranges.proofs.removing.remove.Goals as goal

in_two : (g : Over) (c : goal.In_ok-split g) → IsCutOut c.args.cut c.args.spans.now.items c.split.new.spans.items
in_two g c =
    let xs = c.args.spans.now.items in
    let ordered : c.args.cut.first ≤ c.args.cut.last = omega arith in
    let place = rw (c.deref.ensures.value, c.first.ensures.value) at c.count_below-place.ensures.value in
    let around : HasAround true xs c.count_below-place.result c.args.cut =
    rw c.deref-2.ensures.value at c.if-has_around.ensures in
    cut_out-split c.args.cut xs c.split.new.spans.items c.count_below-place.result c.requires ordered place around
    c.in_ok-split.ensures.items

pub returns-in_ok-split-clause-set : goal.returns-in_ok-split-clause-set
returns-in_ok-split-clause-set g c = (in_two g c).set

pub returns-in_ok-split-clause-merged : goal.returns-in_ok-split-clause-merged
returns-in_ok-split-clause-merged g c = (in_two g c).merged

each_trimmed : (g : Over) (c : goal.After-trim_all g)
    → IsCutOut c.args.cut c.args.spans.now.items c.trim_all.new.spans.items
each_trimmed g c =
    let xs = c.args.spans.now.items in
    let ordered : c.args.cut.first ≤ c.args.cut.last = omega arith in
    let place = rw (c.deref.ensures.value, c.first.ensures.value) at c.count_below-place.ensures.value in
    let around : HasAround false xs c.count_below-place.result c.args.cut =
    rw c.deref-2.ensures.value at c.if-has_around.ensures in
    let kept = filter_same _ (λ (x : Bounds). not (lies_in x c.args.cut)) _ (λ x b f k. search rules) _ _
    c.retain.ensures.filtered in
    cut_out-trim c.args.cut xs c.trim_all.new.spans.items c.count_below-place.result c.requires ordered place around
    (c.trim_all.ensures.items ∙ ap (map (trimmed c.args.cut)) kept)

pub returns-else-has_around-clause-set : goal.returns-else-has_around-clause-set
returns-else-has_around-clause-set g c = (each_trimmed g c).set

pub returns-else-has_around-clause-merged : goal.returns-else-has_around-clause-merged
returns-else-has_around-clause-merged g c = (each_trimmed g c).merged

pub returns-in_err-split-clause-split : goal.returns-in_err-split-clause-split
returns-in_err-split-clause-split g c =
    let xs = c.args.spans.now.items in
    let around : HasAround true xs c.count_below-place.result c.args.cut =
    rw c.deref-2.ensures.value at c.if-has_around.ensures in
    let one = around-splits c.args.cut xs c.count_below-place.result around in
    on_err c.from_residual.result one

pub count_below-place-requires : goal.count_below-place-requires
count_below-place-requires g c = rw c.deref.ensures.value c.requires

pub split-requires-clause-within : goal.split-requires-clause-within
split-requires-clause-within g c =
    let around : HasAround true c.args.spans.now.items c.count_below-place.result c.args.cut =
    rw c.deref-2.ensures.value at c.if-has_around.ensures in
    omega (arith, around.0)

pub split-requires-clause-below : goal.split-requires-clause-below
split-requires-clause-below g c =
    let around : HasAround true c.args.spans.now.items c.count_below-place.result c.args.cut =
    rw c.deref-2.ensures.value at c.if-has_around.ensures in
    around.1

pub split-requires-clause-above : goal.split-requires-clause-above
split-requires-clause-above g c =
    let around : HasAround true c.args.spans.now.items c.count_below-place.result c.args.cut =
    rw c.deref-2.ensures.value at c.if-has_around.ensures in
    around.2

pub returns-in_err-split-clause-set : goal.returns-in_err-split-clause-set
returns-in_err-split-clause-set g c = IfOk-from_err c.from_residual.result _ c.from_residual.ensures.0

pub returns-in_err-split-clause-merged : goal.returns-in_err-split-clause-merged
returns-in_err-split-clause-merged g c = rw c.in_err-split.ensures.err c.requires

pub returns-in_err-split-clause-err : goal.returns-in_err-split-clause-err
returns-in_err-split-clause-err g c = on_err c.from_residual.result c.in_err-split.ensures.err

pub returns-in_err-split-clause-full : goal.returns-in_err-split-clause-full
returns-in_err-split-clause-full g c = on_err c.from_residual.result c.in_err-split.ensures.full

pub returns-in_err-split-clause-capacity : goal.returns-in_err-split-clause-capacity
returns-in_err-split-clause-capacity g c = c.split.ensures.capacity

pub returns-in_err-split-clause-len : goal.returns-in_err-split-clause-len
returns-in_err-split-clause-len g c = c.split.ensures.len

pub returns-in_ok-split-clause-capacity : goal.returns-in_ok-split-clause-capacity
returns-in_ok-split-clause-capacity g c = c.split.ensures.capacity

pub returns-in_ok-split-clause-len : goal.returns-in_ok-split-clause-len
returns-in_ok-split-clause-len g c = c.split.ensures.len

pub returns-else-has_around-clause-capacity : goal.returns-else-has_around-clause-capacity
returns-else-has_around-clause-capacity g c = omega (arith, c.trim_all.ensures.capacity, c.retain.ensures.capacity)

pub returns-else-has_around-clause-len : goal.returns-else-has_around-clause-len
returns-else-has_around-clause-len g c =
    let long = ap length c.trim_all.ensures.items ∙ length-map c.retain.new.self.items (trimmed c.args.cut) in
    omega (arith, long, c.retain.ensures.bound)
