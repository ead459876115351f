use Rattle.std.proofs.Common.{◌≡◌, ◌≤◌, ◌+◌, ◌++◌, ◌∷◌, drop, take, sym, ap, refl, arith, ◌∙◌}
use Rattle.iova_ranges.proofs.Errors.{on_err}
use Rattle.iova_ranges.proofs.Added.{IsAdded, added, apart}
use Rattle.iova_ranges.proofs.adding.add.Given.{Over}
use Rattle.iova_ranges.proofs.adding.add.Goals as goal

into_free_place : (g : Over) (c : goal.In_ok-insert g)
    → IsAdded c.args.span c.args.spans.now.items c.insert.new.self.items
into_free_place g c =
    let xs = c.args.spans.now.items in
    let from = c.count_clear_below-from.result in
    let grown = c.join_on-grown.result in
    let ordered : c.args.span.first ≤ c.args.span.last = omega arith in
    let place = rw (c.deref.ensures.value, c.first.ensures.value) at c.count_clear_below-from.ensures.value in
    let none : from + grown.1 ≡ from = omega arith in
    added c.args.span xs c.insert.new.self.items from grown.0 grown.1 c.requires ordered place
    (rw c.deref-2.ensures.value at c.join_on-grown.ensures.value)
    (c.in_ok-insert.ensures.items ∙ ap (λ k. take from xs ++ grown.0 ∷ drop k xs) (sym none))

pub returns-in_ok-insert-clause-set : goal.returns-in_ok-insert-clause-set
returns-in_ok-insert-clause-set g c = (into_free_place g c).set

pub returns-in_ok-insert-clause-merged : goal.returns-in_ok-insert-clause-merged
returns-in_ok-insert-clause-merged g c = (into_free_place g c).merged

for_those_reached : (g : Over) (c : goal.After-replace g)
    → IsAdded c.args.span c.args.spans.now.items c.replace.new.spans.items
for_those_reached g c =
    let xs = c.args.spans.now.items in
    let from = c.count_clear_below-from.result in
    let grown = c.join_on-grown.result in
    let ordered : c.args.span.first ≤ c.args.span.last = omega arith in
    let place = rw (c.deref.ensures.value, c.first.ensures.value) at c.count_clear_below-from.ensures.value in
    added c.args.span xs c.replace.new.spans.items from grown.0 grown.1 c.requires ordered place
    (rw c.deref-2.ensures.value at c.join_on-grown.ensures.value) c.replace.ensures.items

pub returns-else-reached-eq0-clause-set : goal.returns-else-reached-eq0-clause-set
returns-else-reached-eq0-clause-set g c = (for_those_reached g c).set

pub returns-else-reached-eq0-clause-merged : goal.returns-else-reached-eq0-clause-merged
returns-else-reached-eq0-clause-merged g c = (for_those_reached g c).merged

pub returns-in_ok-insert-clause-some : goal.returns-in_ok-insert-clause-some
returns-in_ok-insert-clause-some g c = (into_free_place g c).some

pub returns-else-reached-eq0-clause-some : goal.returns-else-reached-eq0-clause-some
returns-else-reached-eq0-clause-some g c = (for_those_reached g c).some

pub returns-in_err-insert-clause-apart : goal.returns-in_err-insert-clause-apart
returns-in_err-insert-clause-apart g c =
    let xs = c.args.spans.now.items in
    let grown = c.join_on-grown.result in
    let ordered : c.args.span.first ≤ c.args.span.last = omega arith in
    let place = rw (c.deref.ensures.value, c.first.ensures.value) at c.count_clear_below-from.ensures.value in
    let value = rw c.deref-2.ensures.value at c.join_on-grown.ensures.value in
    let none = apart c.args.span grown.0 xs c.count_clear_below-from.result grown.1 c.requires ordered
    place (omega arith) value in
    on_err c.from_residual.result (rw none refl)
