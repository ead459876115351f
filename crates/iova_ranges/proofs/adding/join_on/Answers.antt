use Rattle.std.proofs.Common.{◌∙◌, ◌≤◌, ◌+◌, ◌∷◌, List, drop, refl, sym, ap, arith}
use Rattle.std.proofs.lemmas.List.{drop_all, drop_more}
use Rattle.iofd_words.specs.Bounds.{Bounds}
use Rattle.iova_ranges.specs.Adding.{joined_on}
use Rattle.iova_ranges.proofs.Added.{joined_next}
use Rattle.std.proofs.lemmas.Grind.{common_steps}
use Rattle.iova_ranges.proofs.adding.join_on.Goals as goal

pub returns-then-saturating_sub-gt1-clause-value : goal.returns-then-saturating_sub-gt1-clause-value
returns-then-saturating_sub-gt1-clause-value c = grind (arith, common_steps)

pub loop-next-init : goal.loop-next-init
loop-next-init c = (refl, refl)

pub loop-next-smaller : goal.loop-next-smaller
loop-next-smaller c = omega arith

pub overflow_add-reached : goal.overflow_add-reached
overflow_add-reached c = record { fits = omega (arith, c.loop-next.invariant.0) }

pub returns-clause-bound : goal.returns-clause-bound
returns-clause-bound c = omega (arith, c.loop-next.invariant.0)

pub loop-next-preserved : goal.loop-next-preserved
loop-next-preserved c =
    let spans : List Bounds = c.args.spans.now in
    let i = c.loop-next.next-index in
    let grown = c.loop-next.grown in
    let next = c.next-item.result in
    let rest : List Bounds = drop (i + 1) spans in
    let here = drop_more spans i next c.loop-next-test.true
    ∙ ap (λ (span : Bounds). span ∷ drop (i + 1) spans) (sym c.next-item.is) in
    let reached : next.first ≤ grown.last + 1 = omega arith in (
      omega (arith, c.loop-next.invariant.0),
      c.loop-next.invariant.1 ∙ ap (joined_on grown) here ∙ joined_next grown next rest reached
          ∙ ap (λ (span : Bounds). joined_on span rest) (sym c.join-grown.ensures),
    )

pub returns-clause-value : goal.returns-clause-value
returns-clause-value c =
    let spans : List Bounds = c.args.spans.now in
    let grown = c.loop-next.grown in
    let none = drop_all c.loop-next.next-index spans (omega arith) in
    let same = ap (λ i. drop i spans) c.loop-next.invariant.0 in
    c.loop-next.invariant.1 ∙ ap (joined_on grown) none
    ∙ ap (λ (left : List Bounds). grown ∷ left) (sym (same ∙ none))
