use Rattle.std.proofs.Common.{◌≡◌, inl, inr, ℕ, ◌+◌, ◌-◌, length, ◌∙◌, arith}
use Rattle.std.proofs.lemmas.Bool.{cases_lt}
use Rattle.iommufd_script.proofs.Parts.{at_hit, at_most_stride, first_place, further, no_place, past_stride}
use Rattle.iommufd_script.proofs.split.first_place_of_rest.Goals as goal

pub loop-start-preserved : goal.loop-start-preserved
loop-start-preserved c = record {
  within = omega arith;
  before = past_stride c.args.byte c.args.text.now c.loop-start.start c.count_before-before.result (omega arith)
      c.count_before-before.ensures (omega arith) c.loop-start.invariant.before;
}

pub returns-then-before-lt-STRIDE-clause-place : goal.returns-then-before-lt-STRIDE-clause-place
returns-then-before-lt-STRIDE-clause-place c =
    let start = c.loop-start.start in
    let before = c.count_before-before.result in
    let counted = c.count_before-before.ensures in
    first_place c.args.byte c.args.text.now (start + before) (omega arith)
    (further c.args.byte c.args.text.now start 16 before (omega arith) counted c.loop-start.invariant.before)
    (at_hit c.args.byte c.args.text.now start 16 before (omega arith) counted (omega arith))

pub returns-clause-place : goal.returns-clause-place
returns-clause-place c =
    let byte = c.args.byte in
    let text = c.args.text.now in
    let last : ℕ = length text - 16 in
    let before = c.count_before.result in
    let counted = c.count_before.ensures in
    let free = further byte text last 16 before (omega arith) counted
    (λ k inside. c.loop-start.invariant.before k (omega arith)) in
    let most = at_most_stride byte text last 16 before (omega arith) counted in
    elim (cases_lt before 16) [
      | inl short ↦ first_place byte text (last + before) (omega arith) free
          (at_hit byte text last 16 before (omega arith) counted short)
      | inr long ↦ let end : last + before ≡ length text =
          omega (arith, most) in end ∙ no_place byte text (last + before) end free
    ]
