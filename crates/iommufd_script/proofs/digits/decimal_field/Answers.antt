use Rattle.std.proofs.Common.{sym, ◌∙◌, arith}
use Rattle.std.proofs.lemmas.Bool.{ne_eqb}
use Rattle.iommufd_script.proofs.FirstField.{before_next, begins_no_decimal, digit_no_space, is_decimal, no_decimal}
use Rattle.iommufd_script.proofs.FirstField.{stops_decimal}
use Rattle.iommufd_script.proofs.Numerals.{taken}
use Rattle.iommufd_script.proofs.digits.decimal_field.Goals as goal
use Rattle.iommufd_script.proofs.digits.decimal_field.Goals.{then-loop-end-test+else-digit_of-lt10, else-loop-end-test}

pub returns-in_err-number : goal.returns-in_err-number
returns-in_err-number c =
    let digit = c.digit_of.ensures.value in
    c.from_residual.ensures
    ∙ no_decimal c.args.line.now c.loop-end.end c.loop-end.invariant.within c.loop-end.invariant.before (omega arith)
    (digit_no_space 10 _ (omega arith) (omega (arith, digit, c.if-digit_of-lt10.true))) c.loop-end.number
    c.loop-end.invariant.value (sym c.with_decimal.ensures ∙ c.in_err-number.was)

pub loop-end-preserved : goal.loop-end-preserved
loop-end-preserved c =
    let digit = c.digit_of.ensures.value in
    let all =
    taken 10 c.loop-end.end c.loop-end.number c.in_ok-number.number c.args.line.now (omega arith)
    c.loop-end.invariant.digits c.loop-end.invariant.value (sym c.with_decimal.ensures ∙ c.in_ok-number.was)
    in record {
      within = omega arith;
      before = before_next c.args.line.now c.loop-end.end c.loop-end.invariant.within c.loop-end.invariant.before
          (omega arith) (digit_no_space 10 _ (omega arith) (omega (arith, digit, c.if-digit_of-lt10.true)));
      digits = all.0;
      value = all.1;
      small = all.2;
    }

pub returns-then-end-eq0 : goal.returns-then-end-eq0
returns-then-end-eq0 c =
    begins_no_decimal c.args.line.now c.loop-end.end c.loop-end.invariant.within c.loop-end.invariant.before
    c.if-end-eq0.true (λ inside. elim c.loop-end-test.branch [
      | then-loop-end-test+else-digit_of-lt10 w ↦
          let digit = w.digit_of.ensures.value in omega (arith, digit, w.if-digit_of-lt10.false)
      | else-loop-end-test w ↦ absurd (omega (arith, inside, w.loop-end-test.false))
    ])

pub returns-then-is_field_end : goal.returns-then-is_field_end
returns-then-is_field_end c =
    is_decimal c.args.line.now c.loop-end.end c.loop-end.invariant.within c.loop-end.invariant.before
    (c.is_field_end.ensures.yes c.if-is_field_end.true) c.loop-end.number (ne_eqb c.loop-end.end 0 c.if-end-eq0.false)
    c.loop-end.invariant.digits c.loop-end.invariant.value c.loop-end.invariant.small

pub returns-else-is_field_end : goal.returns-else-is_field_end
returns-else-is_field_end c =
    let more = c.is_field_end.ensures.no c.if-is_field_end.false in
    stops_decimal c.args.line.now c.loop-end.end c.loop-end.invariant.within c.loop-end.invariant.before more.0 more.1
    (elim c.loop-end-test.branch [
      | then-loop-end-test+else-digit_of-lt10 w ↦
          let digit = w.digit_of.ensures.value in omega (arith, digit, w.if-digit_of-lt10.false)
      | else-loop-end-test w ↦ absurd (omega (arith, more.0, w.loop-end-test.false))
    ])
