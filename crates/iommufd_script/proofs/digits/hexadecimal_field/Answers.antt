use Rattle.std.proofs.Common.{arith}
use Rattle.std.proofs.lemmas.Bool.{ne_eqb}
use Rattle.iommufd_script.proofs.FirstField.{before_next, begins_no_hexadecimal, digit_no_space, is_hexadecimal}
use Rattle.iommufd_script.proofs.FirstField.{one_too_many, stops_hexadecimal}
use Rattle.iommufd_script.proofs.Numerals.{at_last, one_more, room, stays_small}
use Rattle.iommufd_script.proofs.digits.hexadecimal_field.Goals as goal
use Rattle.iommufd_script.proofs.digits.hexadecimal_field.Goals.{then-loop-end-test+else-digit_of-lt16}
use Rattle.iommufd_script.proofs.digits.hexadecimal_field.Goals.{else-loop-end-test}

pub overflow_mul-number : goal.overflow_mul-number
overflow_mul-number c =
    let most = c.min-most.ensures in
    let small = room c.loop-end.end c.loop-end.number (omega (arith, most)) c.loop-end.invariant.small in
    omega (arith, small)

pub overflow_add-number : goal.overflow_add-number
overflow_add-number c =
    let most = c.min-most.ensures in
    let small = room c.loop-end.end c.loop-end.number (omega (arith, most)) c.loop-end.invariant.small in
    omega (arith, small)

pub loop-end-preserved : goal.loop-end-preserved
loop-end-preserved c =
    let end = c.loop-end.end in
    let most = c.min-most.ensures in
    let digit = c.digit_of.ensures.value in
    let value = c.digit_of-in-loop-end.ensures.value in
    let more = one_more 16 end c.loop-end.number c.args.line.now (omega (arith, most)) c.loop-end.invariant.digits
    c.loop-end.invariant.value (omega (arith, digit, c.if-digit_of-lt16.true)) in record {
      within = omega (arith, most);
      before = before_next c.args.line.now end c.loop-end.invariant.within c.loop-end.invariant.before
          (omega (arith, most))
          (digit_no_space 16 _ (omega arith) (omega (arith, digit, c.if-digit_of-lt16.true)));
      digits = more.0;
      value = omega (arith, value, more.1);
      few = omega (arith, most);
      small = stays_small end c.loop-end.number c.from.result c.loop-end.invariant.small
          (omega (arith, digit, value, c.if-digit_of-lt16.true));
    }

pub returns-then-end-eq0 : goal.returns-then-end-eq0
returns-then-end-eq0 c =
    let most = c.min-most.ensures in
    begins_no_hexadecimal c.args.line.now c.loop-end.end c.loop-end.invariant.within c.loop-end.invariant.before
    c.if-end-eq0.true (λ inside. elim c.loop-end-test.branch [
      | then-loop-end-test+else-digit_of-lt16 w ↦
          let digit = w.digit_of.ensures.value in omega (arith, digit, w.if-digit_of-lt16.false)
      | else-loop-end-test w ↦ absurd (omega (arith, inside, most, c.if-end-eq0.true, w.loop-end-test.false))
    ])

pub returns-then-is_field_end : goal.returns-then-is_field_end
returns-then-is_field_end c =
    let end = c.loop-end.end in
    is_hexadecimal c.args.line.now end c.loop-end.invariant.within c.loop-end.invariant.before
    (c.is_field_end.ensures.yes c.if-is_field_end.true) c.loop-end.number c.loop-end.invariant.few
    (ne_eqb end 0 c.if-end-eq0.false) c.loop-end.invariant.digits c.loop-end.invariant.value
    (at_last end c.loop-end.number c.loop-end.invariant.few c.loop-end.invariant.small)

pub returns-else-is_field_end : goal.returns-else-is_field_end
returns-else-is_field_end c =
    let line = c.args.line.now in
    let most = c.min-most.ensures in
    let more = c.is_field_end.ensures.no c.if-is_field_end.false in
    elim c.loop-end-test.branch [
      | then-loop-end-test+else-digit_of-lt16 w ↦
          let digit = w.digit_of.ensures.value in
          stops_hexadecimal line c.loop-end.end c.loop-end.invariant.within c.loop-end.invariant.before more.0 more.1
          (omega (arith, digit, w.if-digit_of-lt16.false))
      | else-loop-end-test w ↦
          one_too_many line c.loop-end.end c.loop-end.invariant.within c.loop-end.invariant.before more.0 more.1
          (omega (arith, more.0, most, c.loop-end.invariant.few, w.loop-end-test.false))
    ]
