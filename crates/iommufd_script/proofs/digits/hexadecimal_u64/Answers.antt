use Rattle.std.proofs.Common.{sym, ◌∙◌, arith}
use Rattle.iommufd_script.proofs.Numerals.{at_last, hexadecimal_is, no_digit, nothing, one_more, room, stays_small}
use Rattle.iommufd_script.proofs.Numerals.{whole}
use Rattle.iommufd_script.proofs.digits.hexadecimal_u64.Goals as goal

pub returns-then-is_empty : goal.returns-then-is_empty
returns-then-is_empty c = sym (nothing 16 c.args.text.now (sym c.is_empty.ensures ∙ c.if-is_empty.true))
    ∙ hexadecimal_is c.args.text.now (omega arith)

pub returns-then-digit-ge16 : goal.returns-then-digit-ge16
returns-then-digit-ge16 c =
    let value = c.digit_of-digit.ensures.value in
    sym (no_digit 16 c.loop-c.c-index c.args.text.now (omega arith) (omega (arith, value)))
    ∙ hexadecimal_is c.args.text.now (omega arith)

pub overflow_mul-number : goal.overflow_mul-number
overflow_mul-number c =
    let most = room c.loop-c.c-index c.loop-c.number (omega arith) c.loop-c.invariant.small in omega (arith, most)

pub overflow_add-number : goal.overflow_add-number
overflow_add-number c =
    let most = room c.loop-c.c-index c.loop-c.number (omega arith) c.loop-c.invariant.small in omega (arith, most)

pub loop-c-preserved : goal.loop-c-preserved
loop-c-preserved c =
    let i = c.loop-c.c-index in
    let value = c.digit_of-digit.ensures.value in
    let more = one_more 16 i c.loop-c.number c.args.text.now (omega arith) c.loop-c.invariant.digits
    c.loop-c.invariant.value (omega (arith, value)) in record {
      digits = more.0;
      value = omega (arith, value, more.1);
      small = stays_small i c.loop-c.number c.from.result c.loop-c.invariant.small (omega arith);
    }

pub returns : goal.returns
returns c =
    let i = c.loop-c.c-index in
    let text = c.args.text.now in
    whole 16 i c.loop-c.number text (sym c.is_empty.ensures ∙ c.if-is_empty.false) (omega arith)
    c.loop-c.invariant.digits c.loop-c.invariant.value
    (at_last i c.loop-c.number (omega arith) c.loop-c.invariant.small)
    ∙ hexadecimal_is text (omega arith)
