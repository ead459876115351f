use Rattle.std.proofs.Common.{◌+◌, ◌-◌, ◌*◌, length, take, ap, ◌∙◌, arith}
use Rattle.iommufd_cli.proofs.ByteDigits.{last_stride, next_stride}
use Rattle.iommufd_cli.proofs.byte_digits.put_many.Goals as goal

pub loop-done-preserved : goal.loop-done-preserved
loop-done-preserved c =
    let done = c.loop-done.done in record {
      within = omega arith;
      written = ap (take (2 * (done + 16))) c.put_sixteen.ensures
          ∙ next_stride done done c.args.bytes.now c.loop-done.buffer c.loop-done.invariant.written (omega arith)
          (omega arith) (omega arith);
    }

pub returns : goal.returns
returns c =
    c.put_sixteen-2.ensures
    ∙ last_stride (length c.args.bytes.now - 16) c.loop-done.done c.args.bytes.now c.loop-done.buffer
    c.loop-done.invariant.written c.loop-done-test.false (omega arith) (omega arith)
