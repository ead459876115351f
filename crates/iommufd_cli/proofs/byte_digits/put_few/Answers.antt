use Rattle.std.proofs.Common.{ℕ, slice_index, arith}
use Rattle.hex.proofs.Pairs.{encode_done, encode_step}
use Rattle.hex.specs.Hex.{encode_with, lower_digits}
use Rattle.iommufd_cli.proofs.ByteDigits.{pair}
use Rattle.iommufd_cli.proofs.byte_digits.put_few.Goals as goal

pub loop-i-preserved : goal.loop-i-preserved
unfolding encode_with
loop-i-preserved c =
    let byte : ℕ = slice_index c.args.bytes.now c.loop-i.i in
    let digits = pair byte (c.type_inv.bytes c.loop-i.i).fits in
    encode_step lower_digits c.args.bytes.now c.loop-i.buffer c.loop-i.i _ _ (omega arith) (omega arith) digits.0
    digits.1 c.loop-i.invariant

pub returns : goal.returns
returns c =
    encode_done lower_digits c.args.bytes.now c.loop-i.buffer c.loop-i.i (omega arith) (omega arith)
    c.loop-i.invariant
