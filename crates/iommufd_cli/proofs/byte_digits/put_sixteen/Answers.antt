use Rattle.std.proofs.Common.{◌+◌, ◌*◌, arith, ap, ◌∙◌}
use Rattle.std.specs.Simd.Lanes.{put_chunk}
use Rattle.iommufd_cli.proofs.ByteDigits.{put_behind}
use Rattle.iommufd_cli.proofs.byte_digits.put_sixteen.Goals as goal

pub returns : goal.returns
returns c =
    put_behind (2 * c.args.at) (2 * c.args.at + 16) c.args.buffer.now c.digits_of_bytes.result.0
    c.digits_of_bytes.result.1 (omega arith)
    ∙ ap (put_chunk (2 * c.args.at) c.args.buffer.now) c.digits_of_bytes.ensures
