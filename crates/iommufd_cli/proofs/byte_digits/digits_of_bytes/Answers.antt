use Rattle.std.proofs.Common.{map, slice_index, ap, ◌∙◌, w8}
use Rattle.std.proofs.lemmas.Simd.{below_from_Fits}
use Rattle.hex.specs.Hex.{lower_digits}
use Rattle.iommufd_cli.proofs.ByteDigits.{highs, highs_small, in_turn, lows, lows_small}
use Rattle.iommufd_cli.proofs.byte_digits.digits_of_bytes.Goals as goal

pub digits_of-high-requires : goal.digits_of-high-requires
digits_of-high-requires c =
    rw (highs 16 c.args.bytes c.fits-bytes.0)
    (highs_small c.args.bytes (below_from_Fits w8 c.args.bytes c.fits-bytes.1))

pub digits_of-low-requires : goal.digits_of-low-requires
digits_of-low-requires c = rw (lows 16 c.args.bytes c.fits-bytes.0) (lows_small c.args.bytes)

pub returns : goal.returns
returns c =
    in_turn 16 c.args.bytes c.digits_of-high.result c.digits_of-low.result c.fits-bytes.0
    (c.digits_of-high.ensures ∙ ap (map (slice_index lower_digits)) (highs 16 c.args.bytes c.fits-bytes.0))
    (c.digits_of-low.ensures ∙ ap (map (slice_index lower_digits)) (lows 16 c.args.bytes c.fits-bytes.0))
