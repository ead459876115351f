use Rattle.std.proofs.Common.{ℕ, List, get_or, ap, arith}
use Rattle.iommufd_script.proofs.Pairs.{high_small, low_small, pair_at, pair_within}
use Rattle.iommufd_script.proofs.hex_bytes.HexBytes.byte_at.Goals as goal

pub overflow_mul-i : goal.overflow_mul-i
overflow_mul-i c = omega (arith, pair_within c.self.inside.digits.now c.args.i c.self.view_is c.requires)

pub bounds-digits-i : goal.bounds-digits-i
bounds-digits-i c = omega (arith, pair_within c.self.inside.digits.now c.args.i c.self.view_is c.requires)

pub bits_of-requires : goal.bits_of-requires
bits_of-requires c = high_small c.self.inside.digits.now c.args.i c.self.view_is c.requires c.self.invariant.0

pub overflow_mul-result : goal.overflow_mul-result
overflow_mul-result c =
    let high = high_small c.self.inside.digits.now c.args.i c.self.view_is c.requires c.self.invariant.0 in
    omega (arith, high, c.bits_of.ensures)

pub overflow_mul-i-2 : goal.overflow_mul-i-2
overflow_mul-i-2 c = omega (arith, pair_within c.self.inside.digits.now c.args.i c.self.view_is c.requires)

pub overflow_add-i : goal.overflow_add-i
overflow_add-i c = omega (arith, pair_within c.self.inside.digits.now c.args.i c.self.view_is c.requires)

pub bounds-digits-i-2 : goal.bounds-digits-i-2
bounds-digits-i-2 c = pair_within c.self.inside.digits.now c.args.i c.self.view_is c.requires

pub bits_of-requires-2 : goal.bits_of-requires-2
bits_of-requires-2 c = low_small c.self.inside.digits.now c.args.i c.self.view_is c.requires c.self.invariant.0

pub overflow_add-result : goal.overflow_add-result
overflow_add-result c =
    let high = high_small c.self.inside.digits.now c.args.i c.self.view_is c.requires c.self.invariant.0 in
    let low = low_small c.self.inside.digits.now c.args.i c.self.view_is c.requires c.self.invariant.0 in
    omega (arith, high, low, c.bits_of.ensures, c.bits_of-2.ensures)

pub returns : goal.returns
returns c =
    let digits = c.self.inside.digits.now in
    let pair = pair_at digits c.args.i (pair_within digits c.args.i c.self.view_is c.requires) in
    let same = ap (λ (bytes : List ℕ). get_or bytes c.args.i 0) c.self.view_is in
    omega (arith, pair, same, c.bits_of.ensures, c.bits_of-2.ensures)
