use Rattle.std.proofs.Common.{length, replicate, sym, arith}
use Rattle.std.proofs.lemmas.List.{length-take-le}
use Rattle.iommufd_script.proofs.Strides.{few_digits, few_stride, few_written, few_zeros, padded_lower}
use Rattle.iommufd_script.proofs.hex_bytes.HexBytes.write_few.Goals as goal

pub slice_bounds-digits-end : goal.slice_bounds-digits-end
slice_bounds-digits-end c = few_digits c.self.inside.digits.now c.args.self.now c.self.view_is c.requires

pub slice_bounds-copy_from_slice-end : goal.slice_bounds-copy_from_slice-end
slice_bounds-copy_from_slice-end c =
    sym (length-take-le (length c.self.inside.digits.now) (replicate 32 48)
    (few_digits c.self.inside.digits.now c.args.self.now c.self.view_is c.requires))

pub copy_from_slice-requires : goal.copy_from_slice-requires
copy_from_slice-requires c =
    length-take-le (length c.self.inside.digits.now) (replicate 32 48)
    (few_digits c.self.inside.digits.now c.args.self.now c.self.view_is c.requires)

pub sixteen_bytes-requires-clause-lower : goal.sixteen_bytes-requires-clause-lower
sixteen_bytes-requires-clause-lower c =
    padded_lower c.self.inside.digits.now c.copy_from_slice.new.self (length c.self.inside.digits.now)
    c.copy_from_slice.ensures.after c.self.invariant.0

pub returns : goal.returns
returns c =
    let stride = few_stride c.self.inside.digits.now c.copy_from_slice.new.self c.args.self.now c.sixteen_bytes.result
    c.self.view_is c.copy_from_slice.ensures.after c.sixteen_bytes.ensures c.self.invariant.1 c.requires in
    record {
      written = few_written c.args.self.now c.args.buffer.now c.sixteen_bytes.result stride c.requires
          (omega (arith, c.told-buffer));
      zeros = few_zeros c.args.self.now c.args.buffer.now c.sixteen_bytes.result stride c.requires;
    }
