use Rattle.std.proofs.Common.{◌-◌, ◌∙◌, arith}
use Rattle.iommufd_script.proofs.Strides.{behind_stride, digits_within, last_stride, next_stride}
use Rattle.iommufd_script.proofs.hex_bytes.HexBytes.write_many.Goals as goal

pub sixteen_bytes-requires-clause-within : goal.sixteen_bytes-requires-clause-within
sixteen_bytes-requires-clause-within c =
    digits_within c.loop-done.done c.self.inside.digits.now c.args.self.now c.self.view_is (omega arith)

pub loop-done-preserved : goal.loop-done-preserved
loop-done-preserved c =
    let done = c.loop-done.done in record {
      within = omega arith;
      written = next_stride done done c.self.inside.digits.now c.args.self.now c.loop-done.buffer
          c.sixteen_bytes.result c.self.view_is c.sixteen_bytes.ensures c.loop-done.invariant.written (omega arith)
          (omega arith) (omega arith);
      behind = behind_stride done c.self.inside.digits.now c.args.self.now c.loop-done.buffer c.sixteen_bytes.result
          c.self.view_is c.sixteen_bytes.ensures (omega arith) ∙ c.loop-done.invariant.behind;
    }

pub sixteen_bytes-requires-2-clause-within : goal.sixteen_bytes-requires-2-clause-within
sixteen_bytes-requires-2-clause-within c =
    digits_within (c.len-last.result - 16) c.self.inside.digits.now c.args.self.now c.self.view_is (omega arith)

pub returns-clause-written : goal.returns-clause-written
returns-clause-written c =
    last_stride (c.len-last.result - 16) c.loop-done.done c.self.inside.digits.now c.args.self.now c.loop-done.buffer
    c.sixteen_bytes-2.result c.self.view_is c.sixteen_bytes-2.ensures c.loop-done.invariant.written
    c.loop-done-test.false (omega arith) (omega arith)

pub returns-clause-behind : goal.returns-clause-behind
returns-clause-behind c =
    behind_stride (c.len-last.result - 16) c.self.inside.digits.now c.args.self.now c.loop-done.buffer
    c.sixteen_bytes-2.result c.self.view_is c.sixteen_bytes-2.ensures (omega arith) ∙ c.loop-done.invariant.behind
