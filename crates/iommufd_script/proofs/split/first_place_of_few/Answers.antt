use Rattle.std.proofs.Common.{arith}
use Rattle.iommufd_script.proofs.Parts.{first_place, no_place}
use Rattle.iommufd_script.proofs.split.first_place_of_few.Goals as goal

pub returns-then-text-i-clause-place : goal.returns-then-text-i-clause-place
returns-then-text-i-clause-place c =
    first_place c.args.byte c.args.text.now c.loop-i.i (omega arith) c.loop-i.invariant c.if-text-i.true

pub returns-clause-place : goal.returns-clause-place
returns-clause-place c = no_place c.args.byte c.args.text.now c.loop-i.i (omega arith) c.loop-i.invariant
