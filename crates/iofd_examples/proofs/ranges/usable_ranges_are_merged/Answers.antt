use Rattle.std.proofs.Common.{arith}
use Rattle.iofd_examples.proofs.Never.{never}
use Rattle.iofd_examples.proofs.ranges.usable_ranges_are_merged.Goals as goal

pub returns-clause-adjoining : goal.returns-clause-adjoining
returns-clause-adjoining c = λ h. absurd (omega (arith, h.merged.2.0))

pub returns-clause-overlapping : goal.returns-clause-overlapping
returns-clause-overlapping c = λ h. absurd (omega (arith, h.merged.2.0))

pub returns-clause-turned : goal.returns-clause-turned
returns-clause-turned c = λ h. absurd (omega (arith, h.merged.2.1))

pub returns-clause-few : goal.returns-clause-few
returns-clause-few c = λ h. never (h.set 0xffff_ffff_ffff_ffff)
