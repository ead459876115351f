use Rattle.std.proofs.Common.{refl}
use Rattle.iofd_examples.proofs.limits.numbers_are_those_of_the_standards.Goals as goal

pub returns-clause-refusals : goal.returns-clause-refusals
returns-clause-refusals c = (refl, refl)

pub returns-clause-errnos : goal.returns-clause-errnos
returns-clause-errnos c = refl

pub returns-clause-reasons : goal.returns-clause-reasons
returns-clause-reasons c = refl
