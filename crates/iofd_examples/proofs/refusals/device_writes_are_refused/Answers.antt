use Rattle.std.proofs.Common.{refl}
use Rattle.iofd_refusals.specs.Checks.{device_write_checks}
use Rattle.iofd_examples.proofs.refusals.device_writes_are_refused.Goals as goal

pub returns-clause-all : goal.returns-clause-all
unfolding device_write_checks
returns-clause-all c = refl

pub returns-clause-first : goal.returns-clause-first
unfolding device_write_checks
returns-clause-first c = refl
