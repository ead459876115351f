use Rattle.std.proofs.Common.{refl}
use Rattle.iofd_refusals.specs.Checks.{allow_iovas_checks}
use Rattle.iofd_examples.proofs.refusals.allowed_ranges_are_refused.Goals as goal

pub returns-clause-all : goal.returns-clause-all
unfolding allow_iovas_checks
returns-clause-all c = refl

pub returns-clause-first : goal.returns-clause-first
unfolding allow_iovas_checks
returns-clause-first c = refl
