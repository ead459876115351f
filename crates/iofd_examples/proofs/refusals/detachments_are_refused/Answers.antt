use Rattle.std.proofs.Common.{refl}
use Rattle.iofd_refusals.specs.Checks.{detach_checks, flush_checks}
use Rattle.iofd_examples.proofs.refusals.detachments_are_refused.Goals as goal

pub returns-clause-all : goal.returns-clause-all
unfolding detach_checks flush_checks
returns-clause-all c = refl

pub returns-clause-first : goal.returns-clause-first
unfolding detach_checks flush_checks
returns-clause-first c = refl

pub returns-clause-all_flushes : goal.returns-clause-all_flushes
unfolding detach_checks flush_checks
returns-clause-all_flushes c = refl

pub returns-clause-first_flushes : goal.returns-clause-first_flushes
unfolding detach_checks flush_checks
returns-clause-first_flushes c = refl
