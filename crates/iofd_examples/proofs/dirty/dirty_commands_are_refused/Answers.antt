use Rattle.std.proofs.Common.{refl}
use Rattle.iofd_refusals.specs.Checks.{dirty_checks, dirty_enable_checks}
use Rattle.iofd_examples.proofs.dirty.dirty_commands_are_refused.Goals as goal

pub returns-clause-all_enables : goal.returns-clause-all_enables
unfolding dirty_checks dirty_enable_checks
returns-clause-all_enables c = refl

pub returns-clause-first_enables : goal.returns-clause-first_enables
unfolding dirty_checks dirty_enable_checks
returns-clause-first_enables c = refl

pub returns-clause-all_clears : goal.returns-clause-all_clears
unfolding dirty_checks dirty_enable_checks
returns-clause-all_clears c = refl

pub returns-clause-first_clears : goal.returns-clause-first_clears
unfolding dirty_checks dirty_enable_checks
returns-clause-first_clears c = refl

pub returns-clause-looks : goal.returns-clause-looks
unfolding dirty_checks dirty_enable_checks
returns-clause-looks c = refl

pub returns-clause-all_closed : goal.returns-clause-all_closed
unfolding dirty_checks dirty_enable_checks
returns-clause-all_closed c = refl

pub returns-clause-first_closed : goal.returns-clause-first_closed
unfolding dirty_checks dirty_enable_checks
returns-clause-first_closed c = refl
