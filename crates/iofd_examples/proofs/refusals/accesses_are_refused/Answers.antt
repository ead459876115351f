use Rattle.std.proofs.Common.{refl}
use Rattle.iofd_refusals.specs.Checks.{user_map_checks, user_unmap_checks, user_write_checks}
use Rattle.iofd_examples.proofs.refusals.accesses_are_refused.Goals as goal

pub returns-clause-all : goal.returns-clause-all
unfolding user_map_checks user_unmap_checks user_write_checks
returns-clause-all c = refl

pub returns-clause-first : goal.returns-clause-first
unfolding user_map_checks user_unmap_checks user_write_checks
returns-clause-first c = refl

pub returns-clause-all_without_free : goal.returns-clause-all_without_free
unfolding user_map_checks user_unmap_checks user_write_checks
returns-clause-all_without_free c = refl

pub returns-clause-first_without_free : goal.returns-clause-first_without_free
unfolding user_map_checks user_unmap_checks user_write_checks
returns-clause-first_without_free c = refl

pub returns-clause-all_with_one_free : goal.returns-clause-all_with_one_free
unfolding user_map_checks user_unmap_checks user_write_checks
returns-clause-all_with_one_free c = refl

pub returns-clause-first_with_one_free : goal.returns-clause-first_with_one_free
unfolding user_map_checks user_unmap_checks user_write_checks
returns-clause-first_with_one_free c = refl
