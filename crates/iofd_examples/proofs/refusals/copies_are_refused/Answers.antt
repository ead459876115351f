use Rattle.std.proofs.Common.{refl}
use Rattle.iofd_refusals.specs.Checks.{copy_checks}
use Rattle.iofd_words.specs.Levels.{number_at}
use Rattle.iofd_examples.proofs.refusals.copies_are_refused.Goals as goal

pub returns-clause-all : goal.returns-clause-all
unfolding copy_checks number_at
returns-clause-all c = refl

pub returns-clause-first : goal.returns-clause-first
unfolding copy_checks number_at
returns-clause-first c = refl

pub returns-clause-all_leaving : goal.returns-clause-all_leaving
unfolding copy_checks number_at
returns-clause-all_leaving c = refl

pub returns-clause-first_leaving : goal.returns-clause-first_leaving
unfolding copy_checks number_at
returns-clause-first_leaving c = refl

pub returns-clause-all_beside : goal.returns-clause-all_beside
unfolding copy_checks number_at
returns-clause-all_beside c = refl

pub returns-clause-first_beside : goal.returns-clause-first_beside
unfolding copy_checks number_at
returns-clause-first_beside c = refl
