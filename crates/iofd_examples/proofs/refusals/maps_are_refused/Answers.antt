use Rattle.std.proofs.Common.{refl}
use Rattle.iofd_refusals.specs.Checks.{map_checks}
use Rattle.iofd_words.specs.Levels.{number_at}
use Rattle.iofd_examples.proofs.refusals.maps_are_refused.Goals as goal

pub returns-clause-all : goal.returns-clause-all
unfolding map_checks number_at
returns-clause-all c = refl

pub returns-clause-first : goal.returns-clause-first
unfolding map_checks number_at
returns-clause-first c = refl

pub returns-clause-all_chosen : goal.returns-clause-all_chosen
unfolding map_checks number_at
returns-clause-all_chosen c = refl

pub returns-clause-first_chosen : goal.returns-clause-first_chosen
unfolding map_checks number_at
returns-clause-first_chosen c = refl

pub returns-clause-all_near_and_far : goal.returns-clause-all_near_and_far
unfolding map_checks number_at
returns-clause-all_near_and_far c = refl

pub returns-clause-first_near_and_far : goal.returns-clause-first_near_and_far
unfolding map_checks number_at
returns-clause-first_near_and_far c = refl

pub returns-clause-all_far : goal.returns-clause-all_far
unfolding map_checks number_at
returns-clause-all_far c = refl

pub returns-clause-first_far : goal.returns-clause-first_far
unfolding map_checks number_at
returns-clause-first_far c = refl

pub returns-clause-all_without_free : goal.returns-clause-all_without_free
unfolding map_checks number_at
returns-clause-all_without_free c = refl

pub returns-clause-first_without_free : goal.returns-clause-first_without_free
unfolding map_checks number_at
returns-clause-first_without_free c = refl
