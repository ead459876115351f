use Rattle.std.proofs.Common.{refl}
use Rattle.iofd_refusals.specs.Checks.{map_checks, unmap_checks}
use Rattle.iofd_words.specs.Levels.{number_at}
use Rattle.iofd_examples.proofs.refusals.unmaps_are_refused.Goals as goal

pub returns-clause-all : goal.returns-clause-all
unfolding unmap_checks map_checks number_at
returns-clause-all c = refl

pub returns-clause-first : goal.returns-clause-first
unfolding unmap_checks map_checks number_at
returns-clause-first c = refl

pub returns-clause-all_leaving : goal.returns-clause-all_leaving
unfolding unmap_checks map_checks number_at
returns-clause-all_leaving c = refl

pub returns-clause-first_leaving : goal.returns-clause-first_leaving
unfolding unmap_checks map_checks number_at
returns-clause-first_leaving c = refl
