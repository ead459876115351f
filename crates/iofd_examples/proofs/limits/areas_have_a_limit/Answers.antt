use Rattle.std.proofs.Common.{refl}
use Rattle.iofd_refusals.specs.Checks.{copy_checks, map_checks}
use Rattle.iofd_words.specs.Levels.{number_at}
use Rattle.iofd_examples.proofs.limits.areas_have_a_limit.Goals as goal

pub returns-clause-maps : goal.returns-clause-maps
unfolding copy_checks map_checks number_at
returns-clause-maps c = refl

pub returns-clause-copies : goal.returns-clause-copies
unfolding copy_checks map_checks number_at
returns-clause-copies c = refl

pub returns-clause-below : goal.returns-clause-below
unfolding copy_checks map_checks number_at
returns-clause-below c = refl
