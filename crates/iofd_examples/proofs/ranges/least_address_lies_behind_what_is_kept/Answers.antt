use Rattle.std.proofs.Common.{refl}
use Rattle.iofd_refusals.specs.Checks.{map_checks}
use Rattle.iofd_words.specs.Levels.{number_at}
use Rattle.iofd_examples.proofs.ranges.least_address_lies_behind_what_is_kept.Goals as goal

pub returns-clause-all_behind : goal.returns-clause-all_behind
unfolding map_checks number_at
returns-clause-all_behind c = refl

pub returns-clause-all_before : goal.returns-clause-all_before
unfolding map_checks number_at
returns-clause-all_before c = refl
