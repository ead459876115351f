use Rattle.std.proofs.Common.{refl}
use Rattle.iofd_refusals.specs.Checks.{access_pin_checks}
use Rattle.iofd_words.specs.Levels.{number_at}
use Rattle.iofd_examples.proofs.pins.pins_have_a_limit.Goals as goal

pub returns-clause-at : goal.returns-clause-at
unfolding access_pin_checks number_at
returns-clause-at c = refl

pub returns-clause-below : goal.returns-clause-below
unfolding access_pin_checks number_at
returns-clause-below c = refl
