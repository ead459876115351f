use Rattle.std.proofs.Common.{refl}
use Rattle.iofd_steps.specs.Look.{answers_in}
use Rattle.iofd_words.specs.Policy.{access_outcomes, outcomes}
use Rattle.iofd_words.specs.Walk.{translation}
use Rattle.iofd_interleavings_examples.proofs.kept.walks_find_what_is_mapped.Goals as goal

pub returns-clause-live : goal.returns-clause-live
unfolding answers_in outcomes access_outcomes translation
returns-clause-live c = refl

pub returns-clause-one_owes : goal.returns-clause-one_owes
unfolding answers_in outcomes access_outcomes translation
returns-clause-one_owes c = refl

pub returns-clause-unattached : goal.returns-clause-unattached
unfolding answers_in outcomes access_outcomes translation
returns-clause-unattached c = refl

pub returns-clause-passes : goal.returns-clause-passes
unfolding outcomes access_outcomes
returns-clause-passes c = refl

pub returns-clause-elsewhere : goal.returns-clause-elsewhere
unfolding outcomes access_outcomes
returns-clause-elsewhere c = refl

pub returns-clause-crossing : goal.returns-clause-crossing
unfolding outcomes access_outcomes
returns-clause-crossing c = refl
