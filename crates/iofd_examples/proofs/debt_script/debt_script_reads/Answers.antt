use Rattle.std.proofs.Common.{refl}
use Rattle.iofd_steps.specs.Look.{answers_in}
use Rattle.iofd_words.specs.Policy.{access_outcomes, outcomes}
use Rattle.iofd_examples.proofs.debt_script.debt_script_reads.Goals as goal

pub returns-clause-joined : goal.returns-clause-joined
unfolding answers_in access_outcomes outcomes
returns-clause-joined c = refl

pub returns-clause-leaving : goal.returns-clause-leaving
unfolding answers_in access_outcomes outcomes
returns-clause-leaving c = refl

pub returns-clause-joined_writes : goal.returns-clause-joined_writes
unfolding access_outcomes outcomes
returns-clause-joined_writes c = refl

pub returns-clause-leaving_writes : goal.returns-clause-leaving_writes
unfolding access_outcomes outcomes
returns-clause-leaving_writes c = refl

pub returns-clause-one_owes_writes : goal.returns-clause-one_owes_writes
unfolding access_outcomes outcomes
returns-clause-one_owes_writes c = refl

pub returns-clause-none_owes_writes : goal.returns-clause-none_owes_writes
unfolding access_outcomes outcomes
returns-clause-none_owes_writes c = refl
