use Rattle.std.proofs.Common.{refl}
use Rattle.iofd_words.specs.Policy.{access_outcomes, outcomes}
use Rattle.iofd_examples.proofs.second_script.second_script_writes.Goals as goal

pub returns-clause-attached : goal.returns-clause-attached
unfolding access_outcomes outcomes
returns-clause-attached c = refl

pub returns-clause-owing : goal.returns-clause-owing
unfolding access_outcomes outcomes
returns-clause-owing c = refl

pub returns-clause-paid : goal.returns-clause-paid
unfolding access_outcomes outcomes
returns-clause-paid c = refl
