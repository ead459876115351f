use Rattle.std.proofs.Common.{refl}
use Rattle.iofd_steps.specs.Look.{answers_in}
use Rattle.iofd_words.specs.Policy.{access_outcomes, outcomes}
use Rattle.iofd_examples.proofs.second_script.second_script_reads.Goals as goal

pub returns-clause-mapped : goal.returns-clause-mapped
unfolding answers_in access_outcomes outcomes
returns-clause-mapped c = refl

pub returns-clause-attached : goal.returns-clause-attached
unfolding answers_in access_outcomes outcomes
returns-clause-attached c = refl

pub returns-clause-renewed : goal.returns-clause-renewed
unfolding answers_in access_outcomes outcomes
returns-clause-renewed c = refl

pub returns-clause-rewritten : goal.returns-clause-rewritten
unfolding answers_in access_outcomes outcomes
returns-clause-rewritten c = refl

pub returns-clause-shared : goal.returns-clause-shared
unfolding answers_in access_outcomes outcomes
returns-clause-shared c = refl

pub returns-clause-owing : goal.returns-clause-owing
unfolding answers_in access_outcomes outcomes
returns-clause-owing c = refl

pub returns-clause-paid : goal.returns-clause-paid
unfolding answers_in access_outcomes outcomes
returns-clause-paid c = refl

pub returns-clause-ended : goal.returns-clause-ended
unfolding answers_in access_outcomes outcomes
returns-clause-ended c = refl

pub returns-clause-copied : goal.returns-clause-copied
unfolding answers_in access_outcomes outcomes
returns-clause-copied c = refl

pub returns-clause-unbound : goal.returns-clause-unbound
unfolding answers_in access_outcomes outcomes
returns-clause-unbound c = refl

pub returns-clause-parted : goal.returns-clause-parted
unfolding answers_in access_outcomes outcomes
returns-clause-parted c = refl
