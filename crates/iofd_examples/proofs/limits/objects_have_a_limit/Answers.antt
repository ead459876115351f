use Rattle.std.proofs.Common.{refl}
use Rattle.iofd_refusals.specs.Checks.{access_create_checks, attach_checks, bind_checks, hwpt_alloc_checks}
use Rattle.iofd_refusals.specs.Checks.{ioas_alloc_checks}
use Rattle.iofd_words.specs.Levels.{number_at}
use Rattle.iofd_examples.proofs.limits.objects_have_a_limit.Goals as goal

pub returns-clause-at : goal.returns-clause-at
unfolding access_create_checks attach_checks bind_checks hwpt_alloc_checks ioas_alloc_checks number_at
returns-clause-at c = refl

pub returns-clause-closed : goal.returns-clause-closed
unfolding access_create_checks attach_checks bind_checks hwpt_alloc_checks ioas_alloc_checks number_at
returns-clause-closed c = refl

pub returns-clause-below : goal.returns-clause-below
unfolding access_create_checks attach_checks bind_checks hwpt_alloc_checks ioas_alloc_checks number_at
returns-clause-below c = refl
