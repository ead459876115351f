use Rattle.std.proofs.Common.{refl}
use Rattle.iofd_refusals.specs.Checks.{attach_checks, destroy_checks, hwpt_alloc_checks}
use Rattle.iofd_words.specs.Levels.{number_at}
use Rattle.iofd_examples.proofs.leaving.first_page_tables_wait_for_leaving_areas.Goals as goal

pub returns-clause-all : goal.returns-clause-all
unfolding attach_checks destroy_checks hwpt_alloc_checks number_at
returns-clause-all c = refl

pub returns-clause-first : goal.returns-clause-first
unfolding attach_checks destroy_checks hwpt_alloc_checks number_at
returns-clause-first c = refl

pub returns-clause-all_closed : goal.returns-clause-all_closed
unfolding attach_checks hwpt_alloc_checks number_at
returns-clause-all_closed c = refl

pub returns-clause-first_closed : goal.returns-clause-first_closed
unfolding attach_checks hwpt_alloc_checks number_at
returns-clause-first_closed c = refl
