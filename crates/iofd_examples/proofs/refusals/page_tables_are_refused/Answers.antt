use Rattle.std.proofs.Common.{refl}
use Rattle.iofd_refusals.specs.Checks.{hwpt_alloc_checks}
use Rattle.iofd_words.specs.Levels.{number_at}
use Rattle.iofd_examples.proofs.refusals.page_tables_are_refused.Goals as goal

pub returns-clause-all : goal.returns-clause-all
unfolding hwpt_alloc_checks number_at
returns-clause-all c = refl

pub returns-clause-first : goal.returns-clause-first
unfolding hwpt_alloc_checks number_at
returns-clause-first c = refl
