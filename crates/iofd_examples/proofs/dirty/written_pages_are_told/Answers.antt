use Rattle.std.proofs.Common.{refl}
use Rattle.iofd_refusals.specs.Checks.{dirty_checks}
use Rattle.iofd_words.specs.DirtyWords.{word_pages}
use Rattle.iofd_steps.specs.Look.{answers_in}
use Rattle.iofd_examples.proofs.dirty.written_pages_are_told.Goals as goal

pub returns-clause-tracked : goal.returns-clause-tracked
unfolding answers_in dirty_checks word_pages
returns-clause-tracked c = refl

pub returns-clause-written : goal.returns-clause-written
unfolding answers_in dirty_checks word_pages
returns-clause-written c = refl

pub returns-clause-cleared : goal.returns-clause-cleared
unfolding answers_in dirty_checks word_pages
returns-clause-cleared c = refl

pub returns-clause-both : goal.returns-clause-both
unfolding answers_in dirty_checks word_pages
returns-clause-both c = refl

pub returns-clause-marked : goal.returns-clause-marked
unfolding answers_in dirty_checks word_pages
returns-clause-marked c = refl
