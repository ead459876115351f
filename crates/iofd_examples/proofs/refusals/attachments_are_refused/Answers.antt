use Rattle.std.proofs.Common.{refl}
use Rattle.iofd_refusals.specs.Checks.{attach_checks, hwpt_alloc_checks}
use Rattle.iofd_words.specs.Levels.{number_at}
use Rattle.iofd_examples.proofs.refusals.attachments_are_refused.Goals as goal

pub returns-clause-all : goal.returns-clause-all
unfolding attach_checks hwpt_alloc_checks number_at
returns-clause-all c = refl

pub returns-clause-first : goal.returns-clause-first
unfolding attach_checks hwpt_alloc_checks number_at
returns-clause-first c = refl

pub returns-clause-all_without_free : goal.returns-clause-all_without_free
unfolding attach_checks hwpt_alloc_checks number_at
returns-clause-all_without_free c = refl

pub returns-clause-first_without_free : goal.returns-clause-first_without_free
unfolding attach_checks hwpt_alloc_checks number_at
returns-clause-first_without_free c = refl

pub returns-clause-all_with_one_free : goal.returns-clause-all_with_one_free
unfolding attach_checks hwpt_alloc_checks number_at
returns-clause-all_with_one_free c = refl

pub returns-clause-first_with_one_free : goal.returns-clause-first_with_one_free
unfolding attach_checks hwpt_alloc_checks number_at
returns-clause-first_with_one_free c = refl

pub returns-clause-all_with_pinned : goal.returns-clause-all_with_pinned
unfolding attach_checks hwpt_alloc_checks number_at
returns-clause-all_with_pinned c = refl

pub returns-clause-first_with_pinned : goal.returns-clause-first_with_pinned
unfolding attach_checks hwpt_alloc_checks number_at
returns-clause-first_with_pinned c = refl
