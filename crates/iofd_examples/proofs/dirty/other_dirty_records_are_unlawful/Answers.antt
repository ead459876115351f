use Rattle.std.proofs.Common.{arith, refl}
use Rattle.iofd_steps.specs.After.{changed}
use Rattle.iofd_steps.specs.Answers.{Answers}
use Rattle.iofd_refusals.specs.Checks.{dirty_checks, dirty_enable_checks}
use Rattle.iofd_words.specs.DirtyWords.{word_pages}
use Rattle.iofd_steps.specs.Run.{Lawful, after}
use Rattle.iofd_words.specs.Tables.{with_tables}
use Rattle.iofd_examples.proofs.Never.{higher_word, lower_word, same_cause}
use Rattle.iofd_examples.proofs.dirty.other_dirty_records_are_unlawful.Goals as goal

pub returns-clause-words : goal.returns-clause-words
unfolding Lawful after with_tables dirty_checks dirty_enable_checks Answers changed word_pages
returns-clause-words c = (λ h. higher_word 3 2 _ _ (omega arith) h.0, (λ h. lower_word 0 2 _ _ (omega arith) h.0, tt))

pub returns-clause-kinds : goal.returns-clause-kinds
unfolding Lawful after with_tables dirty_checks dirty_enable_checks Answers changed word_pages
returns-clause-kinds c = (λ h. h.0, (λ h. h.0, (λ h. h.0, (λ h. h.0, tt))))

pub returns-clause-left : goal.returns-clause-left
unfolding Lawful after with_tables dirty_checks dirty_enable_checks Answers changed word_pages
returns-clause-left c = (λ h. higher_word 2 0 _ _ (omega arith) h.0, tt)

pub returns-clause-not_refused : goal.returns-clause-not_refused
unfolding Lawful after with_tables dirty_checks dirty_enable_checks Answers changed word_pages
returns-clause-not_refused c = (λ h. let is = same_cause _ _ h.0 in cc, tt)

pub returns-clause-causes : goal.returns-clause-causes
unfolding Lawful after with_tables dirty_checks dirty_enable_checks Answers changed word_pages
returns-clause-causes c = (λ h. let is = same_cause _ _ h.0 in cc, tt)

pub returns-clause-refusals : goal.returns-clause-refusals
unfolding Lawful after with_tables dirty_checks dirty_enable_checks Answers changed word_pages
returns-clause-refusals c = ((refl, (refl, refl)), tt)
