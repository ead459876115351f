use Rattle.std.proofs.Common.{refl}
use Rattle.iofd_steps.specs.After.{changed, settle, without_areas}
use Rattle.iofd_steps.specs.Answers.{Answers}
use Rattle.iofd_refusals.specs.Checks.{unmap_checks}
use Rattle.iofd_words.specs.Levels.{number_at}
use Rattle.iofd_steps.specs.Run.{Lawful, after}
use Rattle.iofd_words.specs.Tables.{with_tables}
use Rattle.iofd_examples.proofs.Never.{never}
use Rattle.iofd_examples.proofs.tables.tables_end_at_their_borders.Goals as goal

pub returns-clause-first : goal.returns-clause-first
unfolding Lawful after with_tables unmap_checks Answers changed settle without_areas number_at
returns-clause-first c = (
  ((refl, refl), record { enough = refl; free = refl; different = refl; gone = refl; may = refl; rising = refl }),
  tt,
)

pub returns-clause-first_alone : goal.returns-clause-first_alone
unfolding Lawful after with_tables unmap_checks Answers changed settle without_areas number_at
returns-clause-first_alone c = (λ h. never h.1.may, (λ h. never h.1.may, tt))

pub returns-clause-second : goal.returns-clause-second
unfolding Lawful after with_tables unmap_checks Answers changed settle without_areas number_at
returns-clause-second c = (
  ((refl, refl), record { enough = refl; free = refl; different = refl; gone = refl; may = refl; rising = refl }),
  tt,
)

pub returns-clause-second_alone : goal.returns-clause-second_alone
unfolding Lawful after with_tables unmap_checks Answers changed settle without_areas number_at
returns-clause-second_alone c = (λ h. never h.1.may, (λ h. never h.1.may, tt))
