use Rattle.std.proofs.Common.{refl, arith}
use Rattle.iofd_steps.specs.After.{changed, settle, without_areas}
use Rattle.iofd_steps.specs.Answers.{Answers}
use Rattle.iofd_refusals.specs.Checks.{unmap_checks}
use Rattle.iofd_words.specs.Levels.{number_at}
use Rattle.iofd_steps.specs.Run.{Lawful, after}
use Rattle.iofd_words.specs.Tables.{with_tables}
use Rattle.iofd_examples.proofs.Never.{lower}
use Rattle.iofd_examples.proofs.ranges.every_address_is_named.Goals as goal

pub returns-clause-all_of_it : goal.returns-clause-all_of_it
unfolding Lawful after with_tables unmap_checks Answers changed settle without_areas number_at
returns-clause-all_of_it c = (
  ((refl, refl), record { enough = refl; free = refl; different = refl; gone = refl; may = refl; rising = refl }),
  (
    ((refl, refl), record { enough = refl; free = refl; different = refl; gone = refl; may = refl; rising = refl }),
    tt,
  ),
)

pub returns-clause-none : goal.returns-clause-none
unfolding Lawful after with_tables unmap_checks Answers changed settle without_areas number_at
returns-clause-none c = (
  λ h. lower 0 0x1000 (omega arith) h.0.1,
  tt,
)

pub returns-clause-refusals : goal.returns-clause-refusals
unfolding Lawful after with_tables unmap_checks Answers changed settle without_areas number_at
returns-clause-refusals c = refl
