use Rattle.std.proofs.Common.{refl}
use Rattle.iofd_steps.specs.After.{changed, settle, without_areas, attached, joined}
use Rattle.iofd_steps.specs.Answers.{Answers}
use Rattle.iofd_refusals.specs.Checks.{attach_checks, hwpt_alloc_checks}
use Rattle.iofd_words.specs.Levels.{number_at}
use Rattle.iofd_steps.specs.Run.{Lawful, after}
use Rattle.iofd_words.specs.Tables.{with_tables}
use Rattle.iofd_examples.proofs.leaving.page_tables_are_made_or_wait.Goals as goal

pub returns-clause-refused : goal.returns-clause-refused
unfolding Lawful after with_tables attach_checks hwpt_alloc_checks Answers changed settle without_areas attached
    joined number_at
returns-clause-refused c = (
  (refl, (refl, refl)),
  (
    (refl, (refl, refl)),
    tt,
  ),
)

pub returns-clause-made : goal.returns-clause-made
unfolding Lawful after with_tables attach_checks hwpt_alloc_checks Answers changed settle without_areas attached
    joined number_at
returns-clause-made c = (
  λ h. let is = h.0 in cc,
  (
    λ h. let is = h.0 in cc,
    tt,
  ),
)

pub returns-clause-second : goal.returns-clause-second
unfolding Lawful after with_tables attach_checks hwpt_alloc_checks Answers changed settle without_areas attached
    joined number_at
returns-clause-second c = (
  (refl, record { enough = refl; free = refl; different = refl; gone = refl; may = refl; rising = refl }),
  (
    (refl, record { enough = refl; free = refl; different = refl; gone = refl; may = refl; rising = refl }),
    (
      (refl, record { enough = refl; free = refl; different = refl; gone = refl; may = refl; rising = refl }),
      tt,
    ),
  ),
)
