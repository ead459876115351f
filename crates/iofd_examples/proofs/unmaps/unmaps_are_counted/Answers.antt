use Rattle.std.proofs.Common.{refl}
use Rattle.iofd_steps.specs.After.{changed, settle, without_areas}
use Rattle.iofd_steps.specs.Answers.{Answers}
use Rattle.iofd_refusals.specs.Checks.{unmap_checks}
use Rattle.iofd_words.specs.Levels.{number_at}
use Rattle.iofd_steps.specs.Run.{IsRun, Lawful, after, world_of}
use Rattle.iofd_words.specs.Tables.{with_tables}
use Rattle.iofd_examples.proofs.unmaps.unmaps_are_counted.Goals as goal

pub returns-clause-first : goal.returns-clause-first
unfolding IsRun Lawful after world_of with_tables unmap_checks Answers changed settle without_areas number_at
returns-clause-first c = (
  ((refl, refl), record { enough = refl; free = refl; different = refl; gone = refl; may = refl; rising = refl }),
  tt,
)

pub returns-clause-first_leaves : goal.returns-clause-first_leaves
unfolding IsRun Lawful after world_of with_tables unmap_checks Answers changed settle without_areas number_at
returns-clause-first_leaves c = refl

pub returns-clause-last : goal.returns-clause-last
unfolding IsRun Lawful after world_of with_tables unmap_checks Answers changed settle without_areas number_at
returns-clause-last c = (
  ((refl, refl), record { enough = refl; free = refl; different = refl; gone = refl; may = refl; rising = refl }),
  (
    ((refl, refl), record { enough = refl; free = refl; different = refl; gone = refl; may = refl; rising = refl }),
    tt,
  ),
)

pub returns-clause-last_leave : goal.returns-clause-last_leave
unfolding IsRun Lawful after world_of with_tables unmap_checks Answers changed settle without_areas number_at
returns-clause-last_leave c = refl

pub returns-clause-hundred : goal.returns-clause-hundred
unfolding IsRun Lawful after world_of with_tables unmap_checks Answers changed settle without_areas number_at
returns-clause-hundred c = refl
