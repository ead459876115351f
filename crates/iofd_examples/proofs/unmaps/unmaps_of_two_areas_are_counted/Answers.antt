use Rattle.std.proofs.Common.{refl}
use Rattle.iofd_steps.specs.After.{changed, settle, without_areas}
use Rattle.iofd_steps.specs.Answers.{Answers}
use Rattle.iofd_refusals.specs.Checks.{unmap_checks}
use Rattle.iofd_words.specs.Levels.{number_at}
use Rattle.iofd_steps.specs.Run.{IsRun, Lawful, after, world_of}
use Rattle.iofd_words.specs.Tables.{with_tables}
use Rattle.iofd_examples.proofs.unmaps.unmaps_of_two_areas_are_counted.Goals as goal

pub returns-clause-both : goal.returns-clause-both
unfolding IsRun Lawful after world_of with_tables unmap_checks Answers changed settle without_areas number_at
returns-clause-both c = (
  ((refl, refl), record { enough = refl; free = refl; different = refl; gone = refl; may = refl; rising = refl }),
  tt,
)

pub returns-clause-both_leave : goal.returns-clause-both_leave
unfolding IsRun Lawful after world_of with_tables unmap_checks Answers changed settle without_areas number_at
returns-clause-both_leave c = refl

pub returns-clause-one : goal.returns-clause-one
unfolding IsRun Lawful after world_of with_tables unmap_checks Answers changed settle without_areas number_at
returns-clause-one c = (
  ((refl, refl), record { enough = refl; free = refl; different = refl; gone = refl; may = refl; rising = refl }),
  tt,
)

pub returns-clause-one_leaves : goal.returns-clause-one_leaves
unfolding IsRun Lawful after world_of with_tables unmap_checks Answers changed settle without_areas number_at
returns-clause-one_leaves c = refl

pub returns-clause-hundredth : goal.returns-clause-hundredth
unfolding IsRun Lawful after world_of with_tables unmap_checks Answers changed settle without_areas number_at
returns-clause-hundredth c = (
  ((refl, refl), record { enough = refl; free = refl; different = refl; gone = refl; may = refl; rising = refl }),
  tt,
)

pub returns-clause-hundredth_leaves : goal.returns-clause-hundredth_leaves
unfolding IsRun Lawful after world_of with_tables unmap_checks Answers changed settle without_areas number_at
returns-clause-hundredth_leaves c = refl

pub returns-clause-most : goal.returns-clause-most
unfolding IsRun Lawful after world_of with_tables unmap_checks Answers changed settle without_areas number_at
returns-clause-most c = (
  ((refl, refl), record { enough = refl; free = refl; different = refl; gone = refl; may = refl; rising = refl }),
  tt,
)

pub returns-clause-most_stay : goal.returns-clause-most_stay
unfolding IsRun Lawful after world_of with_tables unmap_checks Answers changed settle without_areas number_at
returns-clause-most_stay c = refl

pub returns-clause-paid : goal.returns-clause-paid
unfolding IsRun Lawful after world_of with_tables unmap_checks Answers changed settle without_areas number_at
returns-clause-paid c = (
  ((refl, refl), record { enough = refl; free = refl; different = refl; gone = refl; may = refl; rising = refl }),
  tt,
)

pub returns-clause-paid_stay : goal.returns-clause-paid_stay
unfolding IsRun Lawful after world_of with_tables unmap_checks Answers changed settle without_areas number_at
returns-clause-paid_stay c = refl

pub returns-clause-begins : goal.returns-clause-begins
unfolding IsRun Lawful after world_of with_tables unmap_checks Answers changed settle without_areas number_at
returns-clause-begins c = (
  ((refl, refl), record { enough = refl; free = refl; different = refl; gone = refl; may = refl; rising = refl }),
  tt,
)

pub returns-clause-begins_with_none : goal.returns-clause-begins_with_none
unfolding IsRun Lawful after world_of with_tables unmap_checks Answers changed settle without_areas number_at
returns-clause-begins_with_none c = refl

pub returns-clause-then : goal.returns-clause-then
unfolding IsRun Lawful after world_of with_tables unmap_checks Answers changed settle without_areas number_at
returns-clause-then c = (
  ((refl, refl), record { enough = refl; free = refl; different = refl; gone = refl; may = refl; rising = refl }),
  tt,
)

pub returns-clause-then_one : goal.returns-clause-then_one
unfolding IsRun Lawful after world_of with_tables unmap_checks Answers changed settle without_areas number_at
returns-clause-then_one c = refl

pub returns-clause-beside : goal.returns-clause-beside
unfolding IsRun Lawful after world_of with_tables unmap_checks Answers changed settle without_areas number_at
returns-clause-beside c = (
  ((refl, refl), record { enough = refl; free = refl; different = refl; gone = refl; may = refl; rising = refl }),
  tt,
)

pub returns-clause-beside_leaves : goal.returns-clause-beside_leaves
unfolding IsRun Lawful after world_of with_tables unmap_checks Answers changed settle without_areas number_at
returns-clause-beside_leaves c = refl

pub returns-clause-goes : goal.returns-clause-goes
unfolding IsRun Lawful after world_of with_tables unmap_checks Answers changed settle without_areas number_at
returns-clause-goes c = (
  ((refl, refl), record { enough = refl; free = refl; different = refl; gone = refl; may = refl; rising = refl }),
  tt,
)
