use Rattle.std.proofs.Common.{refl}
use Rattle.iofd_steps.specs.After.{changed, settle, without_areas}
use Rattle.iofd_steps.specs.Answers.{Answers}
use Rattle.iofd_refusals.specs.Checks.{allow_iovas_checks, map_checks}
use Rattle.iofd_words.specs.Levels.{number_at}
use Rattle.iofd_steps.specs.Run.{IsRun, Lawful, after, world_of}
use Rattle.iofd_words.specs.Tables.{with_tables}
use Rattle.iofd_examples.proofs.Never.{never}
use Rattle.iofd_examples.proofs.ranges.addresses_are_chosen_in_the_list.Goals as goal

pub returns-clause-lifting : goal.returns-clause-lifting
unfolding IsRun Lawful after world_of with_tables allow_iovas_checks map_checks Answers changed settle without_areas
    number_at
returns-clause-lifting c = (
  (tt, record { enough = refl; free = refl; different = refl; gone = refl; may = refl; rising = refl }),
  tt,
)

pub returns-clause-lifted : goal.returns-clause-lifted
unfolding IsRun Lawful after world_of with_tables allow_iovas_checks map_checks Answers changed settle without_areas
    number_at
returns-clause-lifted c = refl

pub returns-clause-outside : goal.returns-clause-outside
unfolding IsRun Lawful after world_of with_tables allow_iovas_checks map_checks Answers changed settle without_areas
    number_at
returns-clause-outside c = (
  (refl, record { enough = refl; free = refl; different = refl; gone = refl; may = refl; rising = refl }),
  (
    (refl, record { enough = refl; free = refl; different = refl; gone = refl; may = refl; rising = refl }),
    tt,
  ),
)

pub returns-clause-inside : goal.returns-clause-inside
unfolding IsRun Lawful after world_of with_tables allow_iovas_checks map_checks Answers changed settle without_areas
    number_at
returns-clause-inside c = (
  (refl, record { enough = refl; free = refl; different = refl; gone = refl; may = refl; rising = refl }),
  (
    (refl, record { enough = refl; free = refl; different = refl; gone = refl; may = refl; rising = refl }),
    tt,
  ),
)

pub returns-clause-inside_lifted : goal.returns-clause-inside_lifted
unfolding IsRun Lawful after world_of with_tables allow_iovas_checks map_checks Answers changed settle without_areas
    number_at
returns-clause-inside_lifted c = (
  (refl, record { enough = refl; free = refl; different = refl; gone = refl; may = refl; rising = refl }),
  (
    (refl, record { enough = refl; free = refl; different = refl; gone = refl; may = refl; rising = refl }),
    tt,
  ),
)

pub returns-clause-not_outside : goal.returns-clause-not_outside
unfolding IsRun Lawful after world_of with_tables allow_iovas_checks map_checks Answers changed settle without_areas
    number_at
returns-clause-not_outside c = (
  λ h. never h.0,
  (
    λ h. never h.0,
    tt,
  ),
)

pub returns-clause-gap : goal.returns-clause-gap
unfolding IsRun Lawful after world_of with_tables allow_iovas_checks map_checks Answers changed settle without_areas
    number_at
returns-clause-gap c = (
  λ h. never h.0,
  tt,
)

pub returns-clause-beside : goal.returns-clause-beside
unfolding IsRun Lawful after world_of with_tables allow_iovas_checks map_checks Answers changed settle without_areas
    number_at
returns-clause-beside c = (
  (refl, record { enough = refl; free = refl; different = refl; gone = refl; may = refl; rising = refl }),
  tt,
)

pub returns-clause-border : goal.returns-clause-border
unfolding IsRun Lawful after world_of with_tables allow_iovas_checks map_checks Answers changed settle without_areas
    number_at
returns-clause-border c = (
  (refl, record { enough = refl; free = refl; different = refl; gone = refl; may = refl; rising = refl }),
  tt,
)

pub returns-clause-all_of_three : goal.returns-clause-all_of_three
unfolding IsRun Lawful after world_of with_tables allow_iovas_checks map_checks Answers changed settle without_areas
    number_at
returns-clause-all_of_three c = refl

pub returns-clause-all_of_three_touching : goal.returns-clause-all_of_three_touching
unfolding IsRun Lawful after world_of with_tables allow_iovas_checks map_checks Answers changed settle without_areas
    number_at
returns-clause-all_of_three_touching c = refl
