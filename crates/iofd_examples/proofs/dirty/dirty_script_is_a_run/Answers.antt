use Rattle.std.proofs.Common.{arith, refl}
use Rattle.iofd_steps.specs.After.{attached, changed, detached, settle, without_areas}
use Rattle.iofd_steps.specs.Answers.{Answers}
use Rattle.iofd_refusals.specs.Checks.{attach_checks, bind_checks, destroy_checks, detach_checks}
use Rattle.iofd_refusals.specs.Checks.{device_write_checks, dirty_checks, dirty_enable_checks}
use Rattle.iofd_refusals.specs.Checks.{hwpt_alloc_checks, ioas_alloc_checks, map_checks}
use Rattle.iofd_refusals.specs.Checks.{user_map_checks, user_write_checks}
use Rattle.iofd_words.specs.DirtyWords.{word_pages}
use Rattle.iofd_words.specs.Levels.{number_at}
use Rattle.iofd_words.specs.Policy.{access_outcomes, outcomes}
use Rattle.iofd_steps.specs.Run.{IsRun, Lawful, after}
use Rattle.iofd_words.specs.Tables.{with_tables}
use Rattle.iofd_examples.proofs.dirty.dirty_script_is_a_run.Goals as goal

pub returns-clause-beginning : goal.returns-clause-beginning
unfolding IsRun Lawful after with_tables attach_checks bind_checks destroy_checks detach_checks device_write_checks
    dirty_checks dirty_enable_checks hwpt_alloc_checks ioas_alloc_checks map_checks user_map_checks user_write_checks
    Answers changed settle without_areas attached detached outcomes access_outcomes number_at word_pages
returns-clause-beginning c = (
  (refl, record { enough = refl; free = refl; different = refl; gone = refl; may = refl; rising = refl }),
  (
    (refl, record { enough = refl; free = refl; different = refl; gone = refl; may = refl; rising = refl }),
    (
      (refl, record { enough = refl; free = refl; different = refl; gone = refl; may = refl; rising = refl }),
      (
        (refl, record { enough = refl; free = refl; different = refl; gone = refl; may = refl; rising = refl }),
        (
          (refl, record { enough = refl; free = refl; different = refl; gone = refl; may = refl; rising = refl }),
          (
            (refl, record { enough = refl; free = refl; different = refl; gone = refl; may = refl; rising = refl }),
            tt,
          ),
        ),
      ),
    ),
  ),
)

pub returns-clause-turning_on : goal.returns-clause-turning_on
unfolding IsRun Lawful after with_tables attach_checks bind_checks destroy_checks detach_checks device_write_checks
    dirty_checks dirty_enable_checks hwpt_alloc_checks ioas_alloc_checks map_checks user_map_checks user_write_checks
    Answers changed settle without_areas attached detached outcomes access_outcomes number_at word_pages
returns-clause-turning_on c = (
  (
    (0, omega arith, refl),
    record {
      enough = refl;
      free = refl;
      different = refl;
      gone = refl;
      may = refl;
      rising = refl;
    },
  ),
  (
    (tt, record { enough = refl; free = refl; different = refl; gone = refl; may = refl; rising = refl }),
    tt,
  ),
)

pub returns-clause-writing : goal.returns-clause-writing
unfolding IsRun Lawful after with_tables attach_checks bind_checks destroy_checks detach_checks device_write_checks
    dirty_checks dirty_enable_checks hwpt_alloc_checks ioas_alloc_checks map_checks user_map_checks user_write_checks
    Answers changed settle without_areas attached detached outcomes access_outcomes number_at word_pages
returns-clause-writing c = (
  (
    (0, omega arith, refl),
    record {
      enough = refl;
      free = refl;
      different = refl;
      gone = refl;
      may = refl;
      rising = refl;
    },
  ),
  (
    (tt, record { enough = refl; free = refl; different = refl; gone = refl; may = refl; rising = refl }),
    (
      (
        (0, omega arith, refl),
        record {
          enough = refl;
          free = refl;
          different = refl;
          gone = refl;
          may = refl;
          rising = refl;
        },
      ),
      tt,
    ),
  ),
)

pub returns-clause-clearing : goal.returns-clause-clearing
unfolding IsRun Lawful after with_tables attach_checks bind_checks destroy_checks detach_checks device_write_checks
    dirty_checks dirty_enable_checks hwpt_alloc_checks ioas_alloc_checks map_checks user_map_checks user_write_checks
    Answers changed settle without_areas attached detached outcomes access_outcomes number_at word_pages
returns-clause-clearing c = (
  (refl, record { enough = refl; free = refl; different = refl; gone = refl; may = refl; rising = refl }),
  tt,
)

pub returns-clause-clearing_again : goal.returns-clause-clearing_again
unfolding IsRun Lawful after with_tables attach_checks bind_checks destroy_checks detach_checks device_write_checks
    dirty_checks dirty_enable_checks hwpt_alloc_checks ioas_alloc_checks map_checks user_map_checks user_write_checks
    Answers changed settle without_areas attached detached outcomes access_outcomes number_at word_pages
returns-clause-clearing_again c = (
  (refl, record { enough = refl; free = refl; different = refl; gone = refl; may = refl; rising = refl }),
  tt,
)

pub returns-clause-clearing_others : goal.returns-clause-clearing_others
unfolding IsRun Lawful after with_tables attach_checks bind_checks destroy_checks detach_checks device_write_checks
    dirty_checks dirty_enable_checks hwpt_alloc_checks ioas_alloc_checks map_checks user_map_checks user_write_checks
    Answers changed settle without_areas attached detached outcomes access_outcomes number_at word_pages
returns-clause-clearing_others c = (
  (refl, record { enough = refl; free = refl; different = refl; gone = refl; may = refl; rising = refl }),
  (
    (refl, record { enough = refl; free = refl; different = refl; gone = refl; may = refl; rising = refl }),
    tt,
  ),
)

pub returns-clause-turning_on_anew : goal.returns-clause-turning_on_anew
unfolding IsRun Lawful after with_tables attach_checks bind_checks destroy_checks detach_checks device_write_checks
    dirty_checks dirty_enable_checks hwpt_alloc_checks ioas_alloc_checks map_checks user_map_checks user_write_checks
    Answers changed settle without_areas attached detached outcomes access_outcomes number_at word_pages
returns-clause-turning_on_anew c = (
  (tt, record { enough = refl; free = refl; different = refl; gone = refl; may = refl; rising = refl }),
  tt,
)

pub returns-clause-turning_off : goal.returns-clause-turning_off
unfolding IsRun Lawful after with_tables attach_checks bind_checks destroy_checks detach_checks device_write_checks
    dirty_checks dirty_enable_checks hwpt_alloc_checks ioas_alloc_checks map_checks user_map_checks user_write_checks
    Answers changed settle without_areas attached detached outcomes access_outcomes number_at word_pages
returns-clause-turning_off c = (
  (tt, record { enough = refl; free = refl; different = refl; gone = refl; may = refl; rising = refl }),
  tt,
)

pub returns-clause-detaching : goal.returns-clause-detaching
unfolding IsRun Lawful after with_tables attach_checks bind_checks destroy_checks detach_checks device_write_checks
    dirty_checks dirty_enable_checks hwpt_alloc_checks ioas_alloc_checks map_checks user_map_checks user_write_checks
    Answers changed settle without_areas attached detached outcomes access_outcomes number_at word_pages
returns-clause-detaching c = (
  (tt, record { enough = refl; free = refl; different = refl; gone = refl; may = refl; rising = refl }),
  tt,
)

pub returns-clause-making_another : goal.returns-clause-making_another
unfolding IsRun Lawful after with_tables attach_checks bind_checks destroy_checks detach_checks device_write_checks
    dirty_checks dirty_enable_checks hwpt_alloc_checks ioas_alloc_checks map_checks user_map_checks user_write_checks
    Answers changed settle without_areas attached detached outcomes access_outcomes number_at word_pages
returns-clause-making_another c = (
  (refl, record { enough = refl; free = refl; different = refl; gone = refl; may = refl; rising = refl }),
  (
    (tt, record { enough = refl; free = refl; different = refl; gone = refl; may = refl; rising = refl }),
    (
      (tt, record { enough = refl; free = refl; different = refl; gone = refl; may = refl; rising = refl }),
      (
        (
          (0, omega arith, refl),
          record {
            enough = refl;
            free = refl;
            different = refl;
            gone = refl;
            may = refl;
            rising = refl;
          },
        ),
        tt,
      ),
    ),
  ),
)

pub returns-clause-destroying : goal.returns-clause-destroying
unfolding IsRun Lawful after with_tables attach_checks bind_checks destroy_checks detach_checks device_write_checks
    dirty_checks dirty_enable_checks hwpt_alloc_checks ioas_alloc_checks map_checks user_map_checks user_write_checks
    Answers changed settle without_areas attached detached outcomes access_outcomes number_at word_pages
returns-clause-destroying c = (
  (tt, record { enough = refl; free = refl; different = refl; gone = refl; may = refl; rising = refl }),
  tt,
)
