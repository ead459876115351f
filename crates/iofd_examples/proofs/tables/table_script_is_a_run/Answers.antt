use Rattle.std.proofs.Common.{refl}
use Rattle.iofd_steps.specs.After.{changed, settle, without_areas, attached, detached}
use Rattle.iofd_steps.specs.Answers.{Answers}
use Rattle.iofd_refusals.specs.Checks.{attach_checks, bind_checks, close_checks, detach_checks, flush_checks}
use Rattle.iofd_refusals.specs.Checks.{hwpt_alloc_checks, ioas_alloc_checks, map_checks, unbind_checks}
use Rattle.iofd_refusals.specs.Checks.{unmap_checks, user_map_checks}
use Rattle.iofd_words.specs.Levels.{number_at}
use Rattle.iofd_steps.specs.Run.{IsRun, Lawful, after}
use Rattle.iofd_words.specs.Tables.{with_tables}
use Rattle.iofd_examples.proofs.tables.table_script_is_a_run.Goals as goal

pub returns-clause-beginning : goal.returns-clause-beginning
unfolding IsRun Lawful after with_tables attach_checks bind_checks close_checks detach_checks flush_checks
    hwpt_alloc_checks ioas_alloc_checks map_checks unbind_checks unmap_checks user_map_checks Answers changed settle
    without_areas attached detached number_at
returns-clause-beginning c = (
  (refl, record { enough = refl; free = refl; different = refl; gone = refl; may = refl; rising = refl }),
  (
    (refl, record { enough = refl; free = refl; different = refl; gone = refl; may = refl; rising = refl }),
    (
      (refl, record { enough = refl; free = refl; different = refl; gone = refl; may = refl; rising = refl }),
      (
        (refl, record { enough = refl; free = refl; different = refl; gone = refl; may = refl; rising = refl }),
        (
          (refl, record { enough = refl; free = refl; different = refl; gone = refl; may = refl; rising = refl }),
          (
            (refl, record { enough = refl; free = refl; different = refl; gone = refl; may = refl; rising = refl }),
            (
              (refl, record { enough = refl; free = refl; different = refl; gone = refl; may = refl; rising = refl }),
              (
                (refl, record { enough = refl; free = refl; different = refl; gone = refl; may = refl; rising = refl }),
                tt,
              ),
            ),
          ),
        ),
      ),
    ),
  ),
)

pub returns-clause-mapping : goal.returns-clause-mapping
unfolding IsRun Lawful after with_tables attach_checks bind_checks close_checks detach_checks flush_checks
    hwpt_alloc_checks ioas_alloc_checks map_checks unbind_checks unmap_checks user_map_checks Answers changed settle
    without_areas attached detached number_at
returns-clause-mapping c = (
  (refl, record { enough = refl; free = refl; different = refl; gone = refl; may = refl; rising = refl }),
  tt,
)

pub returns-clause-unmapping : goal.returns-clause-unmapping
unfolding IsRun Lawful after with_tables attach_checks bind_checks close_checks detach_checks flush_checks
    hwpt_alloc_checks ioas_alloc_checks map_checks unbind_checks unmap_checks user_map_checks Answers changed settle
    without_areas attached detached number_at
returns-clause-unmapping c = (
  ((refl, refl), record { enough = refl; free = refl; different = refl; gone = refl; may = refl; rising = refl }),
  (
    (tt, record { enough = refl; free = refl; different = refl; gone = refl; may = refl; rising = refl }),
    (
      ((refl, refl), record { enough = refl; free = refl; different = refl; gone = refl; may = refl; rising = refl }),
      tt,
    ),
  ),
)

pub returns-clause-parting : goal.returns-clause-parting
unfolding IsRun Lawful after with_tables attach_checks bind_checks close_checks detach_checks flush_checks
    hwpt_alloc_checks ioas_alloc_checks map_checks unbind_checks unmap_checks user_map_checks Answers changed settle
    without_areas attached detached number_at
returns-clause-parting c = (
  (tt, record { enough = refl; free = refl; different = refl; gone = refl; may = refl; rising = refl }),
  (
    (tt, record { enough = refl; free = refl; different = refl; gone = refl; may = refl; rising = refl }),
    (
      (tt, record { enough = refl; free = refl; different = refl; gone = refl; may = refl; rising = refl }),
      tt,
    ),
  ),
)

pub returns-clause-closing : goal.returns-clause-closing
unfolding IsRun Lawful after with_tables attach_checks bind_checks close_checks detach_checks flush_checks
    hwpt_alloc_checks ioas_alloc_checks map_checks unbind_checks unmap_checks user_map_checks Answers changed settle
    without_areas attached detached number_at
returns-clause-closing c = (
  (tt, record { enough = refl; free = refl; different = refl; gone = refl; may = refl; rising = refl }),
  tt,
)
