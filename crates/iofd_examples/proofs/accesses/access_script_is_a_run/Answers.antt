use Rattle.std.proofs.Common.{refl}
use Rattle.iofd_steps.specs.After.{changed, settle, without_areas}
use Rattle.iofd_steps.specs.Answers.{Answers}
use Rattle.iofd_refusals.specs.Checks.{access_create_checks, access_attach_checks, access_detach_checks}
use Rattle.iofd_refusals.specs.Checks.{bind_checks, close_checks, destroy_checks, ioas_alloc_checks, map_checks}
use Rattle.iofd_refusals.specs.Checks.{unmap_checks, user_map_checks}
use Rattle.iofd_words.specs.Levels.{number_at}
use Rattle.iofd_steps.specs.Run.{IsRun, Lawful, after}
use Rattle.iofd_words.specs.Tables.{with_tables}
use Rattle.iofd_examples.proofs.accesses.access_script_is_a_run.Goals as goal

pub returns-clause-beginning : goal.returns-clause-beginning
unfolding IsRun Lawful after with_tables access_create_checks access_attach_checks access_detach_checks bind_checks
    close_checks destroy_checks ioas_alloc_checks map_checks unmap_checks user_map_checks Answers changed settle
    without_areas number_at
returns-clause-beginning c = (
  (refl, record { enough = refl; free = refl; different = refl; gone = refl; may = refl; rising = refl }),
  (
    (refl, record { enough = refl; free = refl; different = refl; gone = refl; may = refl; rising = refl }),
    (
      (refl, record { enough = refl; free = refl; different = refl; gone = refl; may = refl; rising = refl }),
      (
        (refl, record { enough = refl; free = refl; different = refl; gone = refl; may = refl; rising = refl }),
        (
          (refl, record { enough = refl; free = refl; different = refl; gone = refl; may = refl; rising = refl }),
          (
            (refl, record { enough = refl; free = refl; different = refl; gone = refl; may = refl; rising = refl }),
            (
              (refl, record { enough = refl; free = refl; different = refl; gone = refl; may = refl; rising = refl }),
              (
                (refl, record { enough = refl; free = refl; different = refl; gone = refl; may = refl; rising = refl }),
                (
                  (tt, record { enough = refl; free = refl; different = refl; gone = refl; may = refl; rising = refl }),
                  (
                    (
                      tt,
                      record {
                        enough = refl;
                        free = refl;
                        different = refl;
                        gone = refl;
                        may = refl;
                        rising = refl;
                      },
                    ),
                    tt,
                  ),
                ),
              ),
            ),
          ),
        ),
      ),
    ),
  ),
)

pub returns-clause-mapping : goal.returns-clause-mapping
unfolding IsRun Lawful after with_tables access_create_checks access_attach_checks access_detach_checks bind_checks
    close_checks destroy_checks ioas_alloc_checks map_checks unmap_checks user_map_checks Answers changed settle
    without_areas number_at
returns-clause-mapping c = (
  (refl, record { enough = refl; free = refl; different = refl; gone = refl; may = refl; rising = refl }),
  (
    (refl, record { enough = refl; free = refl; different = refl; gone = refl; may = refl; rising = refl }),
    (
      (refl, record { enough = refl; free = refl; different = refl; gone = refl; may = refl; rising = refl }),
      tt,
    ),
  ),
)

pub returns-clause-unmapping : goal.returns-clause-unmapping
unfolding IsRun Lawful after with_tables access_create_checks access_attach_checks access_detach_checks bind_checks
    close_checks destroy_checks ioas_alloc_checks map_checks unmap_checks user_map_checks Answers changed settle
    without_areas number_at
returns-clause-unmapping c = (
  ((refl, refl), record { enough = refl; free = refl; different = refl; gone = refl; may = refl; rising = refl }),
  tt,
)

pub returns-clause-changing : goal.returns-clause-changing
unfolding IsRun Lawful after with_tables access_create_checks access_attach_checks access_detach_checks bind_checks
    close_checks destroy_checks ioas_alloc_checks map_checks unmap_checks user_map_checks Answers changed settle
    without_areas number_at
returns-clause-changing c = (
  (tt, record { enough = refl; free = refl; different = refl; gone = refl; may = refl; rising = refl }),
  (
    (tt, record { enough = refl; free = refl; different = refl; gone = refl; may = refl; rising = refl }),
    (
      (tt, record { enough = refl; free = refl; different = refl; gone = refl; may = refl; rising = refl }),
      (
        (tt, record { enough = refl; free = refl; different = refl; gone = refl; may = refl; rising = refl }),
        (
          (tt, record { enough = refl; free = refl; different = refl; gone = refl; may = refl; rising = refl }),
          (
            (tt, record { enough = refl; free = refl; different = refl; gone = refl; may = refl; rising = refl }),
            (
              (tt, record { enough = refl; free = refl; different = refl; gone = refl; may = refl; rising = refl }),
              (
                (tt, record { enough = refl; free = refl; different = refl; gone = refl; may = refl; rising = refl }),
                tt,
              ),
            ),
          ),
        ),
      ),
    ),
  ),
)
