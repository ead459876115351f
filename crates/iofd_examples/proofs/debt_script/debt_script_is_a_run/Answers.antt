use Rattle.std.proofs.Common.{refl}
use Rattle.iofd_steps.specs.After.{changed, settle, without_areas, attached, detached, joined}
use Rattle.iofd_steps.specs.Answers.{Answers}
use Rattle.iofd_refusals.specs.Checks.{allow_iovas_checks, attach_checks, bind_checks, close_checks, copy_checks}
use Rattle.iofd_refusals.specs.Checks.{destroy_checks, detach_checks, device_write_checks, flush_checks}
use Rattle.iofd_refusals.specs.Checks.{hwpt_alloc_checks}
use Rattle.iofd_refusals.specs.Checks.{ioas_alloc_checks, map_checks, unbind_checks, unmap_checks, user_map_checks}
use Rattle.iofd_refusals.specs.Checks.{user_unmap_checks, user_write_checks}
use Rattle.iofd_words.specs.Levels.{number_at}
use Rattle.iofd_words.specs.Policy.{access_outcomes, outcomes}
use Rattle.iofd_steps.specs.Run.{IsRun, Lawful, after}
use Rattle.iofd_words.specs.Tables.{with_tables}
use Rattle.iofd_examples.proofs.debt_script.debt_script_is_a_run.Goals as goal

-- each record's answer computes to be the lawful one, and its frames to be those that move
pub returns-clause-beginning : goal.returns-clause-beginning
unfolding IsRun Lawful after with_tables allow_iovas_checks attach_checks bind_checks close_checks copy_checks
    destroy_checks detach_checks device_write_checks flush_checks hwpt_alloc_checks ioas_alloc_checks map_checks
    unbind_checks unmap_checks user_map_checks user_unmap_checks user_write_checks Answers changed settle without_areas
    attached detached joined outcomes access_outcomes number_at
returns-clause-beginning c = (
  (refl, record { enough = refl; free = refl; different = refl; gone = refl; may = refl; rising = refl }),
  (
    (refl, record { enough = refl; free = refl; different = refl; gone = refl; may = refl; rising = refl }),
    (
      (refl, record { enough = refl; free = refl; different = refl; gone = refl; may = refl; rising = refl }),
      (
        (refl, record { enough = refl; free = refl; different = refl; gone = refl; may = refl; rising = refl }),
        (
          (refl, record { enough = refl; free = refl; different = refl; gone = refl; may = refl; rising = refl }),
          (
            (refl, record { enough = refl; free = refl; different = refl; gone = refl; may = refl; rising = refl }),
            (
              (refl, record { enough = refl; free = refl; different = refl; gone = refl; may = refl; rising = refl }),
              (
                (refl, record { enough = refl; free = refl; different = refl; gone = refl; may = refl; rising = refl }),
                (
                  (
                    refl,
                    record {
                      enough = refl;
                      free = refl;
                      different = refl;
                      gone = refl;
                      may = refl;
                      rising = refl;
                    },
                  ),
                  (
                    (
                      refl,
                      record {
                        enough = refl;
                        free = refl;
                        different = refl;
                        gone = refl;
                        may = refl;
                        rising = refl;
                      },
                    ),
                    (
                      (
                        refl,
                        record {
                          enough = refl;
                          free = refl;
                          different = refl;
                          gone = refl;
                          may = refl;
                          rising = refl;
                        },
                      ),
                      tt,
                    ),
                  ),
                ),
              ),
            ),
          ),
        ),
      ),
    ),
  ),
)

pub returns-clause-parting : goal.returns-clause-parting
unfolding IsRun Lawful after with_tables allow_iovas_checks attach_checks bind_checks close_checks copy_checks
    destroy_checks detach_checks device_write_checks flush_checks hwpt_alloc_checks ioas_alloc_checks map_checks
    unbind_checks unmap_checks user_map_checks user_unmap_checks user_write_checks Answers changed settle without_areas
    attached detached joined outcomes access_outcomes number_at
returns-clause-parting c = (
  (tt, record { enough = refl; free = refl; different = refl; gone = refl; may = refl; rising = refl }),
  tt,
)

pub returns-clause-first_leaves : goal.returns-clause-first_leaves
unfolding IsRun Lawful after with_tables allow_iovas_checks attach_checks bind_checks close_checks copy_checks
    destroy_checks detach_checks device_write_checks flush_checks hwpt_alloc_checks ioas_alloc_checks map_checks
    unbind_checks unmap_checks user_map_checks user_unmap_checks user_write_checks Answers changed settle without_areas
    attached detached joined outcomes access_outcomes number_at
returns-clause-first_leaves c = (
  ((refl, refl), record { enough = refl; free = refl; different = refl; gone = refl; may = refl; rising = refl }),
  tt,
)

pub returns-clause-detaching : goal.returns-clause-detaching
unfolding IsRun Lawful after with_tables allow_iovas_checks attach_checks bind_checks close_checks copy_checks
    destroy_checks detach_checks device_write_checks flush_checks hwpt_alloc_checks ioas_alloc_checks map_checks
    unbind_checks unmap_checks user_map_checks user_unmap_checks user_write_checks Answers changed settle without_areas
    attached detached joined outcomes access_outcomes number_at
returns-clause-detaching c = (
  (tt, record { enough = refl; free = refl; different = refl; gone = refl; may = refl; rising = refl }),
  tt,
)

pub returns-clause-both_leave : goal.returns-clause-both_leave
unfolding IsRun Lawful after with_tables allow_iovas_checks attach_checks bind_checks close_checks copy_checks
    destroy_checks detach_checks device_write_checks flush_checks hwpt_alloc_checks ioas_alloc_checks map_checks
    unbind_checks unmap_checks user_map_checks user_unmap_checks user_write_checks Answers changed settle without_areas
    attached detached joined outcomes access_outcomes number_at
returns-clause-both_leave c = (
  ((refl, refl), record { enough = refl; free = refl; different = refl; gone = refl; may = refl; rising = refl }),
  tt,
)

pub returns-clause-paying : goal.returns-clause-paying
unfolding IsRun Lawful after with_tables allow_iovas_checks attach_checks bind_checks close_checks copy_checks
    destroy_checks detach_checks device_write_checks flush_checks hwpt_alloc_checks ioas_alloc_checks map_checks
    unbind_checks unmap_checks user_map_checks user_unmap_checks user_write_checks Answers changed settle without_areas
    attached detached joined outcomes access_outcomes number_at
returns-clause-paying c = (
  (tt, record { enough = refl; free = refl; different = refl; gone = refl; may = refl; rising = refl }),
  (
    (refl, record { enough = refl; free = refl; different = refl; gone = refl; may = refl; rising = refl }),
    (
      ((refl, refl), record { enough = refl; free = refl; different = refl; gone = refl; may = refl; rising = refl }),
      tt,
    ),
  ),
)

pub returns-clause-last_flush : goal.returns-clause-last_flush
unfolding IsRun Lawful after with_tables allow_iovas_checks attach_checks bind_checks close_checks copy_checks
    destroy_checks detach_checks device_write_checks flush_checks hwpt_alloc_checks ioas_alloc_checks map_checks
    unbind_checks unmap_checks user_map_checks user_unmap_checks user_write_checks Answers changed settle without_areas
    attached detached joined outcomes access_outcomes number_at
returns-clause-last_flush c = (
  (tt, record { enough = refl; free = refl; different = refl; gone = refl; may = refl; rising = refl }),
  tt,
)

pub returns-clause-everything_goes : goal.returns-clause-everything_goes
unfolding IsRun Lawful after with_tables allow_iovas_checks attach_checks bind_checks close_checks copy_checks
    destroy_checks detach_checks device_write_checks flush_checks hwpt_alloc_checks ioas_alloc_checks map_checks
    unbind_checks unmap_checks user_map_checks user_unmap_checks user_write_checks Answers changed settle without_areas
    attached detached joined outcomes access_outcomes number_at
returns-clause-everything_goes c = (
  ((refl, refl), record { enough = refl; free = refl; different = refl; gone = refl; may = refl; rising = refl }),
  tt,
)

pub returns-clause-attaching : goal.returns-clause-attaching
unfolding IsRun Lawful after with_tables allow_iovas_checks attach_checks bind_checks close_checks copy_checks
    destroy_checks detach_checks device_write_checks flush_checks hwpt_alloc_checks ioas_alloc_checks map_checks
    unbind_checks unmap_checks user_map_checks user_unmap_checks user_write_checks Answers changed settle without_areas
    attached detached joined outcomes access_outcomes number_at
returns-clause-attaching c = (
  (refl, record { enough = refl; free = refl; different = refl; gone = refl; may = refl; rising = refl }),
  tt,
)

pub returns-clause-joining : goal.returns-clause-joining
unfolding IsRun Lawful after with_tables allow_iovas_checks attach_checks bind_checks close_checks copy_checks
    destroy_checks detach_checks device_write_checks flush_checks hwpt_alloc_checks ioas_alloc_checks map_checks
    unbind_checks unmap_checks user_map_checks user_unmap_checks user_write_checks Answers changed settle without_areas
    attached detached joined outcomes access_outcomes number_at
returns-clause-joining c = (
  (refl, record { enough = refl; free = refl; different = refl; gone = refl; may = refl; rising = refl }),
  tt,
)
