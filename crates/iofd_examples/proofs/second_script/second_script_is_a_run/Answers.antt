use Rattle.std.proofs.Common.{refl, arith}
use Rattle.iofd_steps.specs.After.{changed, settle, without_areas, attached, detached, joined}
use Rattle.iofd_steps.specs.Answers.{Answers}
use Rattle.iofd_refusals.specs.Checks.{allow_iovas_checks, attach_checks, bind_checks, close_checks, copy_checks}
use Rattle.iofd_refusals.specs.Checks.{destroy_checks, detach_checks, device_write_checks, flush_checks}
use Rattle.iofd_refusals.specs.Checks.{hwpt_alloc_checks}
use Rattle.iofd_refusals.specs.Checks.{ioas_alloc_checks, map_checks, unbind_checks, unmap_checks, user_map_checks}
use Rattle.iofd_refusals.specs.Checks.{user_unmap_checks, user_write_checks}
use Rattle.iofd_words.specs.Levels.{number_at}
use Rattle.iofd_words.specs.Policy.{access_outcomes, outcomes}
use Rattle.iofd_steps.specs.Run.{IsRun, Lawful, after}
use Rattle.iofd_words.specs.Tables.{with_tables}
use Rattle.iofd_examples.proofs.second_script.second_script_is_a_run.Goals as goal

-- each record's answer computes to be the lawful one, and its frames to be those that move
pub returns-clause-beginning : goal.returns-clause-beginning
unfolding IsRun Lawful after with_tables allow_iovas_checks attach_checks bind_checks close_checks copy_checks
    destroy_checks detach_checks device_write_checks flush_checks hwpt_alloc_checks ioas_alloc_checks map_checks
    unbind_checks unmap_checks user_map_checks user_unmap_checks user_write_checks Answers changed settle without_areas
    attached detached joined outcomes access_outcomes number_at
returns-clause-beginning c = (
  (refl, record { enough = refl; free = refl; different = refl; gone = refl; may = refl; rising = refl }),
  (
    (refl, record { enough = refl; free = refl; different = refl; gone = refl; may = refl; rising = refl }),
    (
      (refl, record { enough = refl; free = refl; different = refl; gone = refl; may = refl; rising = refl }),
      (
        (refl, record { enough = refl; free = refl; different = refl; gone = refl; may = refl; rising = refl }),
        (
          (tt, record { enough = refl; free = refl; different = refl; gone = refl; may = refl; rising = refl }),
          (
            (tt, record { enough = refl; free = refl; different = refl; gone = refl; may = refl; rising = refl }),
            (
              (tt, record { enough = refl; free = refl; different = refl; gone = refl; may = refl; rising = refl }),
              (
                (tt, record { enough = refl; free = refl; different = refl; gone = refl; may = refl; rising = refl }),
                (
                  (
                    refl,
                    record {
                      enough = refl;
                      free = refl;
                      different = refl;
                      gone = refl;
                      may = refl;
                      rising = refl;
                    },
                  ),
                  (
                    (
                      refl,
                      record {
                        enough = refl;
                        free = refl;
                        different = refl;
                        gone = refl;
                        may = refl;
                        rising = refl;
                      },
                    ),
                    (
                      (
                        refl,
                        record {
                          enough = refl;
                          free = refl;
                          different = refl;
                          gone = refl;
                          may = refl;
                          rising = refl;
                        },
                      ),
                      (
                        (
                          refl,
                          record {
                            enough = refl;
                            free = refl;
                            different = refl;
                            gone = refl;
                            may = refl;
                            rising = refl;
                          },
                        ),
                        tt,
                      ),
                    ),
                  ),
                ),
              ),
            ),
          ),
        ),
      ),
    ),
  ),
)

pub returns-clause-attaching : goal.returns-clause-attaching
unfolding IsRun Lawful after with_tables allow_iovas_checks attach_checks bind_checks close_checks copy_checks
    destroy_checks detach_checks device_write_checks flush_checks hwpt_alloc_checks ioas_alloc_checks map_checks
    unbind_checks unmap_checks user_map_checks user_unmap_checks user_write_checks Answers changed settle without_areas
    attached detached joined outcomes access_outcomes number_at
returns-clause-attaching c = (
  (refl, record { enough = refl; free = refl; different = refl; gone = refl; may = refl; rising = refl }),
  (
    (refl, record { enough = refl; free = refl; different = refl; gone = refl; may = refl; rising = refl }),
    (
      (refl, record { enough = refl; free = refl; different = refl; gone = refl; may = refl; rising = refl }),
      (
        (refl, record { enough = refl; free = refl; different = refl; gone = refl; may = refl; rising = refl }),
        tt,
      ),
    ),
  ),
)

pub returns-clause-renewing : goal.returns-clause-renewing
unfolding IsRun Lawful after with_tables allow_iovas_checks attach_checks bind_checks close_checks copy_checks
    destroy_checks detach_checks device_write_checks flush_checks hwpt_alloc_checks ioas_alloc_checks map_checks
    unbind_checks unmap_checks user_map_checks user_unmap_checks user_write_checks Answers changed settle without_areas
    attached detached joined outcomes access_outcomes number_at
returns-clause-renewing c = (
  (tt, record { enough = refl; free = refl; different = refl; gone = refl; may = refl; rising = refl }),
  (
    (refl, record { enough = refl; free = refl; different = refl; gone = refl; may = refl; rising = refl }),
    (
      (
        (0, omega arith, refl),
        record {
          enough = refl;
          free = refl;
          different = refl;
          gone = refl;
          may = refl;
          rising = refl;
        },
      ),
      (
        (tt, record { enough = refl; free = refl; different = refl; gone = refl; may = refl; rising = refl }),
        tt,
      ),
    ),
  ),
)

pub returns-clause-rewriting : goal.returns-clause-rewriting
unfolding IsRun Lawful after with_tables allow_iovas_checks attach_checks bind_checks close_checks copy_checks
    destroy_checks detach_checks device_write_checks flush_checks hwpt_alloc_checks ioas_alloc_checks map_checks
    unbind_checks unmap_checks user_map_checks user_unmap_checks user_write_checks Answers changed settle without_areas
    attached detached joined outcomes access_outcomes number_at
returns-clause-rewriting c = (
  (tt, record { enough = refl; free = refl; different = refl; gone = refl; may = refl; rising = refl }),
  (
    (tt, record { enough = refl; free = refl; different = refl; gone = refl; may = refl; rising = refl }),
    tt,
  ),
)

pub returns-clause-sharing : goal.returns-clause-sharing
unfolding IsRun Lawful after with_tables allow_iovas_checks attach_checks bind_checks close_checks copy_checks
    destroy_checks detach_checks device_write_checks flush_checks hwpt_alloc_checks ioas_alloc_checks map_checks
    unbind_checks unmap_checks user_map_checks user_unmap_checks user_write_checks Answers changed settle without_areas
    attached detached joined outcomes access_outcomes number_at
returns-clause-sharing c = (
  (refl, record { enough = refl; free = refl; different = refl; gone = refl; may = refl; rising = refl }),
  (
    (refl, record { enough = refl; free = refl; different = refl; gone = refl; may = refl; rising = refl }),
    (
      (tt, record { enough = refl; free = refl; different = refl; gone = refl; may = refl; rising = refl }),
      (
        (refl, record { enough = refl; free = refl; different = refl; gone = refl; may = refl; rising = refl }),
        (
          (refl, record { enough = refl; free = refl; different = refl; gone = refl; may = refl; rising = refl }),
          (
            (refl, record { enough = refl; free = refl; different = refl; gone = refl; may = refl; rising = refl }),
            (
              (refl, record { enough = refl; free = refl; different = refl; gone = refl; may = refl; rising = refl }),
              (
                (refl, record { enough = refl; free = refl; different = refl; gone = refl; may = refl; rising = refl }),
                (
                  (tt, record { enough = refl; free = refl; different = refl; gone = refl; may = refl; rising = refl }),
                  (
                    (
                      refl,
                      record {
                        enough = refl;
                        free = refl;
                        different = refl;
                        gone = refl;
                        may = refl;
                        rising = refl;
                      },
                    ),
                    tt,
                  ),
                ),
              ),
            ),
          ),
        ),
      ),
    ),
  ),
)

pub returns-clause-unmapping : goal.returns-clause-unmapping
unfolding IsRun Lawful after with_tables allow_iovas_checks attach_checks bind_checks close_checks copy_checks
    destroy_checks detach_checks device_write_checks flush_checks hwpt_alloc_checks ioas_alloc_checks map_checks
    unbind_checks unmap_checks user_map_checks user_unmap_checks user_write_checks Answers changed settle without_areas
    attached detached joined outcomes access_outcomes number_at
returns-clause-unmapping c = (
  ((refl, refl), record { enough = refl; free = refl; different = refl; gone = refl; may = refl; rising = refl }),
  (
    (
      (0, omega arith, refl),
      record {
        enough = refl;
        free = refl;
        different = refl;
        gone = refl;
        may = refl;
        rising = refl;
      },
    ),
    tt,
  ),
)

pub returns-clause-denying : goal.returns-clause-denying
unfolding IsRun Lawful after with_tables allow_iovas_checks attach_checks bind_checks close_checks copy_checks
    destroy_checks detach_checks device_write_checks flush_checks hwpt_alloc_checks ioas_alloc_checks map_checks
    unbind_checks unmap_checks user_map_checks user_unmap_checks user_write_checks Answers changed settle without_areas
    attached detached joined outcomes access_outcomes number_at
returns-clause-denying c = (
  (
    (1, omega arith, refl),
    record {
      enough = refl;
      free = refl;
      different = refl;
      gone = refl;
      may = refl;
      rising = refl;
    },
  ),
  (
    (
      (0, omega arith, refl),
      record {
        enough = refl;
        free = refl;
        different = refl;
        gone = refl;
        may = refl;
        rising = refl;
      },
    ),
    tt,
  ),
)

pub returns-clause-flushing : goal.returns-clause-flushing
unfolding IsRun Lawful after with_tables allow_iovas_checks attach_checks bind_checks close_checks copy_checks
    destroy_checks detach_checks device_write_checks flush_checks hwpt_alloc_checks ioas_alloc_checks map_checks
    unbind_checks unmap_checks user_map_checks user_unmap_checks user_write_checks Answers changed settle without_areas
    attached detached joined outcomes access_outcomes number_at
returns-clause-flushing c = (
  (tt, record { enough = refl; free = refl; different = refl; gone = refl; may = refl; rising = refl }),
  tt,
)

pub returns-clause-ending : goal.returns-clause-ending
unfolding IsRun Lawful after with_tables allow_iovas_checks attach_checks bind_checks close_checks copy_checks
    destroy_checks detach_checks device_write_checks flush_checks hwpt_alloc_checks ioas_alloc_checks map_checks
    unbind_checks unmap_checks user_map_checks user_unmap_checks user_write_checks Answers changed settle without_areas
    attached detached joined outcomes access_outcomes number_at
returns-clause-ending c = (
  ((refl, refl), record { enough = refl; free = refl; different = refl; gone = refl; may = refl; rising = refl }),
  (
    (refl, record { enough = refl; free = refl; different = refl; gone = refl; may = refl; rising = refl }),
    (
      (tt, record { enough = refl; free = refl; different = refl; gone = refl; may = refl; rising = refl }),
      (
        (refl, record { enough = refl; free = refl; different = refl; gone = refl; may = refl; rising = refl }),
        tt,
      ),
    ),
  ),
)

pub returns-clause-copying : goal.returns-clause-copying
unfolding IsRun Lawful after with_tables allow_iovas_checks attach_checks bind_checks close_checks copy_checks
    destroy_checks detach_checks device_write_checks flush_checks hwpt_alloc_checks ioas_alloc_checks map_checks
    unbind_checks unmap_checks user_map_checks user_unmap_checks user_write_checks Answers changed settle without_areas
    attached detached joined outcomes access_outcomes number_at
returns-clause-copying c = (
  (refl, record { enough = refl; free = refl; different = refl; gone = refl; may = refl; rising = refl }),
  tt,
)

pub returns-clause-closing : goal.returns-clause-closing
unfolding IsRun Lawful after with_tables allow_iovas_checks attach_checks bind_checks close_checks copy_checks
    destroy_checks detach_checks device_write_checks flush_checks hwpt_alloc_checks ioas_alloc_checks map_checks
    unbind_checks unmap_checks user_map_checks user_unmap_checks user_write_checks Answers changed settle without_areas
    attached detached joined outcomes access_outcomes number_at
returns-clause-closing c = (
  ((refl, refl), record { enough = refl; free = refl; different = refl; gone = refl; may = refl; rising = refl }),
  (
    (refl, record { enough = refl; free = refl; different = refl; gone = refl; may = refl; rising = refl }),
    (
      (tt, record { enough = refl; free = refl; different = refl; gone = refl; may = refl; rising = refl }),
      (
        (tt, record { enough = refl; free = refl; different = refl; gone = refl; may = refl; rising = refl }),
        (
          (tt, record { enough = refl; free = refl; different = refl; gone = refl; may = refl; rising = refl }),
          tt,
        ),
      ),
    ),
  ),
)

pub returns-clause-destroying : goal.returns-clause-destroying
unfolding IsRun Lawful after with_tables allow_iovas_checks attach_checks bind_checks close_checks copy_checks
    destroy_checks detach_checks device_write_checks flush_checks hwpt_alloc_checks ioas_alloc_checks map_checks
    unbind_checks unmap_checks user_map_checks user_unmap_checks user_write_checks Answers changed settle without_areas
    attached detached joined outcomes access_outcomes number_at
returns-clause-destroying c = (
  (tt, record { enough = refl; free = refl; different = refl; gone = refl; may = refl; rising = refl }),
  tt,
)

pub returns-clause-parting : goal.returns-clause-parting
unfolding IsRun Lawful after with_tables allow_iovas_checks attach_checks bind_checks close_checks copy_checks
    destroy_checks detach_checks device_write_checks flush_checks hwpt_alloc_checks ioas_alloc_checks map_checks
    unbind_checks unmap_checks user_map_checks user_unmap_checks user_write_checks Answers changed settle without_areas
    attached detached joined outcomes access_outcomes number_at
returns-clause-parting c = (
  (tt, record { enough = refl; free = refl; different = refl; gone = refl; may = refl; rising = refl }),
  (
    (tt, record { enough = refl; free = refl; different = refl; gone = refl; may = refl; rising = refl }),
    (
      (tt, record { enough = refl; free = refl; different = refl; gone = refl; may = refl; rising = refl }),
      (
        (tt, record { enough = refl; free = refl; different = refl; gone = refl; may = refl; rising = refl }),
        (
          (refl, record { enough = refl; free = refl; different = refl; gone = refl; may = refl; rising = refl }),
          tt,
        ),
      ),
    ),
  ),
)
