use Rattle.iofd_refusals.specs.Checks.{attach_checks, bind_checks, close_checks, destroy_checks, detach_checks}
use Rattle.iofd_refusals.specs.Checks.{device_write_checks, flush_checks, ioas_alloc_checks, map_checks, unmap_checks}
use Rattle.iofd_refusals.specs.Checks.{user_map_checks}
use Rattle.iofd_words.specs.Levels.{number_at}
use Rattle.iofd_words.specs.Tables.{with_tables}
use Rattle.std.proofs.Common.{refl, arith}
use Rattle.iofd_steps.specs.After.{changed, settle, without_areas, attached, detached}
use Rattle.iofd_steps.specs.Answers.{Answers}
use Rattle.iofd_words.specs.Policy.{access_outcomes, outcomes}
use Rattle.iofd_steps.specs.Run.{IsRun, Lawful, after}
use Rattle.iofd_examples.proofs.first_script.worked_script_is_a_run.Goals as goal

-- each record's answer computes to be the lawful one, and its frames to be those that move
pub returns : goal.returns
unfolding IsRun Lawful after with_tables ioas_alloc_checks map_checks unmap_checks destroy_checks close_checks
    user_map_checks bind_checks attach_checks detach_checks flush_checks device_write_checks Answers changed settle
    without_areas attached detached outcomes access_outcomes number_at
returns c = (
  (refl, record { enough = refl; free = refl; different = refl; gone = refl; may = refl; rising = refl }),
  (
    (refl, record { enough = refl; free = refl; different = refl; gone = refl; may = refl; rising = refl }),
    (
      (refl, record { enough = refl; free = refl; different = refl; gone = refl; may = refl; rising = refl }),
      (
        (refl, record { enough = refl; free = refl; different = refl; gone = refl; may = refl; rising = refl }),
        (
          (refl, record { enough = refl; free = refl; different = refl; gone = refl; may = refl; rising = refl }),
          (
            (refl, record { enough = refl; free = refl; different = refl; gone = refl; may = refl; rising = refl }),
            (
              (
                (0, omega arith, refl),
                record {
                  enough = refl;
                  free = refl;
                  different = refl;
                  gone = refl;
                  may = refl;
                  rising = refl;
                },
              ),
              (
                (
                  (refl, refl),
                  record {
                    enough = refl;
                    free = refl;
                    different = refl;
                    gone = refl;
                    may = refl;
                    rising = refl;
                  },
                ),
                (
                  (tt, record { enough = refl; free = refl; different = refl; gone = refl; may = refl; rising = refl }),
                  (
                    (
                      (refl, refl),
                      record {
                        enough = refl;
                        free = refl;
                        different = refl;
                        gone = refl;
                        may = refl;
                        rising = refl;
                      },
                    ),
                    (
                      (refl, (refl, refl)),
                      (
                        (
                          tt,
                          record {
                            enough = refl;
                            free = refl;
                            different = refl;
                            gone = refl;
                            may = refl;
                            rising = refl;
                          },
                        ),
                        (
                          (refl, (refl, refl)),
                          (
                            (refl, (refl, refl)),
                            (
                              (
                                tt,
                                record {
                                  enough = refl;
                                  free = refl;
                                  different = refl;
                                  gone = refl;
                                  may = refl;
                                  rising = refl;
                                },
                              ),
                              (
                                (
                                  tt,
                                  record {
                                    enough = refl;
                                    free = refl;
                                    different = refl;
                                    gone = refl;
                                    may = refl;
                                    rising = refl;
                                  },
                                ),
                                tt,
                              ),
                            ),
                          ),
                        ),
                      ),
                    ),
                  ),
                ),
              ),
            ),
          ),
        ),
      ),
    ),
  ),
)
