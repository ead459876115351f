use Rattle.std.proofs.Common.{refl}
use Rattle.iofd_steps.specs.After.{changed, settle, without_areas, attached, detached, joined}
use Rattle.iofd_steps.specs.Answers.{Answers}
use Rattle.iofd_refusals.specs.Checks.{allow_iovas_checks, attach_checks, bind_checks, close_checks, copy_checks}
use Rattle.iofd_refusals.specs.Checks.{destroy_checks, detach_checks, device_write_checks, flush_checks}
use Rattle.iofd_refusals.specs.Checks.{hwpt_alloc_checks}
use Rattle.iofd_refusals.specs.Checks.{ioas_alloc_checks, map_checks, unbind_checks, unmap_checks, user_map_checks}
use Rattle.iofd_refusals.specs.Checks.{user_unmap_checks, user_write_checks}
use Rattle.iofd_words.specs.Levels.{number_at}
use Rattle.iofd_words.specs.Policy.{access_outcomes, outcomes}
use Rattle.iofd_steps.specs.Run.{IsRun, Lawful, after}
use Rattle.iofd_words.specs.Tables.{with_tables}
use Rattle.iofd_examples.proofs.ready_world.ready_world_is_reached.Goals as goal

-- each record's answer computes to be the lawful one, and its frames to be those that move
pub returns-clause-objects : goal.returns-clause-objects
unfolding IsRun Lawful after with_tables allow_iovas_checks attach_checks bind_checks close_checks copy_checks
    destroy_checks detach_checks device_write_checks flush_checks hwpt_alloc_checks ioas_alloc_checks map_checks
    unbind_checks unmap_checks user_map_checks user_unmap_checks user_write_checks Answers changed settle without_areas
    attached detached joined outcomes access_outcomes number_at
returns-clause-objects c = (
  (refl, record { enough = refl; free = refl; different = refl; gone = refl; may = refl; rising = refl }),
  (
    (refl, record { enough = refl; free = refl; different = refl; gone = refl; may = refl; rising = refl }),
    (
      (refl, record { enough = refl; free = refl; different = refl; gone = refl; may = refl; rising = refl }),
      (
        (refl, record { enough = refl; free = refl; different = refl; gone = refl; may = refl; rising = refl }),
        (
          (refl, record { enough = refl; free = refl; different = refl; gone = refl; may = refl; rising = refl }),
          (
            (refl, record { enough = refl; free = refl; different = refl; gone = refl; may = refl; rising = refl }),
            (
              (refl, record { enough = refl; free = refl; different = refl; gone = refl; may = refl; rising = refl }),
              (
                (refl, record { enough = refl; free = refl; different = refl; gone = refl; may = refl; rising = refl }),
                (
                  (
                    refl,
                    record {
                      enough = refl;
                      free = refl;
                      different = refl;
                      gone = refl;
                      may = refl;
                      rising = refl;
                    },
                  ),
                  (
                    (
                      refl,
                      record {
                        enough = refl;
                        free = refl;
                        different = refl;
                        gone = refl;
                        may = refl;
                        rising = refl;
                      },
                    ),
                    (
                      (
                        refl,
                        record {
                          enough = refl;
                          free = refl;
                          different = refl;
                          gone = refl;
                          may = refl;
                          rising = refl;
                        },
                      ),
                      (
                        (
                          refl,
                          record {
                            enough = refl;
                            free = refl;
                            different = refl;
                            gone = refl;
                            may = refl;
                            rising = refl;
                          },
                        ),
                        (
                          (
                            refl,
                            record {
                              enough = refl;
                              free = refl;
                              different = refl;
                              gone = refl;
                              may = refl;
                              rising = refl;
                            },
                          ),
                          (
                            (
                              refl,
                              record {
                                enough = refl;
                                free = refl;
                                different = refl;
                                gone = refl;
                                may = refl;
                                rising = refl;
                              },
                            ),
                            (
                              (
                                refl,
                                record {
                                  enough = refl;
                                  free = refl;
                                  different = refl;
                                  gone = refl;
                                  may = refl;
                                  rising = refl;
                                },
                              ),
                              (
                                (
                                  refl,
                                  record {
                                    enough = refl;
                                    free = refl;
                                    different = refl;
                                    gone = refl;
                                    may = refl;
                                    rising = refl;
                                  },
                                ),
                                (
                                  (
                                    refl,
                                    record {
                                      enough = refl;
                                      free = refl;
                                      different = refl;
                                      gone = refl;
                                      may = refl;
                                      rising = refl;
                                    },
                                  ),
                                  (
                                    (
                                      refl,
                                      record {
                                        enough = refl;
                                        free = refl;
                                        different = refl;
                                        gone = refl;
                                        may = refl;
                                        rising = refl;
                                      },
                                    ),
                                    tt,
                                  ),
                                ),
                              ),
                            ),
                          ),
                        ),
                      ),
                    ),
                  ),
                ),
              ),
            ),
          ),
        ),
      ),
    ),
  ),
)

pub returns-clause-areas : goal.returns-clause-areas
unfolding IsRun Lawful after with_tables allow_iovas_checks attach_checks bind_checks close_checks copy_checks
    destroy_checks detach_checks device_write_checks flush_checks hwpt_alloc_checks ioas_alloc_checks map_checks
    unbind_checks unmap_checks user_map_checks user_unmap_checks user_write_checks Answers changed settle without_areas
    attached detached joined outcomes access_outcomes number_at
returns-clause-areas c = (
  (refl, record { enough = refl; free = refl; different = refl; gone = refl; may = refl; rising = refl }),
  (
    (refl, record { enough = refl; free = refl; different = refl; gone = refl; may = refl; rising = refl }),
    (
      (refl, record { enough = refl; free = refl; different = refl; gone = refl; may = refl; rising = refl }),
      (
        (refl, record { enough = refl; free = refl; different = refl; gone = refl; may = refl; rising = refl }),
        (
          (refl, record { enough = refl; free = refl; different = refl; gone = refl; may = refl; rising = refl }),
          (
            (tt, record { enough = refl; free = refl; different = refl; gone = refl; may = refl; rising = refl }),
            (
              (tt, record { enough = refl; free = refl; different = refl; gone = refl; may = refl; rising = refl }),
              (
                (refl, record { enough = refl; free = refl; different = refl; gone = refl; may = refl; rising = refl }),
                (
                  (
                    refl,
                    record {
                      enough = refl;
                      free = refl;
                      different = refl;
                      gone = refl;
                      may = refl;
                      rising = refl;
                    },
                  ),
                  (
                    (
                      refl,
                      record {
                        enough = refl;
                        free = refl;
                        different = refl;
                        gone = refl;
                        may = refl;
                        rising = refl;
                      },
                    ),
                    (
                      (
                        tt,
                        record {
                          enough = refl;
                          free = refl;
                          different = refl;
                          gone = refl;
                          may = refl;
                          rising = refl;
                        },
                      ),
                      tt,
                    ),
                  ),
                ),
              ),
            ),
          ),
        ),
      ),
    ),
  ),
)

pub returns-clause-page_tables : goal.returns-clause-page_tables
unfolding IsRun Lawful after with_tables allow_iovas_checks attach_checks bind_checks close_checks copy_checks
    destroy_checks detach_checks device_write_checks flush_checks hwpt_alloc_checks ioas_alloc_checks map_checks
    unbind_checks unmap_checks user_map_checks user_unmap_checks user_write_checks Answers changed settle without_areas
    attached detached joined outcomes access_outcomes number_at
returns-clause-page_tables c = (
  (refl, record { enough = refl; free = refl; different = refl; gone = refl; may = refl; rising = refl }),
  (
    (refl, record { enough = refl; free = refl; different = refl; gone = refl; may = refl; rising = refl }),
    (
      (refl, record { enough = refl; free = refl; different = refl; gone = refl; may = refl; rising = refl }),
      (
        (refl, record { enough = refl; free = refl; different = refl; gone = refl; may = refl; rising = refl }),
        (
          (refl, record { enough = refl; free = refl; different = refl; gone = refl; may = refl; rising = refl }),
          (
            (refl, record { enough = refl; free = refl; different = refl; gone = refl; may = refl; rising = refl }),
            (
              (refl, record { enough = refl; free = refl; different = refl; gone = refl; may = refl; rising = refl }),
              (
                (refl, record { enough = refl; free = refl; different = refl; gone = refl; may = refl; rising = refl }),
                (
                  (
                    refl,
                    record {
                      enough = refl;
                      free = refl;
                      different = refl;
                      gone = refl;
                      may = refl;
                      rising = refl;
                    },
                  ),
                  (
                    (
                      refl,
                      record {
                        enough = refl;
                        free = refl;
                        different = refl;
                        gone = refl;
                        may = refl;
                        rising = refl;
                      },
                    ),
                    (
                      (
                        refl,
                        record {
                          enough = refl;
                          free = refl;
                          different = refl;
                          gone = refl;
                          may = refl;
                          rising = refl;
                        },
                      ),
                      (
                        (
                          refl,
                          record {
                            enough = refl;
                            free = refl;
                            different = refl;
                            gone = refl;
                            may = refl;
                            rising = refl;
                          },
                        ),
                        tt,
                      ),
                    ),
                  ),
                ),
              ),
            ),
          ),
        ),
      ),
    ),
  ),
)

pub returns-clause-allocating : goal.returns-clause-allocating
unfolding IsRun Lawful after with_tables allow_iovas_checks attach_checks bind_checks close_checks copy_checks
    destroy_checks detach_checks device_write_checks flush_checks hwpt_alloc_checks ioas_alloc_checks map_checks
    unbind_checks unmap_checks user_map_checks user_unmap_checks user_write_checks Answers changed settle without_areas
    attached detached joined outcomes access_outcomes number_at
returns-clause-allocating c = (
  (refl, record { enough = refl; free = refl; different = refl; gone = refl; may = refl; rising = refl }),
  tt,
)
