use Rattle.std.proofs.Common.{refl}
use Rattle.iofd_steps.specs.After.{changed, settle, without_areas}
use Rattle.iofd_steps.specs.Answers.{Answers}
use Rattle.iofd_refusals.specs.Checks.{access_attach_checks, access_create_checks, access_detach_checks}
use Rattle.iofd_refusals.specs.Checks.{access_pin_checks, access_unpin_checks, access_write_checks, bind_checks}
use Rattle.iofd_refusals.specs.Checks.{copy_checks, destroy_checks, hwpt_alloc_checks, ioas_alloc_checks, map_checks}
use Rattle.iofd_refusals.specs.Checks.{unmap_checks, user_map_checks, user_unmap_checks, user_write_checks}
use Rattle.iofd_words.specs.Levels.{number_at}
use Rattle.iofd_steps.specs.Run.{IsRun, Lawful, after}
use Rattle.iofd_words.specs.Tables.{with_tables}
use Rattle.iofd_examples.proofs.pins.pin_script_is_a_run.Goals as goal

pub returns-clause-beginning : goal.returns-clause-beginning
unfolding IsRun Lawful after with_tables access_attach_checks access_create_checks access_detach_checks
    access_pin_checks access_unpin_checks access_write_checks bind_checks copy_checks destroy_checks hwpt_alloc_checks
    ioas_alloc_checks map_checks unmap_checks user_map_checks user_unmap_checks user_write_checks Answers changed
    settle without_areas number_at
returns-clause-beginning c = (
  (refl, record { enough = refl; free = refl; different = refl; gone = refl; may = refl; rising = refl }),
  (
    (refl, record { enough = refl; free = refl; different = refl; gone = refl; may = refl; rising = refl }),
    (
      (refl, record { enough = refl; free = refl; different = refl; gone = refl; may = refl; rising = refl }),
      (
        (refl, record { enough = refl; free = refl; different = refl; gone = refl; may = refl; rising = refl }),
        (
          (refl, record { enough = refl; free = refl; different = refl; gone = refl; may = refl; rising = refl }),
          (
            (refl, record { enough = refl; free = refl; different = refl; gone = refl; may = refl; rising = refl }),
            (
              (refl, record { enough = refl; free = refl; different = refl; gone = refl; may = refl; rising = refl }),
              (
                (
                  refl,
                  record { enough = refl; free = refl; different = refl; gone = refl; may = refl; rising = refl },
                ),
                (
                  (
                    tt,
                    record { enough = refl; free = refl; different = refl; gone = refl; may = refl; rising = refl },
                  ),
                  (
                    (
                      tt,
                      record { enough = refl; free = refl; different = refl; gone = refl; may = refl; rising = refl },
                    ),
                    (
                      (
                        tt,
                        record {
                          enough = refl;
                          free = refl;
                          different = refl;
                          gone = refl;
                          may = refl;
                          rising = refl;
                        },
                      ),
                      (
                        (
                          refl,
                          record {
                            enough = refl;
                            free = refl;
                            different = refl;
                            gone = refl;
                            may = refl;
                            rising = refl;
                          },
                        ),
                        (
                          (
                            refl,
                            record {
                              enough = refl;
                              free = refl;
                              different = refl;
                              gone = refl;
                              may = refl;
                              rising = refl;
                            },
                          ),
                          (
                            (
                              refl,
                              record {
                                enough = refl;
                                free = refl;
                                different = refl;
                                gone = refl;
                                may = refl;
                                rising = refl;
                              },
                            ),
                            (
                              (
                                refl,
                                record {
                                  enough = refl;
                                  free = refl;
                                  different = refl;
                                  gone = refl;
                                  may = refl;
                                  rising = refl;
                                },
                              ),
                              (
                                (
                                  refl,
                                  record {
                                    enough = refl;
                                    free = refl;
                                    different = refl;
                                    gone = refl;
                                    may = refl;
                                    rising = refl;
                                  },
                                ),
                                (
                                  (
                                    refl,
                                    record {
                                      enough = refl;
                                      free = refl;
                                      different = refl;
                                      gone = refl;
                                      may = refl;
                                      rising = refl;
                                    },
                                  ),
                                  (
                                    (
                                      refl,
                                      record {
                                        enough = refl;
                                        free = refl;
                                        different = refl;
                                        gone = refl;
                                        may = refl;
                                        rising = refl;
                                      },
                                    ),
                                    (
                                      (
                                        refl,
                                        record {
                                          enough = refl;
                                          free = refl;
                                          different = refl;
                                          gone = refl;
                                          may = refl;
                                          rising = refl;
                                        },
                                      ),
                                      (
                                        (
                                          refl,
                                          record {
                                            enough = refl;
                                            free = refl;
                                            different = refl;
                                            gone = refl;
                                            may = refl;
                                            rising = refl;
                                          },
                                        ),
                                        tt,
                                      ),
                                    ),
                                  ),
                                ),
                              ),
                            ),
                          ),
                        ),
                      ),
                    ),
                  ),
                ),
              ),
            ),
          ),
        ),
      ),
    ),
  ),
)

pub returns-clause-pinning : goal.returns-clause-pinning
unfolding IsRun Lawful after with_tables access_attach_checks access_create_checks access_detach_checks
    access_pin_checks access_unpin_checks access_write_checks bind_checks copy_checks destroy_checks hwpt_alloc_checks
    ioas_alloc_checks map_checks unmap_checks user_map_checks user_unmap_checks user_write_checks Answers changed
    settle without_areas number_at
returns-clause-pinning c = (
  (tt, record { enough = refl; free = refl; different = refl; gone = refl; may = refl; rising = refl }),
  (
    (tt, record { enough = refl; free = refl; different = refl; gone = refl; may = refl; rising = refl }),
    (
      (tt, record { enough = refl; free = refl; different = refl; gone = refl; may = refl; rising = refl }),
      tt,
    ),
  ),
)

pub returns-clause-keeping : goal.returns-clause-keeping
unfolding IsRun Lawful after with_tables access_attach_checks access_create_checks access_detach_checks
    access_pin_checks access_unpin_checks access_write_checks bind_checks copy_checks destroy_checks hwpt_alloc_checks
    ioas_alloc_checks map_checks unmap_checks user_map_checks user_unmap_checks user_write_checks Answers changed
    settle without_areas number_at
returns-clause-keeping c = (
  (tt, record { enough = refl; free = refl; different = refl; gone = refl; may = refl; rising = refl }),
  (
    (refl, record { enough = refl; free = refl; different = refl; gone = refl; may = refl; rising = refl }),
    (
      (tt, record { enough = refl; free = refl; different = refl; gone = refl; may = refl; rising = refl }),
      (
        (tt, record { enough = refl; free = refl; different = refl; gone = refl; may = refl; rising = refl }),
        tt,
      ),
    ),
  ),
)

pub returns-clause-unpinning : goal.returns-clause-unpinning
unfolding IsRun Lawful after with_tables access_attach_checks access_create_checks access_detach_checks
    access_pin_checks access_unpin_checks access_write_checks bind_checks copy_checks destroy_checks hwpt_alloc_checks
    ioas_alloc_checks map_checks unmap_checks user_map_checks user_unmap_checks user_write_checks Answers changed
    settle without_areas number_at
returns-clause-unpinning c = (
  (tt, record { enough = refl; free = refl; different = refl; gone = refl; may = refl; rising = refl }),
  (
    (tt, record { enough = refl; free = refl; different = refl; gone = refl; may = refl; rising = refl }),
    tt,
  ),
)

pub returns-clause-letting_go : goal.returns-clause-letting_go
unfolding IsRun Lawful after with_tables access_attach_checks access_create_checks access_detach_checks
    access_pin_checks access_unpin_checks access_write_checks bind_checks copy_checks destroy_checks hwpt_alloc_checks
    ioas_alloc_checks map_checks unmap_checks user_map_checks user_unmap_checks user_write_checks Answers changed
    settle without_areas number_at
returns-clause-letting_go c = (
  (tt, record { enough = refl; free = refl; different = refl; gone = refl; may = refl; rising = refl }),
  tt,
)

pub returns-clause-pinning_anew : goal.returns-clause-pinning_anew
unfolding IsRun Lawful after with_tables access_attach_checks access_create_checks access_detach_checks
    access_pin_checks access_unpin_checks access_write_checks bind_checks copy_checks destroy_checks hwpt_alloc_checks
    ioas_alloc_checks map_checks unmap_checks user_map_checks user_unmap_checks user_write_checks Answers changed
    settle without_areas number_at
returns-clause-pinning_anew c = (
  (tt, record { enough = refl; free = refl; different = refl; gone = refl; may = refl; rising = refl }),
  tt,
)

pub returns-clause-translating : goal.returns-clause-translating
unfolding IsRun Lawful after with_tables access_attach_checks access_create_checks access_detach_checks
    access_pin_checks access_unpin_checks access_write_checks bind_checks copy_checks destroy_checks hwpt_alloc_checks
    ioas_alloc_checks map_checks unmap_checks user_map_checks user_unmap_checks user_write_checks Answers changed
    settle without_areas number_at
returns-clause-translating c = (
  (refl, record { enough = refl; free = refl; different = refl; gone = refl; may = refl; rising = refl }),
  (
    (tt, record { enough = refl; free = refl; different = refl; gone = refl; may = refl; rising = refl }),
    (
      (tt, record { enough = refl; free = refl; different = refl; gone = refl; may = refl; rising = refl }),
      (
        (tt, record { enough = refl; free = refl; different = refl; gone = refl; may = refl; rising = refl }),
        tt,
      ),
    ),
  ),
)

pub returns-clause-parting : goal.returns-clause-parting
unfolding IsRun Lawful after with_tables access_attach_checks access_create_checks access_detach_checks
    access_pin_checks access_unpin_checks access_write_checks bind_checks copy_checks destroy_checks hwpt_alloc_checks
    ioas_alloc_checks map_checks unmap_checks user_map_checks user_unmap_checks user_write_checks Answers changed
    settle without_areas number_at
returns-clause-parting c = (
  (tt, record { enough = refl; free = refl; different = refl; gone = refl; may = refl; rising = refl }),
  tt,
)

pub returns-clause-waiting : goal.returns-clause-waiting
unfolding IsRun Lawful after with_tables access_attach_checks access_create_checks access_detach_checks
    access_pin_checks access_unpin_checks access_write_checks bind_checks copy_checks destroy_checks hwpt_alloc_checks
    ioas_alloc_checks map_checks unmap_checks user_map_checks user_unmap_checks user_write_checks Answers changed
    settle without_areas number_at
returns-clause-waiting c = (
  ((refl, refl), record { enough = refl; free = refl; different = refl; gone = refl; may = refl; rising = refl }),
  (
    ((refl, refl), record { enough = refl; free = refl; different = refl; gone = refl; may = refl; rising = refl }),
    tt,
  ),
)

pub returns-clause-unpinning_wide : goal.returns-clause-unpinning_wide
unfolding IsRun Lawful after with_tables access_attach_checks access_create_checks access_detach_checks
    access_pin_checks access_unpin_checks access_write_checks bind_checks copy_checks destroy_checks hwpt_alloc_checks
    ioas_alloc_checks map_checks unmap_checks user_map_checks user_unmap_checks user_write_checks Answers changed
    settle without_areas number_at
returns-clause-unpinning_wide c = (
  (tt, record { enough = refl; free = refl; different = refl; gone = refl; may = refl; rising = refl }),
  tt,
)

pub returns-clause-second_leaves : goal.returns-clause-second_leaves
unfolding IsRun Lawful after with_tables access_attach_checks access_create_checks access_detach_checks
    access_pin_checks access_unpin_checks access_write_checks bind_checks copy_checks destroy_checks hwpt_alloc_checks
    ioas_alloc_checks map_checks unmap_checks user_map_checks user_unmap_checks user_write_checks Answers changed
    settle without_areas number_at
returns-clause-second_leaves c = (
  ((refl, refl), record { enough = refl; free = refl; different = refl; gone = refl; may = refl; rising = refl }),
  tt,
)

pub returns-clause-first_leaves : goal.returns-clause-first_leaves
unfolding IsRun Lawful after with_tables access_attach_checks access_create_checks access_detach_checks
    access_pin_checks access_unpin_checks access_write_checks bind_checks copy_checks destroy_checks hwpt_alloc_checks
    ioas_alloc_checks map_checks unmap_checks user_map_checks user_unmap_checks user_write_checks Answers changed
    settle without_areas number_at
returns-clause-first_leaves c = (
  (tt, record { enough = refl; free = refl; different = refl; gone = refl; may = refl; rising = refl }),
  (
    ((refl, refl), record { enough = refl; free = refl; different = refl; gone = refl; may = refl; rising = refl }),
    (
      (tt, record { enough = refl; free = refl; different = refl; gone = refl; may = refl; rising = refl }),
      (
        (
          (refl, refl),
          record { enough = refl; free = refl; different = refl; gone = refl; may = refl; rising = refl },
        ),
        (
          (tt, record { enough = refl; free = refl; different = refl; gone = refl; may = refl; rising = refl }),
          tt,
        ),
      ),
    ),
  ),
)
