use Rattle.std.proofs.Common.{refl, arith, [], ◌∷◌}
use Rattle.iofd_steps.specs.After.{changed, settle, without_areas, attached, detached, joined}
use Rattle.iofd_steps.specs.Answers.{Answers}
use Rattle.iofd_refusals.specs.Checks.{allow_iovas_checks, attach_checks, bind_checks, close_checks, copy_checks}
use Rattle.iofd_refusals.specs.Checks.{destroy_checks, detach_checks, device_write_checks, flush_checks}
use Rattle.iofd_refusals.specs.Checks.{hwpt_alloc_checks}
use Rattle.iofd_refusals.specs.Checks.{ioas_alloc_checks, map_checks, unbind_checks, unmap_checks, user_map_checks}
use Rattle.iofd_refusals.specs.Checks.{user_unmap_checks, user_write_checks}
use Rattle.iofd_words.specs.Levels.{number_at}
use Rattle.iofd_steps.specs.Look.{answers_in}
use Rattle.iofd_words.specs.Policy.{access_outcomes, outcomes}
use Rattle.iofd_steps.specs.Run.{IsRun, Lawful, after, world_of}
use Rattle.iofd_words.specs.Tables.{with_tables}
use Rattle.iofd_words.specs.declared.query.Answer.TheVariants as answer
use Rattle.iofd_examples.specs.Words.{device, device_read}
use Rattle.iofd_interleavings.specs.Steps.{AreSteps, Dropped, Looked, opened, state_after}
use Rattle.iofd_interleavings.proofs.RunsAreSteps.{steps_append}
use Rattle.iofd_interleavings_examples.specs.Worked.{fills, flushes, gets, gives_up, looks, reads, settings, takes}
use Rattle.iofd_interleavings_examples.specs.Worked.{until_flush, until_read, waits, writes}
use Rattle.iofd_interleavings_examples.proofs.Begun.{begun, first_fills, second_fills, is_first, is_second}
use Rattle.iofd_interleavings_examples.proofs.worked.worked_steps_are_steps.Goals as goal

pub returns-clause-begins : goal.returns-clause-begins
unfolding AreSteps state_after world_of IsRun Lawful after with_tables answers_in Answers allow_iovas_checks
    attach_checks bind_checks close_checks copy_checks destroy_checks detach_checks device_write_checks flush_checks
    hwpt_alloc_checks ioas_alloc_checks map_checks unbind_checks unmap_checks user_map_checks user_unmap_checks
    user_write_checks changed settle without_areas attached detached joined outcomes access_outcomes number_at
returns-clause-begins c = refl

-- the steps up to the first read hit, up to the first flush, and all
first : AreSteps settings until_read
unfolding AreSteps state_after world_of IsRun Lawful after with_tables answers_in Answers allow_iovas_checks
    attach_checks bind_checks close_checks copy_checks destroy_checks detach_checks device_write_checks flush_checks
    hwpt_alloc_checks ioas_alloc_checks map_checks unbind_checks unmap_checks user_map_checks user_unmap_checks
    user_write_checks changed settle without_areas attached detached joined outcomes access_outcomes number_at
first = begun (looks ∷ fills 1 ∷ writes ∷ []) (
  (0, omega arith, refl),
  (
    first_fills _,
    (
      record { cached = (0, omega arith, refl); page = refl; right = refl; inside = refl },
      tt,
    ),
  ),
)

second : AreSteps settings until_flush
unfolding AreSteps state_after world_of IsRun Lawful after with_tables answers_in Answers allow_iovas_checks
    attach_checks bind_checks close_checks copy_checks destroy_checks detach_checks device_write_checks flush_checks
    hwpt_alloc_checks ioas_alloc_checks map_checks unbind_checks unmap_checks user_map_checks user_unmap_checks
    user_write_checks changed settle without_areas attached detached joined outcomes access_outcomes number_at
second = steps_append settings opened until_read (
    reads
    ∷ Looked (device_read 2 0x1ffc 4) (answer.Read (7 ∷ 8 ∷ 9 ∷ 10 ∷ []))
    ∷ fills 2
    ∷ fills 2
    ∷ waits
    ∷ Dropped (device 1) 2
    ∷ reads
    ∷ Dropped (device 1) 1
    ∷ []) first (
      record { cached = (0, omega arith, refl); page = refl; right = refl; inside = refl },
      (
        (0, omega arith, refl),
        (
          second_fills _,
          (
            second_fills _,
            (
              (
                (
                  (refl, refl),
                  record { enough = refl; free = refl; different = refl; gone = refl; may = refl; rising = refl },
                ),
                λ d never. cc,
              ),
              (
                tt,
                (record { cached = (0, omega arith, refl); page = refl; right = refl; inside = refl }, (tt, tt)),
              ),
            ),
          ),
        ),
      ),
    )

pub returns-clause-steps : goal.returns-clause-steps
unfolding AreSteps state_after world_of IsRun Lawful after with_tables answers_in Answers allow_iovas_checks
    attach_checks bind_checks close_checks copy_checks destroy_checks detach_checks device_write_checks flush_checks
    hwpt_alloc_checks ioas_alloc_checks map_checks unbind_checks unmap_checks user_map_checks user_unmap_checks
    user_write_checks changed settle without_areas attached detached joined outcomes access_outcomes number_at
returns-clause-steps c = steps_append settings opened until_flush
    (flushes 1 ∷ Dropped (device 2) 1 ∷ flushes 2 ∷ takes ∷ gives_up ∷ gets ∷ [])
    second (
      (
        (tt, record { enough = refl; free = refl; different = refl; gone = refl; may = refl; rising = refl }),
        λ d is. rw (is_first d is) refl,
      ),
      (
        tt,
        (
          (
            (tt, record { enough = refl; free = refl; different = refl; gone = refl; may = refl; rising = refl }),
            λ d is. rw (is_second d is) refl,
          ),
          (
            (
              (
                (refl, refl),
                record { enough = refl; free = refl; different = refl; gone = refl; may = refl; rising = refl },
              ),
              λ d never. cc,
            ),
            (
              (
                (tt, record { enough = refl; free = refl; different = refl; gone = refl; may = refl; rising = refl }),
                λ d never. cc,
              ),
              (
                (
                  (
                    refl,
                    record { enough = refl; free = refl; different = refl; gone = refl; may = refl; rising = refl },
                  ),
                  λ d never. cc,
                ),
                tt,
              ),
            ),
          ),
        ),
      ),
    )

pub returns-clause-records : goal.returns-clause-records
unfolding AreSteps state_after world_of IsRun Lawful after with_tables answers_in Answers allow_iovas_checks
    attach_checks bind_checks close_checks copy_checks destroy_checks detach_checks device_write_checks flush_checks
    hwpt_alloc_checks ioas_alloc_checks map_checks unbind_checks unmap_checks user_map_checks user_unmap_checks
    user_write_checks changed settle without_areas attached detached joined outcomes access_outcomes number_at
returns-clause-records c = refl
