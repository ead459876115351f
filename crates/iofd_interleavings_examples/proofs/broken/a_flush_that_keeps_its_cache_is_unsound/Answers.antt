use Rattle.std.proofs.Common.{refl, arith, inl, [], ◌∷◌}
use Rattle.iofd_steps.specs.After.{changed, settle, without_areas, attached, detached, joined}
use Rattle.iofd_steps.specs.Answers.{Answers}
use Rattle.iofd_refusals.specs.Checks.{allow_iovas_checks, attach_checks, bind_checks, close_checks, copy_checks}
use Rattle.iofd_refusals.specs.Checks.{destroy_checks, detach_checks, device_write_checks, flush_checks}
use Rattle.iofd_refusals.specs.Checks.{hwpt_alloc_checks}
use Rattle.iofd_refusals.specs.Checks.{ioas_alloc_checks, map_checks, unbind_checks, unmap_checks, user_map_checks}
use Rattle.iofd_refusals.specs.Checks.{user_unmap_checks, user_write_checks}
use Rattle.iofd_words.specs.Levels.{number_at}
use Rattle.iofd_steps.specs.Look.{answers_in}
use Rattle.iofd_words.specs.Policy.{access_outcomes, outcomes}
use Rattle.iofd_steps.specs.Run.{IsRun, Lawful, after, world_of}
use Rattle.iofd_words.specs.Tables.{with_tables}
use Rattle.iofd_words.specs.declared.rows.Phase.TheVariants.{Leaving}
use Rattle.iofd_words.specs.declared.fault.AccessKind.TheVariants.{Read}
use Rattle.iofd_words.specs.declared.fault.FaultReason.TheVariants.{ReadDenied}
use Rattle.iofd_examples.specs.Words.{fault, area_row}
use Rattle.iofd_interleavings.specs.Steps.{AreSteps, state_after}
use Rattle.iofd_interleavings_examples.specs.Worked.{entry, fills, waits}
use Rattle.iofd_interleavings_examples.proofs.Begun.{begun, first_fills, is_other}
use Rattle.iofd_interleavings_examples.proofs.Unsound.{only_fault, not_owed}
use Rattle.iofd_interleavings_examples.proofs.broken.a_flush_that_keeps_its_cache_is_unsound.Goals as goal

pub returns-clause-breaks : goal.returns-clause-breaks
unfolding AreSteps state_after world_of IsRun Lawful after with_tables answers_in Answers allow_iovas_checks
    attach_checks bind_checks close_checks copy_checks destroy_checks detach_checks device_write_checks flush_checks
    hwpt_alloc_checks ioas_alloc_checks map_checks unbind_checks unmap_checks user_map_checks user_unmap_checks
    user_write_checks changed settle without_areas attached detached joined outcomes access_outcomes number_at
returns-clause-breaks c = record {
  begins = begun (fills 1 ∷ waits ∷ []) (
    first_fills _,
    (
      (
        ((refl, refl), record { enough = refl; free = refl; different = refl; gone = refl; may = refl; rising = refl }),
        λ d never. cc,
      ),
      tt,
    ),
  );
  goes_on = (
    (
      (tt, record { enough = refl; free = refl; different = refl; gone = refl; may = refl; rising = refl }),
      λ d is. rw (is_other d is) refl,
    ),
    (
      (
        ((refl, refl), record { enough = refl; free = refl; different = refl; gone = refl; may = refl; rising = refl }),
        λ d never. cc,
      ),
      (
        (
          (tt, record { enough = refl; free = refl; different = refl; gone = refl; may = refl; rising = refl }),
          λ d never. cc,
        ),
        (
          (
            (refl, record { enough = refl; free = refl; different = refl; gone = refl; may = refl; rising = refl }),
            λ d never. cc,
          ),
          tt,
        ),
      ),
    ),
  );
  unsound = record {
    sound = λ sound. not_owed _ (area_row 1 1 0x1000 0x1fff 2 3 (Leaving (2 ∷ []) 1)) refl refl
        (sound entry (0, omega arith, refl));
    hit = record { cached = (0, omega arith, refl); page = refl; right = refl; inside = refl };
    denied = refl;
    answer = λ has. only_fault (fault 0x08 1 Read ReadDenied) _ has;
  };
  given = record { gives = inl refl; cached = (0, omega arith, refl) };
}

pub returns-clause-lawful : goal.returns-clause-lawful
unfolding AreSteps state_after world_of IsRun Lawful after with_tables answers_in Answers allow_iovas_checks
    attach_checks bind_checks close_checks copy_checks destroy_checks detach_checks device_write_checks flush_checks
    hwpt_alloc_checks ioas_alloc_checks map_checks unbind_checks unmap_checks user_map_checks user_unmap_checks
    user_write_checks changed settle without_areas attached detached joined outcomes access_outcomes number_at
returns-clause-lawful c =
    (tt, record { enough = refl; free = refl; different = refl; gone = refl; may = refl; rising = refl })

pub returns-clause-cached : goal.returns-clause-cached
unfolding AreSteps state_after world_of IsRun Lawful after with_tables answers_in Answers allow_iovas_checks
    attach_checks bind_checks close_checks copy_checks destroy_checks detach_checks device_write_checks flush_checks
    hwpt_alloc_checks ioas_alloc_checks map_checks unbind_checks unmap_checks user_map_checks user_unmap_checks
    user_write_checks changed settle without_areas attached detached joined outcomes access_outcomes number_at
returns-clause-cached c = refl

pub returns-clause-leaves : goal.returns-clause-leaves
unfolding AreSteps state_after world_of IsRun Lawful after with_tables answers_in Answers allow_iovas_checks
    attach_checks bind_checks close_checks copy_checks destroy_checks detach_checks device_write_checks flush_checks
    hwpt_alloc_checks ioas_alloc_checks map_checks unbind_checks unmap_checks user_map_checks user_unmap_checks
    user_write_checks changed settle without_areas attached detached joined outcomes access_outcomes number_at
returns-clause-leaves c = refl
