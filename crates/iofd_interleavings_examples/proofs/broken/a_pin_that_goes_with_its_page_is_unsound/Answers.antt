use Rattle.std.proofs.Common.{refl, arith, inl, [], ◌∷◌}
use Rattle.iofd_steps.specs.After.{changed, settle, without_areas, attached, detached, joined}
use Rattle.iofd_steps.specs.Answers.{Answers}
use Rattle.iofd_refusals.specs.Checks.{allow_iovas_checks, attach_checks, bind_checks, close_checks, copy_checks}
use Rattle.iofd_refusals.specs.Checks.{destroy_checks, detach_checks, device_write_checks, flush_checks}
use Rattle.iofd_refusals.specs.Checks.{hwpt_alloc_checks}
use Rattle.iofd_refusals.specs.Checks.{ioas_alloc_checks, map_checks, unbind_checks, unmap_checks, user_map_checks}
use Rattle.iofd_refusals.specs.Checks.{user_unmap_checks, user_write_checks}
use Rattle.iofd_words.specs.Levels.{number_at}
use Rattle.iofd_steps.specs.Look.{answers_in}
use Rattle.iofd_words.specs.Policy.{access_outcomes, outcomes}
use Rattle.iofd_steps.specs.Run.{IsRun, Lawful, after, world_of}
use Rattle.iofd_words.specs.Tables.{with_tables}
use Rattle.iofd_interleavings.specs.Steps.{AreSteps, state_after}
use Rattle.iofd_interleavings_examples.specs.Worked.{entry, fills, gives_up}
use Rattle.iofd_interleavings_examples.proofs.Begun.{begun, first_fills}
use Rattle.iofd_interleavings_examples.proofs.Unsound.{no_answer, gone_pin}
use Rattle.iofd_interleavings_examples.proofs.broken.a_pin_that_goes_with_its_page_is_unsound.Goals as goal

pub returns-clause-begins : goal.returns-clause-begins
unfolding AreSteps state_after world_of IsRun Lawful after with_tables answers_in Answers allow_iovas_checks
    attach_checks bind_checks close_checks copy_checks destroy_checks detach_checks device_write_checks flush_checks
    hwpt_alloc_checks ioas_alloc_checks map_checks unbind_checks unmap_checks user_map_checks user_unmap_checks
    user_write_checks changed settle without_areas attached detached joined outcomes access_outcomes number_at
returns-clause-begins c = begun (fills 1 ∷ gives_up ∷ []) (
  first_fills _,
  (
    (
      (tt, record { enough = refl; free = refl; different = refl; gone = refl; may = refl; rising = refl }),
      λ d never. cc,
    ),
    tt,
  ),
)

pub returns-clause-world : goal.returns-clause-world
unfolding AreSteps state_after world_of IsRun Lawful after with_tables answers_in Answers allow_iovas_checks
    attach_checks bind_checks close_checks copy_checks destroy_checks detach_checks device_write_checks flush_checks
    hwpt_alloc_checks ioas_alloc_checks map_checks unbind_checks unmap_checks user_map_checks user_unmap_checks
    user_write_checks changed settle without_areas attached detached joined outcomes access_outcomes number_at
returns-clause-world c = refl

pub returns-clause-unsound : goal.returns-clause-unsound
unfolding AreSteps state_after world_of IsRun Lawful after with_tables answers_in Answers allow_iovas_checks
    attach_checks bind_checks close_checks copy_checks destroy_checks detach_checks device_write_checks flush_checks
    hwpt_alloc_checks ioas_alloc_checks map_checks unbind_checks unmap_checks user_map_checks user_unmap_checks
    user_write_checks changed settle without_areas attached detached joined outcomes access_outcomes number_at
returns-clause-unsound c = record {
  sound = λ sound. gone_pin _ refl (sound entry (0, omega arith, refl));
  hit = record { cached = (0, omega arith, refl); page = refl; right = refl; inside = refl };
  denied = refl;
  answer = λ has. no_answer _ has;
}

pub returns-clause-next : goal.returns-clause-next
unfolding AreSteps state_after world_of IsRun Lawful after with_tables answers_in Answers allow_iovas_checks
    attach_checks bind_checks close_checks copy_checks destroy_checks detach_checks device_write_checks flush_checks
    hwpt_alloc_checks ioas_alloc_checks map_checks unbind_checks unmap_checks user_map_checks user_unmap_checks
    user_write_checks changed settle without_areas attached detached joined outcomes access_outcomes number_at
returns-clause-next c =
    (refl, record { enough = refl; free = refl; different = refl; gone = refl; may = refl; rising = refl })

pub returns-clause-given : goal.returns-clause-given
unfolding AreSteps state_after world_of IsRun Lawful after with_tables answers_in Answers allow_iovas_checks
    attach_checks bind_checks close_checks copy_checks destroy_checks detach_checks device_write_checks flush_checks
    hwpt_alloc_checks ioas_alloc_checks map_checks unbind_checks unmap_checks user_map_checks user_unmap_checks
    user_write_checks changed settle without_areas attached detached joined outcomes access_outcomes number_at
returns-clause-given c = record { gives = inl refl; cached = (0, omega arith, refl) }
