use Rattle.std.proofs.Common.{refl}
use Rattle.iofd_steps.specs.After.{changed, settle, without_areas, attached, detached, joined}
use Rattle.iofd_steps.specs.Answers.{Answers}
use Rattle.iofd_refusals.specs.Checks.{allow_iovas_checks, attach_checks, bind_checks, close_checks, copy_checks}
use Rattle.iofd_refusals.specs.Checks.{destroy_checks, detach_checks, device_write_checks, flush_checks}
use Rattle.iofd_refusals.specs.Checks.{hwpt_alloc_checks}
use Rattle.iofd_refusals.specs.Checks.{ioas_alloc_checks, map_checks, unbind_checks, unmap_checks, user_map_checks}
use Rattle.iofd_refusals.specs.Checks.{user_unmap_checks, user_write_checks}
use Rattle.iofd_words.specs.Levels.{number_at}
use Rattle.iofd_steps.specs.Look.{answers_in}
use Rattle.iofd_words.specs.Policy.{access_outcomes, outcomes}
use Rattle.iofd_steps.specs.Run.{IsRun, Lawful, after, world_of}
use Rattle.iofd_words.specs.Tables.{with_tables}
use Rattle.iofd_interleavings.specs.Steps.{AreSteps, state_after}
use Rattle.iofd_interleavings_examples.proofs.kept.turns_are_counted.Goals as goal

pub returns-clause-each : goal.returns-clause-each
returns-clause-each c = refl

pub returns-clause-others : goal.returns-clause-others
returns-clause-others c = refl

pub returns-clause-worked : goal.returns-clause-worked
unfolding AreSteps state_after world_of IsRun Lawful after with_tables answers_in Answers allow_iovas_checks
    attach_checks bind_checks close_checks copy_checks destroy_checks detach_checks device_write_checks flush_checks
    hwpt_alloc_checks ioas_alloc_checks map_checks unbind_checks unmap_checks user_map_checks user_unmap_checks
    user_write_checks changed settle without_areas attached detached joined outcomes access_outcomes number_at
returns-clause-worked c = refl

pub returns-clause-nobody : goal.returns-clause-nobody
unfolding AreSteps state_after world_of IsRun Lawful after with_tables answers_in Answers allow_iovas_checks
    attach_checks bind_checks close_checks copy_checks destroy_checks detach_checks device_write_checks flush_checks
    hwpt_alloc_checks ioas_alloc_checks map_checks unbind_checks unmap_checks user_map_checks user_unmap_checks
    user_write_checks changed settle without_areas attached detached joined outcomes access_outcomes number_at
returns-clause-nobody c = refl
