use Rattle.iofd_refusals.specs.Checks.{attach_checks, bind_checks, close_checks, destroy_checks, detach_checks}
use Rattle.iofd_refusals.specs.Checks.{device_write_checks, flush_checks, ioas_alloc_checks, map_checks, unmap_checks}
use Rattle.iofd_refusals.specs.Checks.{user_map_checks}
use Rattle.iofd_words.specs.Levels.{number_at}
use Rattle.iofd_words.specs.Tables.{with_tables}
use Rattle.std.proofs.Common.{refl}
use Rattle.iofd_steps.specs.After.{changed, settle, without_areas, attached, detached}
use Rattle.iofd_steps.specs.Look.{answers_in}
use Rattle.iofd_words.specs.Policy.{access_outcomes, outcomes}
use Rattle.iofd_steps.specs.Run.{world_of, after}
use Rattle.iofd_examples.proofs.first_script.worked_script_reads.Goals as goal

pub returns-clause-bytes : goal.returns-clause-bytes
unfolding answers_in world_of after with_tables ioas_alloc_checks map_checks unmap_checks destroy_checks close_checks
    user_map_checks bind_checks attach_checks detach_checks flush_checks device_write_checks changed settle
    without_areas attached detached outcomes access_outcomes number_at
returns-clause-bytes c = refl

pub returns-clause-crossing : goal.returns-clause-crossing
unfolding answers_in world_of after with_tables ioas_alloc_checks map_checks unmap_checks destroy_checks close_checks
    user_map_checks bind_checks attach_checks detach_checks flush_checks device_write_checks changed settle
    without_areas attached detached outcomes access_outcomes number_at
returns-clause-crossing c = refl

pub returns-clause-elsewhere : goal.returns-clause-elsewhere
unfolding answers_in world_of after with_tables ioas_alloc_checks map_checks unmap_checks destroy_checks close_checks
    user_map_checks bind_checks attach_checks detach_checks flush_checks device_write_checks changed settle
    without_areas attached detached outcomes access_outcomes number_at
returns-clause-elsewhere c = refl

pub returns-clause-beyond : goal.returns-clause-beyond
unfolding answers_in world_of after with_tables ioas_alloc_checks map_checks unmap_checks destroy_checks close_checks
    user_map_checks bind_checks attach_checks detach_checks flush_checks device_write_checks changed settle
    without_areas attached detached outcomes access_outcomes number_at
returns-clause-beyond c = refl

pub returns-clause-unattached : goal.returns-clause-unattached
unfolding answers_in world_of after with_tables ioas_alloc_checks map_checks unmap_checks destroy_checks close_checks
    user_map_checks bind_checks attach_checks detach_checks flush_checks device_write_checks changed settle
    without_areas attached detached outcomes access_outcomes number_at
returns-clause-unattached c = refl
