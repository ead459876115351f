use Rattle.std.proofs.Common.{refl}
use Rattle.iofd_steps.specs.After.{changed, settle, without_areas, attached, detached, joined}
use Rattle.iofd_refusals.specs.Checks.{allow_iovas_checks, attach_checks, bind_checks, close_checks, copy_checks}
use Rattle.iofd_refusals.specs.Checks.{destroy_checks, detach_checks, device_write_checks, flush_checks}
use Rattle.iofd_refusals.specs.Checks.{hwpt_alloc_checks}
use Rattle.iofd_refusals.specs.Checks.{ioas_alloc_checks, map_checks, unbind_checks, unmap_checks, user_map_checks}
use Rattle.iofd_refusals.specs.Checks.{user_unmap_checks, user_write_checks}
use Rattle.iofd_words.specs.Levels.{number_at}
use Rattle.iofd_words.specs.Policy.{access_outcomes, outcomes}
use Rattle.iofd_steps.specs.Run.{after, world_of}
use Rattle.iofd_words.specs.Tables.{with_tables}
use Rattle.iofd_examples.proofs.debt_script.debt_script_leaves_its_worlds.Goals as goal

pub returns-clause-joined : goal.returns-clause-joined
unfolding world_of after with_tables allow_iovas_checks attach_checks bind_checks close_checks copy_checks
    destroy_checks detach_checks device_write_checks flush_checks hwpt_alloc_checks ioas_alloc_checks map_checks
    unbind_checks unmap_checks user_map_checks user_unmap_checks user_write_checks changed settle without_areas attached
    detached joined outcomes access_outcomes number_at
returns-clause-joined c = refl

pub returns-clause-parted : goal.returns-clause-parted
unfolding world_of after with_tables allow_iovas_checks attach_checks bind_checks close_checks copy_checks
    destroy_checks detach_checks device_write_checks flush_checks hwpt_alloc_checks ioas_alloc_checks map_checks
    unbind_checks unmap_checks user_map_checks user_unmap_checks user_write_checks changed settle without_areas attached
    detached joined outcomes access_outcomes number_at
returns-clause-parted c = refl

pub returns-clause-owing : goal.returns-clause-owing
unfolding world_of after with_tables allow_iovas_checks attach_checks bind_checks close_checks copy_checks
    destroy_checks detach_checks device_write_checks flush_checks hwpt_alloc_checks ioas_alloc_checks map_checks
    unbind_checks unmap_checks user_map_checks user_unmap_checks user_write_checks changed settle without_areas attached
    detached joined outcomes access_outcomes number_at
returns-clause-owing c = refl

pub returns-clause-detached : goal.returns-clause-detached
unfolding world_of after with_tables allow_iovas_checks attach_checks bind_checks close_checks copy_checks
    destroy_checks detach_checks device_write_checks flush_checks hwpt_alloc_checks ioas_alloc_checks map_checks
    unbind_checks unmap_checks user_map_checks user_unmap_checks user_write_checks changed settle without_areas attached
    detached joined outcomes access_outcomes number_at
returns-clause-detached c = refl

pub returns-clause-leaving : goal.returns-clause-leaving
unfolding world_of after with_tables allow_iovas_checks attach_checks bind_checks close_checks copy_checks
    destroy_checks detach_checks device_write_checks flush_checks hwpt_alloc_checks ioas_alloc_checks map_checks
    unbind_checks unmap_checks user_map_checks user_unmap_checks user_write_checks changed settle without_areas attached
    detached joined outcomes access_outcomes number_at
returns-clause-leaving c = refl

pub returns-clause-one_owes : goal.returns-clause-one_owes
unfolding world_of after with_tables allow_iovas_checks attach_checks bind_checks close_checks copy_checks
    destroy_checks detach_checks device_write_checks flush_checks hwpt_alloc_checks ioas_alloc_checks map_checks
    unbind_checks unmap_checks user_map_checks user_unmap_checks user_write_checks changed settle without_areas attached
    detached joined outcomes access_outcomes number_at
returns-clause-one_owes c = refl

pub returns-clause-none_owes : goal.returns-clause-none_owes
unfolding world_of after with_tables allow_iovas_checks attach_checks bind_checks close_checks copy_checks
    destroy_checks detach_checks device_write_checks flush_checks hwpt_alloc_checks ioas_alloc_checks map_checks
    unbind_checks unmap_checks user_map_checks user_unmap_checks user_write_checks changed settle without_areas attached
    detached joined outcomes access_outcomes number_at
returns-clause-none_owes c = refl

pub returns-clause-gone : goal.returns-clause-gone
unfolding world_of after with_tables allow_iovas_checks attach_checks bind_checks close_checks copy_checks
    destroy_checks detach_checks device_write_checks flush_checks hwpt_alloc_checks ioas_alloc_checks map_checks
    unbind_checks unmap_checks user_map_checks user_unmap_checks user_write_checks changed settle without_areas attached
    detached joined outcomes access_outcomes number_at
returns-clause-gone c = refl

pub returns-clause-attached : goal.returns-clause-attached
unfolding world_of after with_tables allow_iovas_checks attach_checks bind_checks close_checks copy_checks
    destroy_checks detach_checks device_write_checks flush_checks hwpt_alloc_checks ioas_alloc_checks map_checks
    unbind_checks unmap_checks user_map_checks user_unmap_checks user_write_checks changed settle without_areas attached
    detached joined outcomes access_outcomes number_at
returns-clause-attached c = refl

pub returns-clause-to_table : goal.returns-clause-to_table
unfolding world_of after with_tables allow_iovas_checks attach_checks bind_checks close_checks copy_checks
    destroy_checks detach_checks device_write_checks flush_checks hwpt_alloc_checks ioas_alloc_checks map_checks
    unbind_checks unmap_checks user_map_checks user_unmap_checks user_write_checks changed settle without_areas attached
    detached joined outcomes access_outcomes number_at
returns-clause-to_table c = refl
