use Rattle.std.proofs.Common.{refl}
use Rattle.iofd_steps.specs.After.{changed, settle, without_areas, attached, detached, joined}
use Rattle.iofd_refusals.specs.Checks.{allow_iovas_checks, attach_checks, bind_checks, close_checks, copy_checks}
use Rattle.iofd_refusals.specs.Checks.{destroy_checks, detach_checks, device_write_checks, flush_checks}
use Rattle.iofd_refusals.specs.Checks.{hwpt_alloc_checks}
use Rattle.iofd_refusals.specs.Checks.{ioas_alloc_checks, map_checks, unbind_checks, unmap_checks, user_map_checks}
use Rattle.iofd_refusals.specs.Checks.{user_unmap_checks, user_write_checks}
use Rattle.iofd_words.specs.Levels.{number_at}
use Rattle.iofd_words.specs.Policy.{access_outcomes, outcomes}
use Rattle.iofd_steps.specs.Run.{after, world_of}
use Rattle.iofd_words.specs.Tables.{with_tables}
use Rattle.iofd_examples.proofs.second_script.second_script_leaves_its_worlds.Goals as goal

pub returns-clause-mapped : goal.returns-clause-mapped
unfolding world_of after with_tables allow_iovas_checks attach_checks bind_checks close_checks copy_checks
    destroy_checks detach_checks device_write_checks flush_checks hwpt_alloc_checks ioas_alloc_checks map_checks
    unbind_checks unmap_checks user_map_checks user_unmap_checks user_write_checks changed settle without_areas attached
    detached joined outcomes access_outcomes number_at
returns-clause-mapped c = refl

pub returns-clause-attached : goal.returns-clause-attached
unfolding world_of after with_tables allow_iovas_checks attach_checks bind_checks close_checks copy_checks
    destroy_checks detach_checks device_write_checks flush_checks hwpt_alloc_checks ioas_alloc_checks map_checks
    unbind_checks unmap_checks user_map_checks user_unmap_checks user_write_checks changed settle without_areas attached
    detached joined outcomes access_outcomes number_at
returns-clause-attached c = refl

pub returns-clause-renewed : goal.returns-clause-renewed
unfolding world_of after with_tables allow_iovas_checks attach_checks bind_checks close_checks copy_checks
    destroy_checks detach_checks device_write_checks flush_checks hwpt_alloc_checks ioas_alloc_checks map_checks
    unbind_checks unmap_checks user_map_checks user_unmap_checks user_write_checks changed settle without_areas attached
    detached joined outcomes access_outcomes number_at
returns-clause-renewed c = refl

pub returns-clause-rewritten : goal.returns-clause-rewritten
unfolding world_of after with_tables allow_iovas_checks attach_checks bind_checks close_checks copy_checks
    destroy_checks detach_checks device_write_checks flush_checks hwpt_alloc_checks ioas_alloc_checks map_checks
    unbind_checks unmap_checks user_map_checks user_unmap_checks user_write_checks changed settle without_areas attached
    detached joined outcomes access_outcomes number_at
returns-clause-rewritten c = refl

pub returns-clause-shared : goal.returns-clause-shared
unfolding world_of after with_tables allow_iovas_checks attach_checks bind_checks close_checks copy_checks
    destroy_checks detach_checks device_write_checks flush_checks hwpt_alloc_checks ioas_alloc_checks map_checks
    unbind_checks unmap_checks user_map_checks user_unmap_checks user_write_checks changed settle without_areas attached
    detached joined outcomes access_outcomes number_at
returns-clause-shared c = refl

pub returns-clause-owing : goal.returns-clause-owing
unfolding world_of after with_tables allow_iovas_checks attach_checks bind_checks close_checks copy_checks
    destroy_checks detach_checks device_write_checks flush_checks hwpt_alloc_checks ioas_alloc_checks map_checks
    unbind_checks unmap_checks user_map_checks user_unmap_checks user_write_checks changed settle without_areas attached
    detached joined outcomes access_outcomes number_at
returns-clause-owing c = refl

pub returns-clause-denied : goal.returns-clause-denied
unfolding world_of after with_tables allow_iovas_checks attach_checks bind_checks close_checks copy_checks
    destroy_checks detach_checks device_write_checks flush_checks hwpt_alloc_checks ioas_alloc_checks map_checks
    unbind_checks unmap_checks user_map_checks user_unmap_checks user_write_checks changed settle without_areas attached
    detached joined outcomes access_outcomes number_at
returns-clause-denied c = refl

pub returns-clause-paid : goal.returns-clause-paid
unfolding world_of after with_tables allow_iovas_checks attach_checks bind_checks close_checks copy_checks
    destroy_checks detach_checks device_write_checks flush_checks hwpt_alloc_checks ioas_alloc_checks map_checks
    unbind_checks unmap_checks user_map_checks user_unmap_checks user_write_checks changed settle without_areas attached
    detached joined outcomes access_outcomes number_at
returns-clause-paid c = refl

pub returns-clause-ended : goal.returns-clause-ended
unfolding world_of after with_tables allow_iovas_checks attach_checks bind_checks close_checks copy_checks
    destroy_checks detach_checks device_write_checks flush_checks hwpt_alloc_checks ioas_alloc_checks map_checks
    unbind_checks unmap_checks user_map_checks user_unmap_checks user_write_checks changed settle without_areas attached
    detached joined outcomes access_outcomes number_at
returns-clause-ended c = refl

pub returns-clause-copied : goal.returns-clause-copied
unfolding world_of after with_tables allow_iovas_checks attach_checks bind_checks close_checks copy_checks
    destroy_checks detach_checks device_write_checks flush_checks hwpt_alloc_checks ioas_alloc_checks map_checks
    unbind_checks unmap_checks user_map_checks user_unmap_checks user_write_checks changed settle without_areas attached
    detached joined outcomes access_outcomes number_at
returns-clause-copied c = refl

pub returns-clause-unbound : goal.returns-clause-unbound
unfolding world_of after with_tables allow_iovas_checks attach_checks bind_checks close_checks copy_checks
    destroy_checks detach_checks device_write_checks flush_checks hwpt_alloc_checks ioas_alloc_checks map_checks
    unbind_checks unmap_checks user_map_checks user_unmap_checks user_write_checks changed settle without_areas attached
    detached joined outcomes access_outcomes number_at
returns-clause-unbound c = refl

pub returns-clause-destroyed : goal.returns-clause-destroyed
unfolding world_of after with_tables allow_iovas_checks attach_checks bind_checks close_checks copy_checks
    destroy_checks detach_checks device_write_checks flush_checks hwpt_alloc_checks ioas_alloc_checks map_checks
    unbind_checks unmap_checks user_map_checks user_unmap_checks user_write_checks changed settle without_areas attached
    detached joined outcomes access_outcomes number_at
returns-clause-destroyed c = refl

pub returns-clause-parted : goal.returns-clause-parted
unfolding world_of after with_tables allow_iovas_checks attach_checks bind_checks close_checks copy_checks
    destroy_checks detach_checks device_write_checks flush_checks hwpt_alloc_checks ioas_alloc_checks map_checks
    unbind_checks unmap_checks user_map_checks user_unmap_checks user_write_checks changed settle without_areas attached
    detached joined outcomes access_outcomes number_at
returns-clause-parted c = refl
