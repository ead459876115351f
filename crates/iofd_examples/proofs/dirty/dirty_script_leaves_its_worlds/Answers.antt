use Rattle.std.proofs.Common.{refl}
use Rattle.iofd_steps.specs.After.{attached, changed, detached, settle, without_areas}
use Rattle.iofd_refusals.specs.Checks.{attach_checks, bind_checks, destroy_checks, detach_checks}
use Rattle.iofd_refusals.specs.Checks.{device_write_checks, dirty_checks, dirty_enable_checks}
use Rattle.iofd_refusals.specs.Checks.{hwpt_alloc_checks, ioas_alloc_checks, map_checks}
use Rattle.iofd_refusals.specs.Checks.{user_map_checks, user_write_checks}
use Rattle.iofd_words.specs.Levels.{number_at}
use Rattle.iofd_steps.specs.Run.{after, world_of}
use Rattle.iofd_words.specs.Tables.{with_tables}
use Rattle.iofd_examples.proofs.dirty.dirty_script_leaves_its_worlds.Goals as goal

pub returns-clause-ready : goal.returns-clause-ready
unfolding after world_of with_tables attach_checks bind_checks destroy_checks detach_checks device_write_checks
    dirty_checks dirty_enable_checks hwpt_alloc_checks ioas_alloc_checks map_checks user_map_checks user_write_checks
    changed settle without_areas attached detached number_at
returns-clause-ready c = refl

pub returns-clause-tracked : goal.returns-clause-tracked
unfolding after world_of with_tables attach_checks bind_checks destroy_checks detach_checks device_write_checks
    dirty_checks dirty_enable_checks hwpt_alloc_checks ioas_alloc_checks map_checks user_map_checks user_write_checks
    changed settle without_areas attached detached number_at
returns-clause-tracked c = refl

pub returns-clause-written : goal.returns-clause-written
unfolding after world_of with_tables attach_checks bind_checks destroy_checks detach_checks device_write_checks
    dirty_checks dirty_enable_checks hwpt_alloc_checks ioas_alloc_checks map_checks user_map_checks user_write_checks
    changed settle without_areas attached detached number_at
returns-clause-written c = refl

pub returns-clause-cleared : goal.returns-clause-cleared
unfolding after world_of with_tables attach_checks bind_checks destroy_checks detach_checks device_write_checks
    dirty_checks dirty_enable_checks hwpt_alloc_checks ioas_alloc_checks map_checks user_map_checks user_write_checks
    changed settle without_areas attached detached number_at
returns-clause-cleared c = refl

pub returns-clause-cleared_again : goal.returns-clause-cleared_again
unfolding after world_of with_tables attach_checks bind_checks destroy_checks detach_checks device_write_checks
    dirty_checks dirty_enable_checks hwpt_alloc_checks ioas_alloc_checks map_checks user_map_checks user_write_checks
    changed settle without_areas attached detached number_at
returns-clause-cleared_again c = refl

pub returns-clause-cleared_others : goal.returns-clause-cleared_others
unfolding after world_of with_tables attach_checks bind_checks destroy_checks detach_checks device_write_checks
    dirty_checks dirty_enable_checks hwpt_alloc_checks ioas_alloc_checks map_checks user_map_checks user_write_checks
    changed settle without_areas attached detached number_at
returns-clause-cleared_others c = refl

pub returns-clause-turned_on_anew : goal.returns-clause-turned_on_anew
unfolding after world_of with_tables attach_checks bind_checks destroy_checks detach_checks device_write_checks
    dirty_checks dirty_enable_checks hwpt_alloc_checks ioas_alloc_checks map_checks user_map_checks user_write_checks
    changed settle without_areas attached detached number_at
returns-clause-turned_on_anew c = refl

pub returns-clause-turned_off : goal.returns-clause-turned_off
unfolding after world_of with_tables attach_checks bind_checks destroy_checks detach_checks device_write_checks
    dirty_checks dirty_enable_checks hwpt_alloc_checks ioas_alloc_checks map_checks user_map_checks user_write_checks
    changed settle without_areas attached detached number_at
returns-clause-turned_off c = refl

pub returns-clause-detached : goal.returns-clause-detached
unfolding after world_of with_tables attach_checks bind_checks destroy_checks detach_checks device_write_checks
    dirty_checks dirty_enable_checks hwpt_alloc_checks ioas_alloc_checks map_checks user_map_checks user_write_checks
    changed settle without_areas attached detached number_at
returns-clause-detached c = refl

pub returns-clause-both : goal.returns-clause-both
unfolding after world_of with_tables attach_checks bind_checks destroy_checks detach_checks device_write_checks
    dirty_checks dirty_enable_checks hwpt_alloc_checks ioas_alloc_checks map_checks user_map_checks user_write_checks
    changed settle without_areas attached detached number_at
returns-clause-both c = refl

pub returns-clause-one_left : goal.returns-clause-one_left
unfolding after world_of with_tables attach_checks bind_checks destroy_checks detach_checks device_write_checks
    dirty_checks dirty_enable_checks hwpt_alloc_checks ioas_alloc_checks map_checks user_map_checks user_write_checks
    changed settle without_areas attached detached number_at
returns-clause-one_left c = refl
