use Rattle.std.proofs.Common.{refl}
use Rattle.iofd_steps.specs.After.{changed, settle, without_areas}
use Rattle.iofd_refusals.specs.Checks.{access_attach_checks, access_create_checks, access_detach_checks}
use Rattle.iofd_refusals.specs.Checks.{access_pin_checks, access_unpin_checks, access_write_checks, bind_checks}
use Rattle.iofd_refusals.specs.Checks.{copy_checks, destroy_checks, hwpt_alloc_checks, ioas_alloc_checks, map_checks}
use Rattle.iofd_refusals.specs.Checks.{unmap_checks, user_map_checks, user_unmap_checks, user_write_checks}
use Rattle.iofd_words.specs.Levels.{number_at}
use Rattle.iofd_steps.specs.Run.{after, world_of}
use Rattle.iofd_words.specs.Tables.{with_tables}
use Rattle.iofd_examples.proofs.pins.pin_script_leaves_its_worlds.Goals as goal

pub returns-clause-ready : goal.returns-clause-ready
unfolding after world_of with_tables access_attach_checks access_create_checks access_detach_checks access_pin_checks
    access_unpin_checks access_write_checks bind_checks copy_checks destroy_checks hwpt_alloc_checks ioas_alloc_checks
    map_checks unmap_checks user_map_checks user_unmap_checks user_write_checks changed settle without_areas number_at
returns-clause-ready c = refl

pub returns-clause-pinned : goal.returns-clause-pinned
unfolding after world_of with_tables access_attach_checks access_create_checks access_detach_checks access_pin_checks
    access_unpin_checks access_write_checks bind_checks copy_checks destroy_checks hwpt_alloc_checks ioas_alloc_checks
    map_checks unmap_checks user_map_checks user_unmap_checks user_write_checks changed settle without_areas number_at
returns-clause-pinned c = refl

pub returns-clause-kept : goal.returns-clause-kept
unfolding after world_of with_tables access_attach_checks access_create_checks access_detach_checks access_pin_checks
    access_unpin_checks access_write_checks bind_checks copy_checks destroy_checks hwpt_alloc_checks ioas_alloc_checks
    map_checks unmap_checks user_map_checks user_unmap_checks user_write_checks changed settle without_areas number_at
returns-clause-kept c = refl

pub returns-clause-one_left : goal.returns-clause-one_left
unfolding after world_of with_tables access_attach_checks access_create_checks access_detach_checks access_pin_checks
    access_unpin_checks access_write_checks bind_checks copy_checks destroy_checks hwpt_alloc_checks ioas_alloc_checks
    map_checks unmap_checks user_map_checks user_unmap_checks user_write_checks changed settle without_areas number_at
returns-clause-one_left c = refl

pub returns-clause-let_go : goal.returns-clause-let_go
unfolding after world_of with_tables access_attach_checks access_create_checks access_detach_checks access_pin_checks
    access_unpin_checks access_write_checks bind_checks copy_checks destroy_checks hwpt_alloc_checks ioas_alloc_checks
    map_checks unmap_checks user_map_checks user_unmap_checks user_write_checks changed settle without_areas number_at
returns-clause-let_go c = refl

pub returns-clause-pinned_anew : goal.returns-clause-pinned_anew
unfolding after world_of with_tables access_attach_checks access_create_checks access_detach_checks access_pin_checks
    access_unpin_checks access_write_checks bind_checks copy_checks destroy_checks hwpt_alloc_checks ioas_alloc_checks
    map_checks unmap_checks user_map_checks user_unmap_checks user_write_checks changed settle without_areas number_at
returns-clause-pinned_anew c = refl

pub returns-clause-translated : goal.returns-clause-translated
unfolding after world_of with_tables access_attach_checks access_create_checks access_detach_checks access_pin_checks
    access_unpin_checks access_write_checks bind_checks copy_checks destroy_checks hwpt_alloc_checks ioas_alloc_checks
    map_checks unmap_checks user_map_checks user_unmap_checks user_write_checks changed settle without_areas number_at
returns-clause-translated c = refl

pub returns-clause-parted : goal.returns-clause-parted
unfolding after world_of with_tables access_attach_checks access_create_checks access_detach_checks access_pin_checks
    access_unpin_checks access_write_checks bind_checks copy_checks destroy_checks hwpt_alloc_checks ioas_alloc_checks
    map_checks unmap_checks user_map_checks user_unmap_checks user_write_checks changed settle without_areas number_at
returns-clause-parted c = refl

pub returns-clause-leaving : goal.returns-clause-leaving
unfolding after world_of with_tables access_attach_checks access_create_checks access_detach_checks access_pin_checks
    access_unpin_checks access_write_checks bind_checks copy_checks destroy_checks hwpt_alloc_checks ioas_alloc_checks
    map_checks unmap_checks user_map_checks user_unmap_checks user_write_checks changed settle without_areas number_at
returns-clause-leaving c = refl

pub returns-clause-narrow : goal.returns-clause-narrow
unfolding after world_of with_tables access_attach_checks access_create_checks access_detach_checks access_pin_checks
    access_unpin_checks access_write_checks bind_checks copy_checks destroy_checks hwpt_alloc_checks ioas_alloc_checks
    map_checks unmap_checks user_map_checks user_unmap_checks user_write_checks changed settle without_areas number_at
returns-clause-narrow c = refl

pub returns-clause-second_left : goal.returns-clause-second_left
unfolding after world_of with_tables access_attach_checks access_create_checks access_detach_checks access_pin_checks
    access_unpin_checks access_write_checks bind_checks copy_checks destroy_checks hwpt_alloc_checks ioas_alloc_checks
    map_checks unmap_checks user_map_checks user_unmap_checks user_write_checks changed settle without_areas number_at
returns-clause-second_left c = refl

pub returns-clause-first_left : goal.returns-clause-first_left
unfolding after world_of with_tables access_attach_checks access_create_checks access_detach_checks access_pin_checks
    access_unpin_checks access_write_checks bind_checks copy_checks destroy_checks hwpt_alloc_checks ioas_alloc_checks
    map_checks unmap_checks user_map_checks user_unmap_checks user_write_checks changed settle without_areas number_at
returns-clause-first_left c = refl
