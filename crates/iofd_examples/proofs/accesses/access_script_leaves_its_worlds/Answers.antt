use Rattle.std.proofs.Common.{refl}
use Rattle.iofd_steps.specs.After.{changed, settle, without_areas}
use Rattle.iofd_refusals.specs.Checks.{access_create_checks, access_attach_checks, access_detach_checks}
use Rattle.iofd_refusals.specs.Checks.{bind_checks, close_checks, destroy_checks, ioas_alloc_checks, map_checks}
use Rattle.iofd_refusals.specs.Checks.{unmap_checks, user_map_checks}
use Rattle.iofd_words.specs.Levels.{number_at}
use Rattle.iofd_steps.specs.Look.{answers_in}
use Rattle.iofd_steps.specs.Run.{after, world_of}
use Rattle.iofd_words.specs.Tables.{with_tables}
use Rattle.iofd_examples.proofs.accesses.access_script_leaves_its_worlds.Goals as goal

pub returns-clause-attached : goal.returns-clause-attached
unfolding after world_of with_tables access_create_checks access_attach_checks access_detach_checks bind_checks
    close_checks destroy_checks ioas_alloc_checks map_checks unmap_checks user_map_checks changed settle without_areas
    number_at
returns-clause-attached c = refl

pub returns-clause-mapped : goal.returns-clause-mapped
unfolding after world_of with_tables access_create_checks access_attach_checks access_detach_checks bind_checks
    close_checks destroy_checks ioas_alloc_checks map_checks unmap_checks user_map_checks changed settle without_areas
    number_at
returns-clause-mapped c = refl

pub returns-clause-unmapped : goal.returns-clause-unmapped
unfolding after world_of with_tables access_create_checks access_attach_checks access_detach_checks bind_checks
    close_checks destroy_checks ioas_alloc_checks map_checks unmap_checks user_map_checks changed settle without_areas
    number_at
returns-clause-unmapped c = refl

pub returns-clause-changed : goal.returns-clause-changed
unfolding after world_of with_tables access_create_checks access_attach_checks access_detach_checks bind_checks
    close_checks destroy_checks ioas_alloc_checks map_checks unmap_checks user_map_checks changed settle without_areas
    number_at
returns-clause-changed c = refl

pub returns-clause-looks : goal.returns-clause-looks
unfolding answers_in
returns-clause-looks c = refl
