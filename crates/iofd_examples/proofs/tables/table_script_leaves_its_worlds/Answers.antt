use Rattle.std.proofs.Common.{refl}
use Rattle.iofd_steps.specs.After.{changed, settle, without_areas, attached, detached}
use Rattle.iofd_refusals.specs.Checks.{attach_checks, bind_checks, close_checks, detach_checks, flush_checks}
use Rattle.iofd_refusals.specs.Checks.{hwpt_alloc_checks, ioas_alloc_checks, map_checks, unbind_checks}
use Rattle.iofd_refusals.specs.Checks.{unmap_checks, user_map_checks}
use Rattle.iofd_words.specs.Levels.{number_at}
use Rattle.iofd_steps.specs.Run.{after, world_of}
use Rattle.iofd_words.specs.Tables.{with_tables}
use Rattle.iofd_examples.proofs.tables.table_script_leaves_its_worlds.Goals as goal

pub returns-clause-two_tables : goal.returns-clause-two_tables
unfolding after world_of with_tables attach_checks bind_checks close_checks detach_checks flush_checks
    hwpt_alloc_checks ioas_alloc_checks map_checks unbind_checks unmap_checks user_map_checks changed settle
    without_areas attached detached number_at
returns-clause-two_tables c = refl

pub returns-clause-mapped : goal.returns-clause-mapped
unfolding after world_of with_tables attach_checks bind_checks close_checks detach_checks flush_checks
    hwpt_alloc_checks ioas_alloc_checks map_checks unbind_checks unmap_checks user_map_checks changed settle
    without_areas attached detached number_at
returns-clause-mapped c = refl

pub returns-clause-unmapped : goal.returns-clause-unmapped
unfolding after world_of with_tables attach_checks bind_checks close_checks detach_checks flush_checks
    hwpt_alloc_checks ioas_alloc_checks map_checks unbind_checks unmap_checks user_map_checks changed settle
    without_areas attached detached number_at
returns-clause-unmapped c = refl

pub returns-clause-parted : goal.returns-clause-parted
unfolding after world_of with_tables attach_checks bind_checks close_checks detach_checks flush_checks
    hwpt_alloc_checks ioas_alloc_checks map_checks unbind_checks unmap_checks user_map_checks changed settle
    without_areas attached detached number_at
returns-clause-parted c = refl

pub returns-clause-closed : goal.returns-clause-closed
unfolding after world_of with_tables attach_checks bind_checks close_checks detach_checks flush_checks
    hwpt_alloc_checks ioas_alloc_checks map_checks unbind_checks unmap_checks user_map_checks changed settle
    without_areas attached detached number_at
returns-clause-closed c = refl
