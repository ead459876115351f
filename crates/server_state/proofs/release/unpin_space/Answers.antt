use Rattle.user_memory_rows.proofs.Gone.{no_pins_released}
use Rattle.server_state.specs.Mapping.{own_areas}
use Rattle.server_state.proofs.release.unpin_space.Goals as goal

pub returns-in_default : goal.returns-in_default
returns-in_default g c =
    no_pins_released (own_areas c.args.table.now c.args.file c.args.ioas) c.args.memory.now c.args.pool.now
    c.in_default.ensures c.requires
