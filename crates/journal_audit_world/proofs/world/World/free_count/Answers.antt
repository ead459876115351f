use Rattle.journal_audit_world.proofs.PoolFew.{pool_few}
use Rattle.journal_audit_world.proofs.world.World.free_count.Goals as goal

pub free_count-requires : goal.free_count-requires
free_count-requires g c = pool_few c.self.inside.config _ c.pool.ensures.value c.pool.ensures.within
