use Rattle.test_pool.proofs.OnePage.{pin_less}
use Rattle.test_pool.proofs.run_calls.unpin.Goals as goal

pub returns : goal.returns
returns g c =
    pin_less c.args.memory.now c.unpin_by_access.new.self c.args.pool.now c.unpin_by_access.new.pool c.args.pins
    (rw c.page.ensures at c.unpin_by_access.ensures.less) c.unpin_by_access.ensures.settles c.requires
