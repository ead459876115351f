use Rattle.test_pool.proofs.OnePage.{pin_more}
use Rattle.test_pool.proofs.run_calls.pinned.Goals as goal

pub returns-in-Ok : goal.returns-in-Ok
returns-in-Ok g c =
    pin_more c.args.memory.now c.pin_by_access.new.self c.args.pool.now c.pin_by_access.new.pool c.args.pins
    (rw c.page-3.ensures at c.in-Ok.ensures.more) c.in-Ok.ensures.settles c.requires.page
