use Rattle.test_pool.proofs.OnePage.{page_moves}
use Rattle.test_pool.proofs.run_calls.given.Goals as goal

pub returns-in-Ok : goal.returns-in-Ok
returns-in-Ok g c =
    page_moves c.args.memory.now c.map_page.new.self c.args.pool.now c.map_page.new.pool c.args.pins
    c.in-Ok.ensures.objects c.in-Ok.ensures.holds c.requires
