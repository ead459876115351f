use Rattle.test_pool.proofs.OnePage.{page_moves}
use Rattle.test_pool.proofs.run_calls.taken.Goals as goal

pub returns : goal.returns
returns g c =
    page_moves c.args.memory.now c.unmap_page.new.self c.args.pool.now c.unmap_page.new.pool c.args.pins
    c.unmap_page.ensures.objects c.unmap_page.ensures.holds c.requires
