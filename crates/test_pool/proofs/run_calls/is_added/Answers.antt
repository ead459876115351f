use Rattle.test_pool.proofs.OnePage.{first_object}
use Rattle.test_pool.proofs.run_calls.is_added.Goals as goal

pub returns-in-Ok : goal.returns-in-Ok
returns-in-Ok g c =
    λ _. first_object c.args.memory.now c.add.new.self c.args.pool.now c.add.new.pool c.requires.objects
    c.in-Ok.ensures.object c.in-Ok.ensures.settles c.requires.backed
