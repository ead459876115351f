use Rattle.std.proofs.Common.{ap, not, ◌∙◌, arith}
use Rattle.user_memory_rows.proofs.AreasGoing.{once_own}
use Rattle.user_memory_rows.proofs.Gone.{one_released}
use Rattle.server_state.proofs.release.remove_one.Goals as goal

pub remove_area-requires-clause-access : goal.remove_area-requires-clause-access
remove_area-requires-clause-access g c = λ one index.
    let own = once_own c.args.number in
    c.requires.access (record { memory = c.args.number; index = index }) (omega (arith, one, own))

pub remove_area-requires-2-clause-access : goal.remove_area-requires-2-clause-access
remove_area-requires-2-clause-access g c = λ one index.
    let own = once_own c.args.number in
    let same = c.unpin.ensures.less.areas c.args.number in
    c.unpin.ensures.less.access (record { memory = c.args.number; index = index })
    ∙ c.requires.access (record { memory = c.args.number; index = index }) (omega (arith, one, own, same))

pub returns : goal.returns
returns g c =
    one_released c.args.translated c.args.number c.args.memory.now c.unpin.new.self c.remove_area-2.new.self
    c.args.pool.now c.unpin.new.pool (ap not c.if-not-translated.false)
    c.unpin.ensures.less c.unpin.ensures.settles (c.remove_area-2.ensures.less)
    (c.remove_area-2.ensures.settles c.unpin.new.pool)
