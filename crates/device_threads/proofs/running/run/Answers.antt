use Rattle.std.proofs.Common.{subst}
use Rattle.shared_iommufd.specs.Ports.{IsPortOf}
use Rattle.device_threads.specs.Pairs.{Pairwise}
use Rattle.device_threads.specs.Workers.{CanRun, HasRoom, HasRun}
use Rattle.device_threads.proofs.Pairs.{pair_all, pair_map, pair_seconds}
use Rattle.device_threads.proofs.running.run.Goals as goal

pub work_beside-requires-clause-may : goal.work_beside-requires-clause-may
work_beside-requires-clause-may g c κs within =
    let server = c.args.server.now in
    pair_all HasRoom (CanRun server) _ (λ worker room can has. record { can = can; room = has })
    c.args.workers.items c.in-Ok.rooms.items c.requires
    (subst (λ workers. Pairwise HasRoom workers c.in-Ok.rooms.items) c.deref.ensures.value c.in-Ok.ensures.rooms)

pub returns-in-Ok-clause-run : goal.returns-in-Ok-clause-run
returns-in-Ok-clause-run g c =
    pair_map _ (HasRun c.args.server.now) (λ worker one came. came.1) c.args.workers.items c.work_beside.result.items
    c.work_beside.ensures.came

pub returns-in-Ok-clause-back : goal.returns-in-Ok-clause-back
returns-in-Ok-clause-back g c =
    let server = c.args.server.now in
    pair_seconds (HasRun server) (λ one. IsPortOf server one.port) (λ worker one has. has.owned) c.args.workers.items
    c.work_beside.result.items
    (pair_map _ (HasRun server) (λ worker one came. came.1) c.args.workers.items c.work_beside.result.items
    c.work_beside.ensures.came)
