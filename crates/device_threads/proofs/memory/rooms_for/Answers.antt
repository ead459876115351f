use Rattle.std.proofs.Common.{sym, subst, rules, List, Vec}
use Rattle.std.specs.declared.alloc.Global.{Global}
use Rattle.device_threads.specs.Workers.{HasRoom}
use Rattle.device_threads.specs.declared.job.JobResult.{JobResult}
use Rattle.device_threads.proofs.Pairs.{GoOn, go_all, go_first, go_next}
use Rattle.device_threads.proofs.memory.rooms_for.Goals as goal

pub loop-worker-init : goal.loop-worker-init
loop-worker-init c =
    let all = c.args.workers.now in
    record {
      room = search rules;
      each = subst (λ (l : List (Vec JobResult Global)). GoOn HasRoom all all l) (sym c.in_ok-rooms.ensures.items)
          (go_first HasRoom all);
    }

pub loop-worker-preserved : goal.loop-worker-preserved
loop-worker-preserved c =
    let loop = c.loop-worker in
    let step = c.in-Some.ensures.cases in
    record {
      room = search rules;
      each = go_next HasRoom c.args.workers.now loop.left.now c.in-Some.others.now loop.rooms.items
          c.push_reserved.new.self.items c.in-Some.worker.now c.in_ok-room.room step.0 c.push_reserved.ensures.items
          c.in_ok-room.ensures loop.invariant.each;
    }

pub returns-clause-rooms : goal.returns-clause-rooms
returns-clause-rooms c =
    let loop = c.loop-worker in
    go_all HasRoom c.args.workers.now loop.left.now loop.rooms.items c.in_default.ensures.cases loop.invariant.each
