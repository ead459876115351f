use Rattle.std.proofs.Common.{◌+◌, List, refl, sym, ◌∙◌, subst}
use Rattle.std.proofs.Common.{rules, arith}
use Rattle.std.specs.Vec.Iter.{into_iter_items}
use Rattle.lane_lock.specs.Passes.{lanes_of}
use Rattle.shared_iommufd.proofs.SamePorts.{port_then}
use Rattle.shared_iommufd.proofs.Shown.{same_pass}
use Rattle.shared_iommufd.specs.Servers.{settings_of}
use Rattle.device_threads.specs.declared.job.Job.{Job}
use Rattle.device_threads.specs.declared.job.JobResult.{JobResult}
use Rattle.device_threads.proofs.Done.{GoesOn, all_done, none_done, one_done, one_fewer}
use Rattle.device_threads.proofs.Pairs.{one_longer}
use Rattle.device_threads.proofs.working.work.Goals as goal

pub loop-job-init : goal.loop-job-init
loop-job-init g c =
    let a = c.args in
    let s = settings_of a.server.now in
    let lanes = lanes_of a.server.now.lock in
    let port = a.worker.port in
    let jobs = a.worker.jobs.items in
    record {
      owned = c.requires.can.owned;
      same = record { device = refl; pass = same_pass port.pass; most = refl };
      measured = search rules;
      counted = search rules;
      numbered = search rules;
      room = c.requires.room.enough;
      done = subst (λ (x : List Job × List JobResult). GoesOn s lanes port jobs 1 port x.0 x.1)
          (λ i. (sym c.into_iter-left.ensures.rest i, sym c.requires.room.empty i)) (none_done s lanes port jobs);
    }

pub loop-job-preserved : goal.loop-job-preserved
loop-job-preserved g c =
    let a = c.args in
    let s = settings_of a.server.now in
    let lanes = lanes_of a.server.now.lock in
    let loop = c.loop-job in
    let inv = loop.invariant in
    let step = c.in-Some.ensures.cases in
    let did = c.do_job-result.ensures in
    let left = into_iter_items loop.left in
    let others = into_iter_items c.next.new.self in
    let first = one_fewer left others c.in-Some.job step.0 in
    let grown = one_longer loop.results.items c.push_reserved.new.self.items c.do_job-result.result
    c.push_reserved.ensures.items in
    let measured = inv.measured in
    let counted = inv.counted in
    let numbered = inv.numbered in
    record {
      owned = did.owned;
      same = port_then a.worker.port loop.port c.do_job-result.new.port inv.same did.done.same;
      measured = omega (arith, first, measured, step.1);
      counted = omega (arith, first, grown, counted);
      numbered = omega (arith, grown, numbered);
      room = search rules;
      done = one_done s lanes a.worker.port a.worker.jobs.items (loop.number + 1) loop.port c.do_job-result.new.port
          left others loop.results.items c.push_reserved.new.self.items c.in-Some.job c.do_job-result.result step.0
          c.push_reserved.ensures.items did.done inv.done;
    }

pub returns : goal.returns
returns g c =
    let a = c.args in
    let loop = c.loop-job in
    let inv = loop.invariant in
    let measured = inv.measured in
    let none = c.in_default.ensures.cases.0 in
    record {
      owned = inv.owned;
      same = inv.same;
      done = all_done (settings_of a.server.now) (lanes_of a.server.now.lock) a.worker.port a.worker.jobs.items
          (loop.number + 1) loop.port (into_iter_items loop.left) loop.results.items (sym measured ∙ none) inv.done;
    }

pub overflow_add-number : goal.overflow_add-number
overflow_add-number g c =
    let inv = c.loop-job.invariant in
    let first = one_fewer (into_iter_items c.loop-job.left) (into_iter_items c.next.new.self) c.in-Some.job
    c.in-Some.ensures.cases.0 in
    let counted = inv.counted in
    let numbered = inv.numbered in
    let few = c.requires.can.few in
    omega (arith, first, counted, numbered, few)
