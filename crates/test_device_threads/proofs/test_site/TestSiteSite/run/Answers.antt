use Rattle.device_threads.specs.Workers.{AllBack, AllCanRun, CanRun}
use Rattle.test_device_threads.proofs.Lists.{moved, none}
use Rattle.test_device_threads.proofs.test_site.TestSiteSite.run.Goals as goal
use Rattle.test_device_threads.proofs.test_site.TestSiteSite.run.Goals.{in-Ok, in-Err}

pub invariant_of-result : goal.invariant_of-result
invariant_of-result g c =
    let self = c.args.self in
    let server = self.server in
    let came = c.at_once-came.ensures in
    let both = c.match-came.workers in
    let all : AllCanRun server both.0.items × AllBack server both.1.items = elim c.match-came.branch [
      | in-Ok w ↦ moved both (w.new.result, w.in-Ok.finished) (λ v. AllCanRun server v.items)
          (λ v. AllBack server v.items) w.workers-is
          (none (CanRun server) w.new.result.items w.new.ensures.items, rw w.in-Ok.is at came.back)
      | in-Err w ↦ moved both (w.in-Err.field-0.workers, self.idle) (λ v. AllCanRun server v.items)
          (λ v. AllBack server v.items) w.workers-is (rw w.in-Err.is at came.kept, self.back)
    ] in
    record {
      of_pass = came.owned.0;
      of_port = came.owned.1;
      can = all.0;
      back = all.1;
    }
