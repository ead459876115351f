use Rattle.std.proofs.Common.{ℕ, List, sym, subst}
use Rattle.iofd_words.specs.declared.event.Event.TheVariants as event
use Rattle.lane_lock.specs.Passes.{lanes_of}
use Rattle.shared_iommufd.specs.Servers.{settings_of}
use Rattle.device_threads.specs.Jobs.{ComesOf, IsWritten}
use Rattle.device_threads.specs.declared.job.Job.{Job}
use Rattle.device_threads.specs.declared.job.Outcome.{Outcome}
use Rattle.device_threads.specs.declared.job.Outcome.TheVariants as outcome
use Rattle.device_threads.proofs.Done.{turns}
use Rattle.device_threads.proofs.port_job.perform.Goals as goal

pub returns-in-Write-clause-comes : goal.returns-in-Write-clause-comes
returns-in-Write-clause-comes g c =
    let a = c.args in
    let s = settings_of a.server.now in
    let lanes = lanes_of a.server.now.lock in
    let q = c.write.new.self in
    let told = outcome.Write c.write.result in
    subst (λ (job : Job). ComesOf s lanes a.port.now job told q) (sym c.in-Write.is)
    (subst (λ (bytes : List ℕ). IsWritten s lanes a.port.now c.in-Write.iova.0 bytes c.write.result q)
    c.deref.ensures.value c.write.ensures.writes)

pub returns-in-Flush-clause-comes : goal.returns-in-Flush-clause-comes
returns-in-Flush-clause-comes g c =
    let a = c.args in
    let s = settings_of a.server.now in
    let made = c.flush.ensures in
    subst (λ (x : Job × Outcome). ComesOf s (lanes_of a.server.now.lock) a.port.now x.0 x.1 c.flush.new.self)
    (λ i. (sym c.in-Flush.is i, sym c.turned.ensures i)) (
      turns s (event.Flush a.port.now.device) a.port.now c.flush.new.self c.flush.result made.made made.none made.had
          made.last,
      made.empty,
    )

pub returns-in-Attach-clause-comes : goal.returns-in-Attach-clause-comes
returns-in-Attach-clause-comes g c =
    let a = c.args in
    let s = settings_of a.server.now in
    let made = c.attach.ensures in
    subst (λ (x : Job × Outcome). ComesOf s (lanes_of a.server.now.lock) a.port.now x.0 x.1 c.attach.new.self)
    (λ i. (sym c.in-Attach.is i, sym c.turned-in-Attach.ensures i)) (
      turns s (event.Attach a.port.now.device c.in-Attach.pt_id) a.port.now c.attach.new.self c.attach.result made.made
          made.none made.had made.last,
      made.empty,
    )

pub returns-in-Detach-clause-comes : goal.returns-in-Detach-clause-comes
returns-in-Detach-clause-comes g c =
    let a = c.args in
    let s = settings_of a.server.now in
    let made = c.detach.ensures in
    subst (λ (x : Job × Outcome). ComesOf s (lanes_of a.server.now.lock) a.port.now x.0 x.1 c.detach.new.self)
    (λ i. (sym c.in-Detach.is i, sym c.turned-in-Detach.ensures i)) (
      turns s (event.Detach a.port.now.device) a.port.now c.detach.new.self c.detach.result made.made made.none
          made.had made.last,
      made.empty,
    )
