use Rattle.std.proofs.Common.{ℕ, List, Some, subst}
use Rattle.iofd_words.specs.declared.reply.Reply.{Reply}
use Rattle.shared_iommufd.specs.PortWrites.{IsWrittenSo}
use Rattle.shared_iommufd.specs.Ports.{most_of, standing_of}
use Rattle.shared_iommufd.specs.Servers.{settings_of}
use Rattle.shared_iommufd.proofs.DeviceAnswers.{ComesOfWrite}
use Rattle.shared_iommufd.proofs.PortWrites.{comes_of_made, no_other, passed_below}
use Rattle.shared_iommufd.proofs.port.Port.write_piece.Goals as goal

pub unreachable-requires-in_default-reply : goal.unreachable-requires-in_default-reply
unreachable-requires-in_default-reply g c =
    let a = c.args in
    let other = c.in_default-reply in
    let written = (c.in-Ok.ensures).written in
    no_other a.address c.in-Ok.stamp.reply
    (subst (ComesOfWrite a.address) written.reply (comes_of_made (settings_of a.server.now) a.self.now.device
    (record { 0 = a.address }) _ written.finds.translation a.self.now.pass c.make_write.new.self.pass written.stamp
    written.tells.makes)) other.not-Passed other.not-Fault other.not-Refused

pub returns-in-Passed-clause-low : goal.returns-in-Passed-clause-low
returns-in-Passed-clause-low g c =
    let a = c.args in
    let written = (c.in-Ok.ensures).written in
    passed_below a.address c.in-Ok.stamp.reply c.in-Passed.field-0
    (subst (ComesOfWrite a.address) written.reply (comes_of_made (settings_of a.server.now) a.self.now.device
    (record { 0 = a.address }) _ written.finds.translation a.self.now.pass c.make_write.new.self.pass written.stamp
    written.tells.makes)) c.in-Passed.is

pub returns-in-Passed-clause-written : goal.returns-in-Passed-clause-written
returns-in-Passed-clause-written g c =
    let a = c.args in
    let written =
    subst (λ (x : List ℕ × Reply). IsWrittenSo (settings_of a.server.now) a.self.now.device (most_of a.self.now) a.address
    x.0 (standing_of a.self.now) x.1 (Some c.in-Ok.stamp.at) (standing_of c.make_write.new.self))
    (λ i. (c.in-Some.ensures.value i, c.in-Passed.is i)) (c.in-Ok.ensures).written in
    (c.in-Passed.field-0, written)

pub returns-in-Fault-clause-denied : goal.returns-in-Fault-clause-denied
returns-in-Fault-clause-denied g c =
    let a = c.args in
    subst (λ (x : List ℕ × Reply). IsWrittenSo (settings_of a.server.now) a.self.now.device (most_of a.self.now) a.address
    x.0 (standing_of a.self.now) x.1 (Some c.in-Ok.stamp.at) (standing_of c.make_write.new.self))
    (λ i. (c.in-Some.ensures.value i, c.in-Fault.is i)) (c.in-Ok.ensures).written

pub returns-in-Refused-clause-denied : goal.returns-in-Refused-clause-denied
returns-in-Refused-clause-denied g c =
    let a = c.args in
    subst (λ (x : List ℕ × Reply). IsWrittenSo (settings_of a.server.now) a.self.now.device (most_of a.self.now) a.address
    x.0 (standing_of a.self.now) x.1 (Some c.in-Ok.stamp.at) (standing_of c.make_write.new.self))
    (λ i. (c.in-Some.ensures.value i, c.in-Refused.is i)) (c.in-Ok.ensures).written
