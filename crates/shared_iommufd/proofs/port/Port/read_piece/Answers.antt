use Rattle.std.proofs.Common.{length, refl}
use Rattle.shared_iommufd.specs.Ports.{most_of, standing_of}
use Rattle.shared_iommufd.specs.Servers.{settings_of}
use Rattle.shared_iommufd.proofs.PortReads.{comes_of_answer, read_answer}
use Rattle.shared_iommufd.proofs.port.Port.read_piece.Goals as goal

pub put-requires : goal.put-requires
put-requires g c =
    let a = c.args in
    let len = length a.piece.now in
    read_answer a.address len c.in-Ok.answer
    (comes_of_answer (settings_of a.server.now) a.self.now.device (most_of a.self.now) (record { 0 = a.address }) len
    (standing_of a.self.now) (standing_of c.ask.new.self) c.in-Ok.answer c.in-Ok.answer refl c.in-Ok.ensures.answered)

pub returns-in-Ok-put-clause-low : goal.returns-in-Ok-put-clause-low
returns-in-Ok-put-clause-low g c =
    let a = c.args in
    (comes_of_answer (settings_of a.server.now) a.self.now.device (most_of a.self.now) (record { 0 = a.address })
    (length a.piece.now) (standing_of a.self.now) (standing_of c.ask.new.self) c.in-Ok.answer _ c.in-Ok-put.ensures.read
    c.in-Ok.ensures.answered).1
