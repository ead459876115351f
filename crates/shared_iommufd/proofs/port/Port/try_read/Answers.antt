use Rattle.shared_iommufd.specs.Ports.{most_of, standing_of}
use Rattle.shared_iommufd.specs.Servers.{settings_of}
use Rattle.shared_iommufd.proofs.PortReads.{none_read}
use Rattle.shared_iommufd.proofs.port.Port.try_read.Goals as goal

pub returns-clause-reads : goal.returns-clause-reads
returns-clause-reads g c =
    let a = c.args in
    c.read_on.ensures.reads a.buffer.now (standing_of a.self.now)
    (none_read (settings_of a.server.now) a.self.now.device (most_of a.self.now) a.iova.0 a.buffer.now
    (standing_of a.self.now))
