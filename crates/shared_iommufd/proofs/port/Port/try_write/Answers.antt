use Rattle.shared_iommufd.specs.Ports.{most_of, standing_of}
use Rattle.shared_iommufd.specs.Servers.{settings_of}
use Rattle.shared_iommufd.proofs.PortWrites.{none_written}
use Rattle.shared_iommufd.proofs.port.Port.try_write.Goals as goal

pub returns-clause-writes : goal.returns-clause-writes
returns-clause-writes g c =
    let a = c.args in
    c.write_on.ensures.writes (standing_of a.self.now)
    (none_written (settings_of a.server.now) a.self.now.device (most_of a.self.now) a.iova.0 a.bytes.now
    (standing_of a.self.now))
