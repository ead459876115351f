use Rattle.iofd_steps.specs.Run.{world_of}
use Rattle.iofd_words.specs.declared.fault.AccessKind.TheVariants.{Read, Write}
use Rattle.iofd_promises.proofs.Outcomes.{read_denied, write_denied}
use Rattle.iofd_promises.proofs.Reasons.{tells_why}
use Rattle.iofd_promises.proofs.policy.faults_tell_why.Goals as goal

pub returns-clause-writes : goal.returns-clause-writes
returns-clause-writes g c = λ settings before r device iova bytes fault run of_event answered.
    let (reason, there, told) = write_denied settings before r device iova bytes fault run of_event answered in
    tells_why (world_of settings before) device iova.0 Write reason fault there told

pub returns-clause-reads : goal.returns-clause-reads
returns-clause-reads g c = λ settings records device iova len fault run has.
    let (reason, there, told) = read_denied (world_of settings records) records device iova len fault has in
    tells_why (world_of settings records) device iova.0 Read reason fault there told
