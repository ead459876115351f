use Rattle.iofd_interleavings.proofs.Interleaved.{every_interleaving}
use Rattle.iofd_interleavings.proofs.interleavings.Goals as goal

pub returns : goal.returns
returns g c = every_interleaving
