use Rattle.std.proofs.Common.{◌%◌, subst}
use Rattle.iofd_steps.specs.Run.{world_of}
use Rattle.iofd_words.specs.declared.fault.AccessKind.TheVariants.{Read}
use Rattle.iofd_promises.specs.Bytes.{AreBytesOf}
use Rattle.iofd_promises.proofs.Bytes.{are_bytes}
use Rattle.iofd_promises.proofs.Facts.{fits_of}
use Rattle.iofd_promises.proofs.Outcomes.{read_passes}
use Rattle.iofd_promises.proofs.Reached.{reached}
use Rattle.iofd_promises.proofs.policy.read_bytes_are_of_a_reached_frame.Goals as goal

pub returns : goal.returns
returns g c = λ settings records device iova len bytes run has.
    let w = world_of settings records in
    let (frame, there, bytes_are) = read_passes w records device iova len bytes has in (
      frame,
      reached w (fits_of settings records run) device iova.0 Read frame there,
      subst (AreBytesOf w frame.0 (iova.0 % 4096) len) bytes_are (are_bytes w frame.0 (iova.0 % 4096) len),
    )
