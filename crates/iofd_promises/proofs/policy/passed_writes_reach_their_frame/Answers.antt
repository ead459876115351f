use Rattle.iofd_promises.proofs.Facts.{fits_of}
use Rattle.iofd_promises.proofs.Outcomes.{write_passes}
use Rattle.iofd_promises.proofs.Reached.{reached}
use Rattle.iofd_promises.proofs.Steps.{run_before}
use Rattle.iofd_steps.specs.Run.{world_of}
use Rattle.iofd_words.specs.declared.fault.AccessKind.TheVariants.{Write}
use Rattle.iofd_promises.proofs.policy.passed_writes_reach_their_frame.Goals as goal

pub returns : goal.returns
returns g c = λ settings before r device iova bytes frame run of_event answered.
    reached (world_of settings before) (fits_of settings before (run_before settings before _ run)) device iova.0 Write
    frame (write_passes settings before r device iova bytes frame run of_event answered)
