use Rattle.std.proofs.Common.{length}
use Rattle.iofd_steps.specs.Run.{world_of}
use Rattle.iofd_promises.proofs.Facts.{fits_of, pinned_of, pins_fit_of}
use Rattle.iofd_promises.proofs.HeldBytes.{held_reads}
use Rattle.iofd_promises.proofs.memory.held_reads_answer_what_stands_there.Goals as goal

pub returns : goal.returns
returns g c = λ settings records file access iova len bytes run has.
    held_reads (length records) (world_of settings records) (pinned_of settings records run)
    (fits_of settings records run) (pins_fit_of settings records run) records file access iova len bytes has
