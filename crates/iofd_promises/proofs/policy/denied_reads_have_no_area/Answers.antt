use Rattle.iofd_steps.specs.Run.{world_of}
use Rattle.iofd_words.specs.declared.fault.AccessKind.TheVariants.{Read}
use Rattle.iofd_promises.proofs.Denials.{not_denied}
use Rattle.iofd_promises.proofs.Facts.{apart_of, usable_of, widths_of}
use Rattle.iofd_promises.proofs.Outcomes.{read_denied}
use Rattle.iofd_promises.proofs.Spans.{bounded_of}
use Rattle.iofd_promises.proofs.policy.denied_reads_have_no_area.Goals as goal

pub returns : goal.returns
returns g c = λ settings records device iova len fault area run has over live.
    let (reason, there, told) = read_denied (world_of settings records) records device iova len fault has in
    not_denied settings (world_of settings records) device iova.0 Read area reason (widths_of settings records run)
    (usable_of settings records run) (apart_of settings records run)
    (bounded_of settings records run) over live there
