use Rattle.iofd_steps.specs.Run.{world_of}
use Rattle.iofd_words.specs.declared.fault.AccessKind.TheVariants.{Write}
use Rattle.iofd_promises.proofs.Denials.{not_denied}
use Rattle.iofd_promises.proofs.Facts.{apart_of, usable_of, widths_of}
use Rattle.iofd_promises.proofs.Outcomes.{write_denied}
use Rattle.iofd_promises.proofs.Spans.{bounded_of}
use Rattle.iofd_promises.proofs.Steps.{run_before}
use Rattle.iofd_promises.proofs.policy.denied_writes_have_no_area.Goals as goal

pub returns : goal.returns
returns g c = λ settings before r device iova bytes fault area run of_event answered over live.
    let earlier = run_before settings before _ run in
    let (reason, there, told) = write_denied settings before r device iova bytes fault run of_event answered in
    not_denied settings (world_of settings before) device iova.0 Write area reason (widths_of settings before earlier)
    (usable_of settings before earlier) (apart_of settings before earlier)
    (bounded_of settings before earlier) over live there
