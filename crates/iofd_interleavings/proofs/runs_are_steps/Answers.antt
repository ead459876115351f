use Rattle.std.proofs.Common.{ap}
use Rattle.iofd_interleavings.proofs.RunsAreSteps.{run_steps}
use Rattle.iofd_interleavings.proofs.runs_are_steps.Goals as goal

pub returns : goal.returns
returns g c = λ settings records run.
    let both = run_steps settings records run in (both.0, ap (λ s. s.records) both.1)
