use Rattle.std.proofs.Common.{length}
use Rattle.iommufd_cli.proofs.Written.{AreKept}
use Rattle.iommufd_cli.proofs.run.run_steps.Given as goal

abbrev pub invariant-loop-step : goal.invariant-loop-step
invariant-loop-step g l =
    AreKept l.initial.core l.initial.steps (g.W.Write.contents l.initial.writer) l.steps
    (g.W.Write.contents l.writer) l.page l.core

abbrev pub decreases-loop-step : goal.decreases-loop-step
decreases-loop-step g l = length l.steps
