use Rattle.std.proofs.Common.{◌≡◌, ◌+◌, ◌≤◌, ◌++◌, length}
use Rattle.iommufd_script.specs.Lines.{lines}
use Rattle.iommufd_script.specs.Script.{first_bad, start, steps_of}
use Rattle.iommufd_script.proofs.script.append_steps.Given as goal

abbrev pub invariant-loop-rest : goal.invariant-loop-rest
invariant-loop-rest g l = record {
  same : first_bad l.number l.place (lines l.rest) ≡ first_bad 0 start (lines l.initial.rest);
  count : l.number + length l.rest ≤ length l.initial.rest;
  taken : l.steps.items ++ steps_of l.rest ≡ l.initial.steps.items ++ steps_of l.initial.rest;
}

abbrev pub decreases-loop-rest : goal.decreases-loop-rest
decreases-loop-rest g l = length l.rest
