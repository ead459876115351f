use Rattle.std.proofs.Common.{◌≤◌, ◌+◌, ◌-◌, ◌^◌, length, drop}
use Rattle.iova_ranges.proofs.Fitted.{IsLeft}
use Rattle.iova_ranges.proofs.fitting.first_fit.Given as goal

abbrev pub invariant-loop-passed : goal.invariant-loop-passed
invariant-loop-passed l = record {
  bound : l.from ≤ 2 ^ 64;
  left : IsLeft l.count l.spans l.areas l.from (drop l.passed l.spans) (drop l.beside l.areas);
}

abbrev pub decreases-loop-passed : goal.decreases-loop-passed
decreases-loop-passed l = (length l.spans - l.passed) + (length l.areas - l.beside)
