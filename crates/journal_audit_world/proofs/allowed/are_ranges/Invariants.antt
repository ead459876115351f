use Rattle.std.proofs.Common.{◌≡◌, drop}
use Rattle.iofd_words.specs.Allowed.{are_ranges}
use Rattle.journal_audit_world.proofs.allowed.are_ranges.Given as goal

abbrev pub invariant-loop-index : goal.invariant-loop-index
invariant-loop-index l = are_ranges l.ranges ≡ are_ranges (drop l.index l.ranges)
