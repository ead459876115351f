use Rattle.std.proofs.Common.{◌≡◌, ℕ, take}
use Rattle.iofd_words.specs.Ranges.{AreMerged, in_spans}
use Rattle.iova_ranges.proofs.allowed_ranges.set_in_order.Given as goal

abbrev pub invariant-loop-range : goal.invariant-loop-range
invariant-loop-range g l = record {
  same : (n : ℕ) → in_spans l.set.spans n ≡ in_spans (take l.range-index l.ranges) n;
  merged : AreMerged l.set.spans;
}
