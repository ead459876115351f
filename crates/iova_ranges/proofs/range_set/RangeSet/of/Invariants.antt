use Rattle.std.proofs.Common.{◌≡◌, ◌==◌, ℕ, length, take}
use Rattle.iofd_words.specs.Ranges.{AreMerged, in_spans}
use Rattle.iova_ranges.proofs.range_set.RangeSet.of.Given as goal

abbrev pub invariant-loop-span : goal.invariant-loop-span
invariant-loop-span g l = record {
  same : (n : ℕ) → in_spans l.set.spans n ≡ in_spans (take l.span-index l.spans) n;
  merged : AreMerged l.set.spans;
  empty : (length l.set.spans == 0) ≡ (l.span-index == 0);
}
