use Rattle.std.proofs.Common.{◌≡◌, ℕ, ◌&&◌, not, take}
use Rattle.iofd_words.specs.Ranges.{AreMerged, in_spans}
use Rattle.iova_ranges.specs.Reserved.{is_reserved}
use Rattle.iova_ranges.proofs.reserved.Reserved.outside.Given as goal

abbrev pub invariant-loop-row : goal.invariant-loop-row
invariant-loop-row g l = record {
  set : (n : ℕ) → in_spans l.rest.spans n ≡ (in_spans l.initial.rest.spans n
      && not (is_reserved (take l.row-index l.row-items) n));
  merged : AreMerged l.rest.spans;
}
