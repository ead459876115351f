use Rattle.std.proofs.Common.{drop}
use Rattle.std.specs.Prelude.{◌↔◌}
use Rattle.iofd_words.specs.Fits.{StartsRise, StartsRiseFrom}
use Rattle.iova_ranges.proofs.fitting.starts_rise.Given as goal

abbrev pub invariant-loop-span : goal.invariant-loop-span
invariant-loop-span l = StartsRiseFrom l.low (drop l.span-index l.spans) ↔ StartsRise l.spans
