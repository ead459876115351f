use Rattle.std.proofs.Common.{◌≡◌, ℕ, max, fold}
use Rattle.iofd_words.specs.declared.rows.Area.{Area}
use Rattle.iofd_words.specs.Areas.{most_tries, tries_of}
use Rattle.area_map_rows.proofs.totals.most_tries.Given as goal

abbrev pub invariant-loop-area : goal.invariant-loop-area
invariant-loop-area g l =
    fold (λ (most : ℕ) (area : Area). max most (tries_of area.phase)) l.most l.area-iterator ≡ most_tries l.fn.areas
