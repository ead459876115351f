use Rattle.std.proofs.Common.{◌≡◌, ◌++◌, map, take, drop}
use Rattle.iova_ranges.specs.Removing.{trimmed}
use Rattle.iova_ranges.proofs.removing.trim_all.Given as goal

abbrev pub invariant-loop-span : goal.invariant-loop-span
invariant-loop-span g l =
    l.span-items ≡ map (trimmed l.cut) (take l.span-index l.initial.span-items)
    ++ drop l.span-index l.initial.span-items
