use Rattle.std.proofs.Common.{◌≡◌, ◌+◌, ◌++◌, take, vec_len}
use Rattle.std.specs.Vec.{vec_capacity}
use Rattle.iova_ranges.specs.Reserved.{rows_of}
use Rattle.iova_ranges.proofs.reserved.append.Given as goal

abbrev pub invariant-loop-span : goal.invariant-loop-span
invariant-loop-span g l =
    (l.rows.items ≡ l.initial.rows.items ++ rows_of l.owner (take l.span-index l.spans))
    × (vec_len l.rows ≡ vec_len l.initial.rows + l.span-index)
    × (vec_capacity l.rows ≡ vec_capacity l.initial.rows)
