use Rattle.std.proofs.Common.{◌≡◌, ℕ, ◌+◌, ◌*◌, ◌^◌, ◌≤◌, length}
use Rattle.area_map_rows.specs.Areas.{bytes_of}
use Rattle.area_map_rows.proofs.totals.bytes_of.Given as goal

-- the sum so far, over so many areas
abbrev pub invariant-loop-area : goal.invariant-loop-area
invariant-loop-area g l = record {
  done : ℕ;
  counts : done + length l.area-iterator ≡ length l.fn.areas;
  most : l.bytes ≤ done * 2 ^ 64;
  sum : l.bytes + bytes_of l.area-iterator ≡ bytes_of l.fn.areas;
}
