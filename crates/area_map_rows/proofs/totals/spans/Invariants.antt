use Rattle.std.proofs.Common.{◌≡◌, ◌+◌, ◌++◌, length, map}
use Rattle.iofd_words.specs.declared.rows.Area.{Area}
use Rattle.area_map_rows.proofs.totals.spans.Given as goal

-- the spans so far
abbrev pub invariant-loop-area : goal.invariant-loop-area
invariant-loop-area g l = record {
  spans : l.spans.items ++ map (λ (area : Area). area.span) l.area-iterator ≡ map
      (λ (area : Area). area.span) l.fn.areas;
  count : length l.spans.items + length l.area-iterator ≡ length l.fn.areas;
}
