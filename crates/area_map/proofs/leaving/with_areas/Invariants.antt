use Rattle.std.proofs.Common.{◌≡◌, ◌++◌, List}
use Rattle.std.specs.List.{fold}
use Rattle.iofd_words.specs.declared.rows.Area.{Area}
use Rattle.area_map.specs.Kept.{with_leaving}
use Rattle.area_map.proofs.leaving.with_areas.Given as goal

-- the span is that with the areas so far
abbrev pub invariant-loop-area : goal.invariant-loop-area
invariant-loop-area g l = record {
  seen : List Area;
  whole : seen ++ l.area-iterator ≡ l.fn.areas;
  hull : l.hull ≡ fold with_leaving l.fn.hull seen;
}
