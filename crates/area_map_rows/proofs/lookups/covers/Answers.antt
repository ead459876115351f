use Rattle.std.proofs.Common.{◌≤◌, arith, refl}
use Rattle.area_map_rows.specs.Rows.{in_rows}
use Rattle.area_map_rows.proofs.Covers.{is_covered-tells}
use Rattle.area_map_rows.proofs.lookups.covers.Goals as goal

pub returns-clause-value : goal.returns-clause-value
returns-clause-value g c =
    rw (
      c.runs_on.ensures,
      c.reaching.ensures,
      c.first-2.ensures.value,
      c.last.ensures.value,
      c.first.ensures.value,
    ) refl

pub returns-clause-tells : goal.returns-clause-tells
returns-clause-tells g c =
    let ordered : c.args.span.first ≤ c.args.span.last = omega arith in
    rw (returns-clause-value g c) (is_covered-tells c.args.span (in_rows c.args.rows.now) c.requires.apart ordered)
