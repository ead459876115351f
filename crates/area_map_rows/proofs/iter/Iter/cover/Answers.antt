use Rattle.std.proofs.Common.{◌≡◌, ◌≤◌, Bool, arith, refl, subst, sym}
use Rattle.area_map_rows.specs.Areas.{runs_on}
use Rattle.area_map_rows.proofs.Covers.{Settled, met_cover}
use Rattle.area_map_rows.proofs.iter.Iter.cover.Goals as goal

pub returns : goal.returns
returns g c =
    let span = c.args.span in
    let met = c.args.self.now in
    let ordered : span.first ≤ span.last = omega arith in
    let same : c.runs_on.result ≡ runs_on span.first span.last met =
    rw (c.runs_on.ensures, c.again.ensures, c.last.ensures.value, c.first.ensures.value) refl in
    subst (λ (b : Bool). Settled b span met) (sym same)
    (met_cover span met c.requires.apart ordered c.requires.met)
