use Rattle.std.proofs.Common.{◌≡◌, ◌∙◌, List, ap, refl, subst}
use Rattle.std.proofs.lemmas.Bool.{false≢true}
use Rattle.iofd_words.specs.declared.rows.Area.{Area}
use Rattle.area_map_rows.specs.Areas.{IsCovered, HasGap, is_covered}
use Rattle.area_map_rows.specs.Rows.{in_rows}
use Rattle.area_map_rows.proofs.Kept.{gap_tells}
use Rattle.area_map.specs.AreaTable.{AreaTable}
use Rattle.area_map.proofs.areas.Areas.covered.Goals as goal

pub returns-else-covers-clause-covered : goal.returns-else-covers-clause-covered
returns-else-covers-clause-covered g c =
    let xs = in_rows c.self.inside.rows.items in
    let gap : HasGap c.args.span xs = rw c.deref.ensures.value at c.if-covers.ensures.tells in (
      λ e n low high. absurd (false≢true e),
      λ all. let covered : IsCovered c.args.span xs = rw (← c.self.view_is) at
          all in absurd (gap_tells c.args.span xs gap covered),
    )

pub covers-requires-clause-apart : goal.covers-requires-clause-apart
covers-requires-clause-apart g c = rw c.deref.ensures.value c.self.invariant.0.kept.apart

pub covers-requires-clause-rows : goal.covers-requires-clause-rows
covers-requires-clause-rows g c = rw c.deref.ensures.value c.self.invariant.0.each

pub returns-then-covers-clause-value : goal.returns-then-covers-clause-value
returns-then-covers-clause-value g c =
    let seen : in_rows c.deref.result.now ≡ c.args.self.now.areas =
    ap (λ (rows : List (List Area)). in_rows rows) c.deref.ensures.value
    ∙ ap (λ (table : AreaTable). table.areas) c.self.view_is in
    c.if-covers.ensures.value ∙ ap (is_covered c.args.span) seen

pub returns-else-covers-clause-value : goal.returns-else-covers-clause-value
returns-else-covers-clause-value g c =
    let seen : in_rows c.deref.result.now ≡ c.args.self.now.areas =
    ap (λ (rows : List (List Area)). in_rows rows) c.deref.ensures.value
    ∙ ap (λ (table : AreaTable). table.areas) c.self.view_is in
    c.if-covers.ensures.value ∙ ap (is_covered c.args.span) seen

pub returns-then-covers-clause-covered : goal.returns-then-covers-clause-covered
returns-then-covers-clause-covered g c =
    let seen : in_rows c.deref.result.now ≡ c.args.self.now.areas =
    ap (λ (rows : List (List Area)). in_rows rows) c.deref.ensures.value
    ∙ ap (λ (table : AreaTable). table.areas) c.self.view_is in
    (λ said. subst (λ (areas : List Area). IsCovered c.args.span areas) seen c.if-covers.ensures.tells, λ all. refl)

pub returns-else-covers-clause-gap : goal.returns-else-covers-clause-gap
returns-else-covers-clause-gap g c =
    let seen : in_rows c.deref.result.now ≡ c.args.self.now.areas =
    ap (λ (rows : List (List Area)). in_rows rows) c.deref.ensures.value
    ∙ ap (λ (table : AreaTable). table.areas) c.self.view_is in
    (refl, subst (λ (areas : List Area). HasGap c.args.span areas) seen c.if-covers.ensures.tells)
