use Rattle.std.proofs.Common.{◌≡◌, ◌∙◌, ◌+◌, ◌<◌, ℕ, List, [], true, drop, get_or, length, subst, sym, ap, arith, refl}
use Rattle.std.proofs.lemmas.List.{get_or_default, drop_all}
use Rattle.iofd_words.specs.declared.rows.Area.{Area}
use Rattle.area_map_rows.specs.Areas.{AreApart}
use Rattle.area_map_rows.specs.Rows.{first_free, in_rows, starts_from}
use Rattle.area_map_rows.proofs.FirstFree.{free-next, free-stops}
use Rattle.area_map_rows.proofs.Rows.{row-apart, row-few}
use Rattle.area_map_rows.proofs.gaps.free_in_rows.Goals as goal

pub returns-then-starts_from-clause-value : goal.returns-then-starts_from-clause-value
returns-then-starts_from-clause-value g c =
    let rows : List (List Area) = c.args.rows.now in
    let i = c.loop-row.row-index in
    let at = c.loop-row.at in
    let before : starts_from (at + c.args.count) (get_or rows i c.row-item.result) ≡ true =
    subst (λ (row : List Area). starts_from (at + c.args.count) row ≡ true) c.row-item.is
    (sym c.if-starts_from.ensures) in
    sym (free-stops at c.args.count rows i c.row-item.result (omega arith) c.requires.rows before)
    ∙ c.loop-row.invariant.left

pub starts_from-requires-clause-some : goal.starts_from-requires-clause-some
starts_from-requires-clause-some g c =
    let rows : List (List Area) = c.args.rows.now in
    let i = c.loop-row.row-index in
    let within : i < length rows = omega arith in
    let is = c.row-item.is ∙ get_or_default rows i c.row-item.result [] within in
    subst (λ (row : List Area). 0 < length row) (sym is) ((row-few rows i within c.requires.rows).0)

pub free_from-at-requires-clause-apart : goal.free_from-at-requires-clause-apart
free_from-at-requires-clause-apart g c =
    let rows : List (List Area) = c.args.rows.now in
    let i = c.loop-row.row-index in
    let within : i < length rows = omega arith in
    let is = c.row-item.is ∙ get_or_default rows i c.row-item.result [] within in
    subst (λ (row : List Area). AreApart row) (sym is) (row-apart 0 rows i within c.requires.rows c.requires.apart)

pub loop-row-preserved : goal.loop-row-preserved
loop-row-preserved g c =
    let rows : List (List Area) = c.args.rows.now in
    let i = c.loop-row.row-index in
    let at = c.loop-row.at in
    let value = c.free_from-at.ensures.value ∙ ap (λ (row : List Area). first_free at c.args.count row) c.row-item.is in
    record {
      bound = c.free_from-at.ensures.bound;
      left = ap (λ (n : ℕ). first_free n c.args.count (in_rows (drop (i + 1) rows))) value
          ∙ free-next at c.args.count 0 rows i c.row-item.result (omega arith) c.requires.rows c.requires.apart
          ∙ c.loop-row.invariant.left;
    }

pub loop-row-init : goal.loop-row-init
loop-row-init g c = record { bound = c.requires.start; left = refl }

pub offset_bounds-rows-row-index : goal.offset_bounds-rows-row-index
offset_bounds-rows-row-index g c = omega arith

pub bounds-rows-row-index : goal.bounds-rows-row-index
bounds-rows-row-index g c = c.loop-row-test.true

pub starts_from-requires-clause-at : goal.starts_from-requires-clause-at
starts_from-requires-clause-at g c = c.loop-row.invariant.bound

pub returns-then-starts_from-clause-bound : goal.returns-then-starts_from-clause-bound
returns-then-starts_from-clause-bound g c = c.loop-row.invariant.bound

pub free_from-at-requires-clause-at : goal.free_from-at-requires-clause-at
free_from-at-requires-clause-at g c = c.loop-row.invariant.bound

pub free_from-at-requires-clause-begun : goal.free_from-at-requires-clause-begun
free_from-at-requires-clause-begun g c = sym c.if-starts_from.ensures

pub loop-row-smaller : goal.loop-row-smaller
loop-row-smaller g c = omega arith

pub returns-clause-value : goal.returns-clause-value
returns-clause-value g c =
    let rows : List (List Area) = c.args.rows.now in
    let none = drop_all c.loop-row.row-index rows (omega arith) in
    ap (λ (left : List (List Area)). first_free c.loop-row.at c.args.count (in_rows left)) (sym none)
    ∙ c.loop-row.invariant.left

pub returns-clause-bound : goal.returns-clause-bound
returns-clause-bound g c = c.loop-row.invariant.bound
