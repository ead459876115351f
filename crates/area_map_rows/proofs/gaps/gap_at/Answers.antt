use Rattle.std.proofs.Common.{◌<◌, List, length, sym, ap, arith}
use Rattle.std.proofs.lemmas.List.{get_or_default}
use Rattle.iofd_words.specs.declared.rows.Area.{Area}
use Rattle.area_map_rows.proofs.Widest.{gap-beyond, gap-between, gap-first}
use Rattle.area_map_rows.proofs.gaps.gap_at.Goals as goal
use Rattle.area_map_rows.proofs.gaps.gap_at.Goals.{then-place-eq0-via-then-place-eq0}
use Rattle.area_map_rows.proofs.gaps.gap_at.Goals.{then-place-eq0-via-else-place-eq0+then-place-areas}

pub returns-then-place-eq0 : goal.returns-then-place-eq0
returns-then-place-eq0 c =
    elim c.then-place-eq0.branch [
      | then-place-eq0-via-then-place-eq0 w ↦ sym
          (gap-first c.args.place c.args.areas.now (omega (arith, w.if-place-eq0)))
      | then-place-eq0-via-else-place-eq0+then-place-areas w ↦ sym
          (gap-beyond c.args.place c.args.areas.now (omega (arith, w.if-place-areas)))
    ]

pub returns : goal.returns
returns c =
    let xs : List Area = c.args.areas.now in
    let place = c.args.place in
    let d = c.index-areas-place.result in
    let some : 0 < place = omega (arith, c.if-place-eq0.false) in
    let within : place < length xs = omega (arith, c.if-place-areas.false) in
    let gap = gap-between place xs d some within in
    let start = ap (λ (a : Area). a.span.first)
    (get_or_default xs place c.index-areas-place-2.result d within) in
    let end = ap (λ (a : Area). a.span.last) c.index-areas-place.is in
    let first = ap (λ (a : Area). a.span.first) c.index-areas-place-2.is in
    omega (
      arith,
      gap,
      start,
      end,
      first,
      c.first.ensures.value,
      c.last-end.ensures.value,
      c.saturating_sub.ensures,
      c.saturating_sub-2.ensures,
    )
