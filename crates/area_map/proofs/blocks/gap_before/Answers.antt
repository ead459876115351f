use Rattle.std.proofs.Common.{◌≡◌, ◌∙◌, ◌-◌, ◌<◌, List, length, get_or, sym, ap, arith}
use Rattle.std.proofs.lemmas.List.{get_or_default}
use Rattle.iofd_words.specs.declared.rows.Area.{Area}
use Rattle.area_map_rows.specs.Rows.{end_of, first_of}
use Rattle.area_map.proofs.OneRow.{gap-none, gap-past, gap_between}
use Rattle.area_map.proofs.blocks.gap_before.Goals as goal
use Rattle.area_map.proofs.blocks.gap_before.Goals.{then-place-eq0-via-then-place-eq0}
use Rattle.area_map.proofs.blocks.gap_before.Goals.{then-place-eq0-via-else-place-eq0+then-place-rows}

pub returns-then-place-eq0 : goal.returns-then-place-eq0
returns-then-place-eq0 g c =
    elim c.then-place-eq0.branch [
      | then-place-eq0-via-then-place-eq0 w ↦ sym
          (gap-none c.args.place c.args.rows.now (omega (arith, w.if-place-eq0)))
      | then-place-eq0-via-else-place-eq0+then-place-rows w ↦ sym
          (gap-past c.args.place c.args.rows.now (omega (arith, w.if-place-rows)))
    ]

pub returns : goal.returns
returns g c =
    let rows : List (List Area) = c.args.rows.now in
    let place = c.args.place in
    let d = c.index-rows-place.result in
    let within : place < length rows = omega (arith, c.if-place-rows.false) in
    let gap = gap_between place rows d (omega (arith, c.if-place-eq0.false)) within in
    let end : c.end-end.result ≡ end_of (get_or rows (place - 1) d) =
    c.end-end.ensures ∙ ap end_of c.index-rows-place.is in
    let first : c.first.result ≡ first_of (get_or rows place d) =
    c.first.ensures ∙ ap first_of c.index-rows-place-2.is
    ∙ ap first_of (get_or_default rows place c.index-rows-place-2.result d within) in
    omega (arith, gap, end, first, c.saturating_sub.ensures, c.saturating_sub-2.ensures)
