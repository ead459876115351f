use Rattle.std.proofs.Common.{◌≡◌, ◌∙◌, ℕ, ◌+◌, ◌<◌, List, drop, get_or, length, ap, arith, rules}
use borrow.Author.Count.{falls}
use Rattle.std.proofs.lemmas.List.{drop_all}
use Rattle.iofd_words.specs.declared.rows.Area.{Area}
use Rattle.area_map_rows.specs.Rows.{end_of, first_of, in_rows, widest_behind, widest_of}
use Rattle.area_map.proofs.RowsInBlocks.{behind_next}
use Rattle.area_map.proofs.blocks.widest_behind.Goals as goal

pub loop-row-preserved : goal.loop-row-preserved
loop-row-preserved g c =
    let rows : List (List Area) = c.args.rows.now in
    let i = c.loop-row.row-index in
    let d = c.row-item.result in
    let row : List Area = get_or rows i d in
    let within : i < length rows = omega arith in
    let next = behind_next c.loop-row.widest c.loop-row.end rows i d within c.requires in
    let first : c.first.result ≡ first_of row = c.first.ensures ∙ ap first_of c.row-item.is in
    let end : c.end-end.result ≡ end_of row = c.end-end.ensures ∙ ap end_of c.row-item.is in
    let widest : c.widest.result ≡ widest_of row = c.widest.ensures ∙ ap widest_of c.row-item.is in
    let behind = ap (λ (n : ℕ). widest_behind n (in_rows (drop (i + 1) rows))) end in
    omega (
      arith,
      next,
      first,
      widest,
      behind,
      c.loop-row.invariant,
      c.saturating_sub.ensures,
      c.saturating_sub-gap.ensures,
      c.max.ensures,
      c.max-widest.ensures,
    )

pub loop-row-init : goal.loop-row-init
loop-row-init g c = omega arith

pub loop-row-smaller : goal.loop-row-smaller
loop-row-smaller g c = falls (length c.args.rows.now) c.loop-row.row-index c.loop-row-test.true

pub bounds-rows-row-index : goal.bounds-rows-row-index
bounds-rows-row-index g c = c.loop-row-test.true

pub offset_bounds-rows-row-index : goal.offset_bounds-rows-row-index
offset_bounds-rows-row-index g c = search rules

pub returns : goal.returns
returns g c =
    let gone = drop_all c.loop-row.row-index c.args.rows.now (omega arith) in
    let rest = rw gone at c.loop-row.invariant in
    omega (arith, rest)
