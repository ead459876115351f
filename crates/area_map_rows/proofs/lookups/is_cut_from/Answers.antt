use Rattle.std.proofs.Common.{◌∙◌, Some, refl, sym}
use Rattle.iofd_words.specs.Areas.{area_at}
use Rattle.area_map_rows.specs.Rows.{in_rows}
use Rattle.area_map_rows.proofs.Found.{cut_above, cut_below, cut_first, cut_within}
use Rattle.area_map_rows.proofs.lookups.is_cut_from.Goals as goal

pub returns-then-meets : goal.returns-then-meets
returns-then-meets g c =
    let is = cut_first c.args.span (in_rows c.args.rows.now) (Some c.args.area.now) c.requires.apart
    (rw c.last.ensures.value at c.last.ensures.ordered) c.requires.first in
    let within = cut_within c.args.span c.args.area.now (area_at c.args.span.last (in_rows c.args.rows.now))
    (rw (c.last.ensures.value, c.last-2.ensures.value) at c.if-last.true) in
    rw (c.lies_in.ensures, is, within, sym c.if-meets.ensures) refl

pub returns-else-meets : goal.returns-else-meets
returns-else-meets g c =
    let is = cut_first c.args.span (in_rows c.args.rows.now) (Some c.args.area.now) c.requires.apart
    (rw c.last.ensures.value at c.last.ensures.ordered) c.requires.first in
    let within = cut_within c.args.span c.args.area.now (area_at c.args.span.last (in_rows c.args.rows.now))
    (rw (c.last.ensures.value, c.last-2.ensures.value) at c.if-last.true) in
    rw (c.if-meets.false, is, within, sym c.if-meets.ensures) refl

pub returns-then-first : goal.returns-then-first
returns-then-first g c =
    let is = cut_first c.args.span (in_rows c.args.rows.now) (Some c.args.area.now) c.requires.apart
    (rw c.last.ensures.value at c.last.ensures.ordered) c.requires.first in
    let below = cut_below c.args.span c.args.area.now (area_at c.args.span.last (in_rows c.args.rows.now))
    (rw (c.last.ensures.value, c.last-2.ensures.value) at c.if-last.false)
    (rw (c.first.ensures.value, c.first-2.ensures.value) at c.if-first.true) in
    rw (c.first.ensures.value, c.first-2.ensures.value) (sym (is ∙ below))

pub returns-else-first : goal.returns-else-first
returns-else-first g c =
    let is = cut_first c.args.span (in_rows c.args.rows.now) (Some c.args.area.now) c.requires.apart
    (rw c.last.ensures.value at c.last.ensures.ordered) c.requires.first in
    let above = cut_above c.args.span c.args.area.now (area_at c.args.span.last (in_rows c.args.rows.now))
    (rw (c.last.ensures.value, c.last-2.ensures.value) at c.if-last.false)
    (rw (c.first.ensures.value, c.first-2.ensures.value) at c.if-first.false) in
    rw c.last-else-first.ensures.value at c.is_cut_after.ensures ∙ sym (is ∙ above)
