use Rattle.std.proofs.Common.{◌≡◌, ◌<◌, ◌++◌, ◌&&◌, Bool, not, List, take, drop, sym, ap, ◌∙◌, arith}
use Rattle.iofd_words.specs.Span.{lies_in}
use Rattle.iofd_words.specs.declared.rows.Area.{Area}
use Rattle.area_map_rows.specs.Areas.{AreApart}
use Rattle.area_map_rows.specs.Rows.{end_of, first_of, gap_at, has_leaving, widest_of}
use Rattle.area_map_rows.proofs.LeavingRows.{leaving_left}
use Rattle.area_map_rows.proofs.Widest.{widest-without}
use Rattle.area_map_rows.proofs.row.Row.remove.Goals as goal
use Rattle.area_map_rows.proofs.row.Row.remove.Goals.{in-18446744073709551615, in_default}

pub invariant_of-self : goal.invariant_of-self
invariant_of-self g c =
    let xs : List Area = c.self.inside.areas.items in
    let ys : List Area = c.remove_within-place.new.areas.items in
    let apart : AreApart xs = rw (← c.self.view_is) at c.requires in
    let cut = c.remove_within-place.ensures.cut in
    let from = c.remove_within-place.result in
    let gap : c.gap_at.result ≡ gap_at from (take from xs ++ drop cut.to xs) =
    c.gap_at.ensures ∙ ap (gap_at from) (c.deref-3.ensures.value ∙ cut.rest) in
    let widest : c.match-gap_at.self ≡ widest_of ys = elim c.match-gap_at.branch [
      | in-18446744073709551615 w ↦ w.self-is ∙ w.widest_of-self-inside.ensures
          ∙ ap widest_of w.deref-in-18446744073709551615.ensures.value
      | in_default w ↦ let other : c.gap_at.result < 18446744073709551615 =
          omega (arith, w.in_default, c.gap_at.type_inv) in
          let without = widest-without from cut.to xs apart cut.order (rw gap at other) in
          w.self-is ∙ w.max-self-inside.ensures ∙ rw (c.self.invariant.2, gap, cut.rest) (sym without)
    ] in
    let stay = c.remove_within-place.ensures.areas in
    let outside : Area → Bool = λ a. not (lies_in a.span c.args.span) in
    let left = ap (λ (areas : List Area). c.self.inside.leaves && has_leaving areas) (c.deref-4.ensures.value ∙ stay)
    ∙ leaving_left outside xs c.self.inside.leaves c.self.invariant.4 ∙ ap has_leaving (sym stay) in (
      omega (arith, c.remove_within-place.ensures.capacity, c.self.invariant.0),
      c.end_of-self-inside.ensures ∙ ap end_of c.deref-2.ensures.value,
      widest,
      c.first_of-self-inside.ensures ∙ ap first_of c.deref.ensures.value,
      c.leaves_still-self-inside.ensures ∙ left,
    )
