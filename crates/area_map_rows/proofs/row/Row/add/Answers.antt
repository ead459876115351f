use Rattle.std.proofs.Common.{◌≡◌, ◌<◌, ◌≤◌, List, false, ltb, refl, sym, ap, ◌∙◌, arith}
use Rattle.std.specs.List.{prefix_len}
use Rattle.iofd_words.specs.declared.rows.Area.{Area}
use Rattle.iofd_words.specs.Areas.{areas_meet}
use Rattle.area_map_rows.specs.Areas.{AreApart}
use Rattle.area_map_rows.specs.Rows.{end_of, first_of, gap_at, has_leaving, widest_of}
use Rattle.area_map_rows.proofs.Added.{inserted-with}
use Rattle.area_map_rows.proofs.LeavingRows.{leaving_with}
use Rattle.area_map_rows.proofs.Widest.{widest-with}
use Rattle.area_map_rows.proofs.row.Row.add.Goals as goal

pub returns-then-self-parted : goal.returns-then-self-parted
returns-then-self-parted g c =
    let xs : List Area = c.self.inside.areas.items in
    let ordered : c.args.area.span.first ≤ c.args.area.span.last = omega arith in
    let place = rw (c.deref.ensures.value, c.first.ensures.value) at c.count_below-place.ensures.value in
    inserted-with c.args.area xs c.args.self.now _ c.count_below-place.result c.self.view_is c.requires.apart
    c.requires.alone ordered place (rw c.unwrap.ensures at c.insert.ensures.items)

pub returns-else-self-parted : goal.returns-else-self-parted
returns-else-self-parted g c =
    let xs : List Area = c.self.inside.areas.items in
    let ordered : c.args.area.span.first ≤ c.args.area.span.last = omega arith in
    let place = rw (c.deref.ensures.value, c.first.ensures.value) at c.count_below-place.ensures.value in
    inserted-with c.args.area xs c.args.self.now _ c.count_below-place.result c.self.view_is c.requires.apart
    c.requires.alone ordered place (rw c.unwrap.ensures at c.insert.ensures.items)

pub invariant_of-self-else-self-parted : goal.invariant_of-self-else-self-parted
invariant_of-self-else-self-parted g c =
    let xs : List Area = c.self.inside.areas.items in
    let a = c.args.area in
    let is : xs ≡ c.args.self.now = c.self.view_is in
    let apart : AreApart xs = rw is c.requires.apart in
    let alone : areas_meet a.span xs ≡ false = rw is c.requires.alone in
    let ordered : a.span.first ≤ a.span.last = omega arith in
    let place = rw (c.deref.ensures.value, c.first.ensures.value) at c.count_below-place.ensures.value in
    let made = inserted-with a xs xs _ c.count_below-place.result refl apart alone ordered place
    (rw c.unwrap.ensures at c.insert.ensures.items) in
    let gap = rw c.deref-2.ensures.value at c.gap_at-parted.ensures in
    let less : gap_at (prefix_len (λ (x : Area). ltb x.span.last a.span.first) xs) xs < c.self.inside.widest =
    rw (← place, ← gap) c.if-self-parted.false in
    let stays = widest-with a xs apart ordered alone c.self.inside.widest c.self.invariant.2 (omega arith) less in (
      omega (arith, c.insert.ensures.capacity, c.self.invariant.0),
      c.end_of-self-inside.ensures ∙ ap end_of c.deref-4.ensures.value,
      sym stays ∙ ap widest_of (sym made),
      c.first_of-self-inside.ensures ∙ ap first_of c.deref-3.ensures.value,
      c.leaves_with-self-inside.ensures ∙ leaving_with a xs c.self.inside.leaves c.self.invariant.4
          ∙ ap has_leaving (sym made),
    )

pub invariant_of-self : goal.invariant_of-self
invariant_of-self g c =
    let xs : List Area = c.self.inside.areas.items in
    let a = c.args.area in
    let is : xs ≡ c.args.self.now = c.self.view_is in
    let apart : AreApart xs = rw is c.requires.apart in
    let alone : areas_meet a.span xs ≡ false = rw is c.requires.alone in
    let ordered : a.span.first ≤ a.span.last = omega arith in
    let place = rw (c.deref.ensures.value, c.first.ensures.value) at c.count_below-place.ensures.value in
    let made = inserted-with a xs xs _ c.count_below-place.result refl apart alone ordered place
    (rw c.unwrap.ensures at c.insert.ensures.items) in (
      omega (arith, c.insert.ensures.capacity, c.self.invariant.0),
      c.end_of-self-inside.ensures ∙ ap end_of c.deref-4.ensures.value,
      c.widest_of-self-inside.ensures ∙ ap widest_of c.deref-then-self-parted.ensures.value,
      c.first_of-self-inside.ensures ∙ ap first_of c.deref-3.ensures.value,
      c.leaves_with-self-inside.ensures ∙ leaving_with a xs c.self.inside.leaves c.self.invariant.4
          ∙ ap has_leaving (sym made),
    )
