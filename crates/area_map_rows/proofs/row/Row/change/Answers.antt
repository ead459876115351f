use Rattle.std.proofs.Common.{◌≡◌, List, false, sym, ap, ◌∙◌}
use Rattle.iofd_words.specs.declared.rows.Area.{Area}
use Rattle.area_map_rows.specs.Areas.{changed}
use Rattle.area_map_rows.specs.Rows.{end_of, first_of, has_leaving, widest_of}
use Rattle.area_map_rows.proofs.Kept.{changed-span, end-map, first-map, widest-map}
use Rattle.area_map_rows.proofs.LeavingRows.{live_stay}
use Rattle.area_map_rows.proofs.row.Row.change.Goals as goal

pub invariant_of-self : goal.invariant_of-self
invariant_of-self g c =
    let f = changed c.args.change.now c.args.span in
    let same = changed-span c.args.change.now c.args.span in
    let areas = c.change_all.ensures.areas in
    let before = c.self.invariant in (
      rw (sym c.change_all.ensures.capacity) at before.0,
      before.1 ∙ sym (ap end_of areas ∙ end-map f same c.self.inside.areas.items),
      before.2 ∙ sym (ap widest_of areas ∙ widest-map f same c.self.inside.areas.items),
      before.3 ∙ sym (ap first_of areas ∙ first-map f same c.self.inside.areas.items),
      c.has_leaving-self-inside.ensures ∙ ap has_leaving c.deref.ensures.value,
    )

pub returns-else-reaches_live : goal.returns-else-reaches_live
returns-else-reaches_live g c =
    let now : List Area = c.args.self.now in
    let is : c.self.inside.areas.items ≡ now = c.self.view_is in
    let none : has_leaving now ≡ false = ap has_leaving (sym is) ∙ sym c.self.invariant.4 ∙ c.if-self.false in
    let other = sym c.reaches_live.ensures ∙ c.if-reaches_live.false in
    sym (live_stay c.args.change.now c.args.span other now none)
