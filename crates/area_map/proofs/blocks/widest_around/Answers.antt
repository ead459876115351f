use Rattle.std.proofs.Common.{◌≡◌, ◌∙◌, List, [], get_or, refl, ap, add-one}
use Rattle.std.proofs.Math.Nat.{le_refl}
use Rattle.iofd_words.specs.declared.rows.Area.{Area}
use Rattle.area_map_rows.specs.Rows.{widest_of}
use Rattle.area_map.proofs.blocks.widest_around.Goals as goal
use Rattle.area_map.proofs.blocks.widest_around.Goals.{in-Some, in-None}

pub returns : goal.returns
returns g c =
    let rows : List (List Area) = c.args.rows.now in
    let there = c.get.ensures.lookup.4 (le_refl c.args.place) [] in
    let own : c.match-get.own ≡ widest_of (get_or rows c.args.place []) =
    elim c.match-get.branch [
      | in-Some w ↦ w.own-is ∙ w.widest-own.ensures ∙ ap widest_of (rw w.in-Some.is at there)
      | in-None w ↦ w.own-is ∙ ap widest_of (rw w.in-None.is at there)
    ] in
    rw (c.max-2.ensures, own, c.max.ensures, c.gap_before.ensures, c.gap_before-2.ensures, add-one) refl
