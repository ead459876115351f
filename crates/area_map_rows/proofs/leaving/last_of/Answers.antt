use Rattle.std.proofs.Common.{◌≡◌, ◌∙◌, ◌++◌, ◌∷◌, [], List, true, false, sym, ap, take}
use Rattle.std.specs.Option.{option_copied}
use Rattle.std.proofs.lemmas.List.{take_more}
use Rattle.iofd_words.specs.declared.rows.Area.{Area}
use Rattle.area_map_rows.specs.Rows.{last_leaving, leaves}
use Rattle.area_map_rows.proofs.LeavingEnds.{last_more}
use Rattle.area_map_rows.proofs.leaving.last_of.Goals as goal
use Rattle.area_map_rows.proofs.leaving.last_of.Goals.{then-is_leaving, else-is_leaving}

pub loop-area-preserved : goal.loop-area-preserved
loop-area-preserved c =
    let front : List Area = take c.loop-area.area-index c.args.areas.now in
    let a = c.area-item.result in
    let more = take_more c.args.areas.now c.loop-area.area-index a c.loop-area-test.true
    ∙ ap (λ (b : Area). front ++ b ∷ []) (sym c.area-item.is) in
    let last = ap last_leaving more ∙ last_more front a in
    elim c.if-is_leaving.branch [
      | then-is_leaving w ↦ let leaves : leaves a ≡ true = sym c.is_leaving.ensures ∙ w.if-is_leaving.true in
          ap option_copied w.last-is ∙ sym (rw leaves at last)
      | else-is_leaving w ↦ let live : leaves a ≡ false = sym c.is_leaving.ensures ∙ w.if-is_leaving.false in
          ap option_copied w.last-is ∙ c.loop-area.invariant ∙ sym (rw live at last)
    ]
