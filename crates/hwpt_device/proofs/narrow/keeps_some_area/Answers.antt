use Rattle.std.proofs.Common.{◌∙◌, ◌||◌, List, sym, ap}
use Rattle.std.specs.List.{list_any}
use Rattle.iofd_words.specs.Areas.{areas_meet}
use Rattle.iofd_words.specs.Bounds.{Bounds}
use Rattle.iofd_words.specs.declared.rows.Area.{Area}
use Rattle.hwpt_device.proofs.Narrowed.{met_by_kept}
use Rattle.hwpt_device.proofs.narrow.keeps_some_area.Goals as goal

pub returns-then-has_interrupts_in : goal.returns-then-has_interrupts_in
returns-then-has_interrupts_in g c =
    let areas : List Area = c.args.areas.now.areas in
    let device = c.args.settings.now in
    c.if-has_interrupts_in.true ∙ sym (sym (met_by_kept device areas)
    ∙ ap (λ b. b || list_any (λ (span : Bounds). areas_meet span areas) device.reserved)
    (sym c.has_interrupts_in.ensures ∙ c.if-has_interrupts_in.true))

pub returns-else-has_interrupts_in : goal.returns-else-has_interrupts_in
returns-else-has_interrupts_in g c =
    let areas : List Area = c.args.areas.now.areas in
    let device = c.args.settings.now in
    c.meet_some_area.ensures ∙ ap (list_any (λ (span : Bounds). areas_meet span areas)) c.reserved.ensures
    ∙ sym (sym (met_by_kept device areas)
    ∙ ap (λ b. b || list_any (λ (span : Bounds). areas_meet span areas) device.reserved)
    (sym c.has_interrupts_in.ensures ∙ c.if-has_interrupts_in.false))
