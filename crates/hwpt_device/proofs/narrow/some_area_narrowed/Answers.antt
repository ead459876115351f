use Rattle.std.proofs.Common.{◌∙◌, ◌||◌, Bool, List, sym, ap}
use Rattle.std.specs.List.{list_any}
use Rattle.iofd_words.specs.Ranges.{meets_some}
use Rattle.iofd_words.specs.Span.{meets}
use Rattle.iofd_words.specs.Usable.{beyond, reserved_by}
use Rattle.iofd_words.specs.declared.rows.Area.{Area}
use Rattle.hwpt_device.proofs.Narrowed.{either}
use Rattle.hwpt_device.proofs.narrow.some_area_narrowed.Goals as goal

pub returns-then-reach_beyond : goal.returns-then-reach_beyond
returns-then-reach_beyond g c =
    let areas : List Area = c.args.areas.now.areas in
    let width = c.args.settings.now.width in
    let kept : Area → Bool = λ area. meets_some (reserved_by c.args.settings.now) area.span in
    let reached = ap (λ w. list_any (λ (area : Area). meets (beyond w) area.span) areas) (sym c.width.ensures)
    ∙ sym c.reach_beyond.ensures ∙ c.if-reach_beyond.true in
    c.if-reach_beyond.true
    ∙ sym (either (λ area. meets (beyond width) area.span) kept areas ∙ ap (λ b. b || list_any kept areas) reached)

pub returns-else-reach_beyond : goal.returns-else-reach_beyond
returns-else-reach_beyond g c =
    let areas : List Area = c.args.areas.now.areas in
    let width = c.args.settings.now.width in
    let kept : Area → Bool = λ area. meets_some (reserved_by c.args.settings.now) area.span in
    let reached = ap (λ w. list_any (λ (area : Area). meets (beyond w) area.span) areas) (sym c.width.ensures)
    ∙ sym c.reach_beyond.ensures ∙ c.if-reach_beyond.false in
    c.keeps_some_area.ensures
    ∙ sym (either (λ area. meets (beyond width) area.span) kept areas ∙ ap (λ b. b || list_any kept areas) reached)
