use Rattle.std.proofs.Common.{◌≡◌, ◌∙◌, ap, sym, set, arith}
use Rattle.std.proofs.lemmas.List.Edits.{map_over_more}
use Rattle.iofd_words.specs.Areas.{paid, with_phase}
use Rattle.iofd_words.specs.declared.rows.Area.{Area}
use Rattle.journal_audit_world.proofs.areas.pay.Goals as goal

pub loop-area-preserved : goal.loop-area-preserved
loop-area-preserved g c =
    let f = λ (area : Area). with_phase (paid c.args.device area.phase) area in
    let items = c.loop-area.area-items in
    let step = map_over_more f c.deref_mut-area-items.result.now items c.loop-area.area-index c.area-item.result
    (omega arith) c.loop-area.invariant c.area-item.is in
    let new : c.pay_one.new.area ≡ f c.area-item.result = c.pay_one.ensures ∙ ap f (sym c.area-item.is) in
    ap (λ (a : Area). set items c.loop-area.area-index a) new ∙ step
