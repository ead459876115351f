use Rattle.std.proofs.Common.{◌∙◌, ◌&&◌, ◌+◌, Bool, not, List, [], ◌∷◌, drop, filter, map, refl, ap, sym}
use Rattle.iofd_words.specs.Areas.{with_phase}
use Rattle.iofd_words.specs.declared.rows.Area.{Area}
use Rattle.iofd_words.specs.declared.rows.Phase.TheVariants as phase
use Rattle.journal_audit_world.specs.Keys.{has_number}
use Rattle.journal_audit_world.proofs.Pushed.{fails, none_left, one_more, passes, row_added, row_passed}
use Rattle.journal_audit_world.proofs.keeping.areas_left.Goals.{else-is_left, then-is_left+in_ok-push}
use Rattle.journal_audit_world.proofs.keeping.areas_left.Goals as goal

pub loop-area-preserved : goal.loop-area-preserved
loop-area-preserved g c =
    let p : Area → Bool =
    λ area. has_number c.args.asked.now area.memory && not (has_number c.args.translated.now area.memory) in
    let live : List Area → List Area = λ areas. map (with_phase phase.Live) areas in
    let area : Area = c.area-item.result in
    let rest : List Area = drop (c.loop-area.area-index + 1) c.args.areas.now in
    elim c.if-is_left.branch [
      | then-is_left+in_ok-push w ↦ row_added (λ areas. live (filter p areas)) c.args.areas.now
          c.loop-area.area-index area (with_phase phase.Live area ∷ []) c.loop-area.left.items
          c.if-is_left.left.items _ c.loop-area-test.true c.area-item.is
          (ap live (passes p area rest (sym c.is_left.ensures ∙ w.if-is_left.true)))
          (rw w.left-is (one_more c.loop-area.left.items _ w.as_live.result
          (with_phase phase.Live area) w.in_ok-push.ensures.items w.as_live.ensures)) c.loop-area.invariant
      | else-is_left w ↦ row_passed (λ areas. live (filter p areas)) c.args.areas.now c.loop-area.area-index area
          c.loop-area.left.items c.if-is_left.left.items _ c.loop-area-test.true c.area-item.is
          (ap live (fails p area rest (sym c.is_left.ensures ∙ w.if-is_left.false))) (rw w.left-is refl)
          c.loop-area.invariant
    ]

pub returns : goal.returns
returns g c =
    none_left (λ areas. map (with_phase phase.Live) (filter (λ (area : Area).
    has_number c.args.asked.now area.memory && not (has_number c.args.translated.now area.memory)) areas))
    c.args.areas.now c.loop-area.area-index c.loop-area.left.items _ refl c.loop-area-test.false
    c.loop-area.invariant
