use Rattle.std.proofs.Common.{◌∙◌, ◌+◌, [], ◌∷◌, List, map, drop, ap, sym, refl}
use Rattle.iofd_words.specs.Areas.{areas_of, is_of}
use Rattle.iofd_words.specs.Bounds.{Bounds}
use Rattle.iofd_words.specs.declared.rows.Area.{Area}
use Rattle.journal_audit_world.proofs.Pushed.{fails, none_left, passes, row_added, row_passed}
use Rattle.journal_audit.proofs.spans.push_areas.Goals.{else-is_of, then-is_of+in_ok-push}
use Rattle.journal_audit.proofs.spans.push_areas.Goals as goal

pub loop-area-preserved : goal.loop-area-preserved
loop-area-preserved g c =
    let spans : List Area → List Bounds =
    λ areas. map (λ (a : Area). a.span) (areas_of areas c.args.file c.args.ioas) in
    let area : Area = c.area-item.result in
    let rest : List Area = drop (c.loop-area.area-index + 1) c.args.areas.now in
    elim c.if-is_of.branch [
      | then-is_of+in_ok-push w ↦ row_added spans c.args.areas.now c.loop-area.area-index area (area.span ∷ [])
          c.loop-area.spans.items c.if-is_of.spans.items _ c.loop-area-test.true c.area-item.is
          (ap (λ (l : List Area). map (λ (a : Area). a.span) l) (passes (is_of c.args.file c.args.ioas) area rest
          (sym c.is_of.ensures ∙ w.if-is_of.true))) (rw w.spans-is w.in_ok-push.ensures.items) c.loop-area.invariant
      | else-is_of w ↦ row_passed spans c.args.areas.now c.loop-area.area-index area
          c.loop-area.spans.items c.if-is_of.spans.items _ c.loop-area-test.true c.area-item.is
          (ap (λ (l : List Area). map (λ (a : Area). a.span) l) (fails (is_of c.args.file c.args.ioas) area rest
          (sym c.is_of.ensures ∙ w.if-is_of.false))) (rw w.spans-is refl) c.loop-area.invariant
    ]

pub returns : goal.returns
returns g c =
    none_left (λ areas. map (λ (a : Area). a.span) (areas_of areas c.args.file c.args.ioas)) c.args.areas.now
    c.loop-area.area-index c.loop-area.spans.items _ refl c.loop-area-test.false c.loop-area.invariant
