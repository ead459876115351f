use Rattle.std.proofs.Common.{◌++◌, ◌∙◌, ◌∷◌, [], List, Vec, ap, sym}
use Rattle.std.specs.declared.alloc.Global.{Global}
use Rattle.iofd_words.specs.Bounds.{Bounds}
use Rattle.iommufd_c.specs.declared.reserving.ReservedRow.{ReservedRow}
use Rattle.iommufd_c.proofs.Rows.{no_span_more, one_span_more}
use Rattle.iommufd_c.proofs.reserving.reserved_for.Goals as goal
use Rattle.iommufd_c.proofs.reserving.reserved_for.Goals.{then-from-device+in_ok-push, else-from-device}

pub loop-row-preserved : goal.loop-row-preserved
loop-row-preserved c =
    let now = c.loop-row in
    let rows = c.args.rows.now in
    let items : Vec Bounds Global → List Bounds = λ spans. spans.items in
    let none : ReservedRow = record { first = 0; last = 0; device = 0 } in
    let here = c.loop-row-test.true in
    elim c.if-from-device.branch [
      | then-from-device+in_ok-push w ↦ ap items w.spans-is ∙ (w.in_ok-push.ensures.items
          ∙ (ap (λ (span : Bounds). now.spans.items ++ span ∷ []) w.span_of.ensures
          ∙ one_span_more rows c.args.device now.row-index none here now.spans.items now.invariant
          (sym c.from.ensures ∙ w.if-from-device.true)))
      | else-from-device w ↦ ap items w.spans-is ∙ (now.invariant
          ∙ no_span_more rows c.args.device now.row-index none here
          (λ named. w.if-from-device.false (c.from.ensures ∙ named)))
    ]
