use Rattle.std.proofs.Common.{◌∙◌, ◌∷◌, ◌++◌, List, [], length, map, sym, ap, append_assoc, append-nil, arith, ◌≢◌}
use Rattle.iofd_words.specs.Bounds.{Bounds}
use Rattle.iofd_words.specs.declared.rows.Area.{Area}
use Rattle.std.proofs.lemmas.Bool.{false≢true}
use Rattle.std.proofs.lemmas.List.{length_push}
use Rattle.std.proofs.lemmas.Result.{IfOk-from_err, err_from_is_err_and}
use Rattle.area_map_rows.proofs.totals.spans.Goals as goal

pub loop-area-init : goal.loop-area-init
loop-area-init g c =
    let span = λ (area : Area). area.span in
    let gives = c.into_iter-area-iterator.ensures.into_iter_gives in
    let none = c.in_ok-spans.ensures.items in
    record {
      spans = ap (λ (spans : List Bounds). spans ++ map span c.into_iter-area-iterator.result) none
          ∙ ap (map span) gives;
      count = omega (arith, ap length none, ap length gives);
    }

pub loop-area-smaller : goal.loop-area-smaller
loop-area-smaller g c = omega (arith, ap length c.in-Some.ensures.steps)

pub loop-area-preserved : goal.loop-area-preserved
loop-area-preserved g c =
    let span = λ (area : Area). area.span in
    let area = c.in-Some.area.now in
    let rest : List Area = c.next.new.self in
    let before = c.loop-area.invariant in
    let items : List Bounds = c.loop-area.spans.items in
    let steps = c.in-Some.ensures.steps in
    let pushed = c.in_ok-push.ensures.items in
    record {
      spans = ap (λ (spans : List Bounds). spans ++ map span rest) pushed
          ∙ append_assoc items (area.span ∷ []) (map span rest)
          ∙ ap (λ (areas : List Area). items ++ map span areas) (sym steps) ∙ before.spans;
      count = omega (arith, before.count, ap length pushed, length_push items area.span, ap length steps);
    }

pub returns-clause-ok : goal.returns-clause-ok
returns-clause-ok g c =
    let span = λ (area : Area). area.span in
    let items : List Bounds = c.loop-area.spans.items in
    sym (append-nil items) ∙ ap (λ (areas : List Area). items ++ map span areas) (sym c.in-None.ensures.steps.0)
    ∙ c.loop-area.invariant.spans

pub returns-in_err-spans-clause-ok : goal.returns-in_err-spans-clause-ok
returns-in_err-spans-clause-ok g c = IfOk-from_err c.from_residual.result _ c.from_residual.ensures.0

pub returns-in_err-spans-clause-memory : goal.returns-in_err-spans-clause-memory
returns-in_err-spans-clause-memory g c =
    let is = err_from_is_err_and c.from_residual.result c.from_residual.ensures.1 in
    let some : length c.args.areas ≢ 0 =
    λ none. false≢true (c.in_err-spans.ensures.succeeds (c.requires ∙ none)) in
    rw is.1 (omega (arith, some))

pub returns-in_err-push-clause-ok : goal.returns-in_err-push-clause-ok
returns-in_err-push-clause-ok g c =
    IfOk-from_err c.from_residual-in_err-push.result _ c.from_residual-in_err-push.ensures.0

pub returns-in_err-push-clause-memory : goal.returns-in_err-push-clause-memory
returns-in_err-push-clause-memory g c =
    let is = err_from_is_err_and c.from_residual-in_err-push.result c.from_residual-in_err-push.ensures.1 in
    rw is.1 (omega (arith, c.loop-area.invariant.count, ap length c.in-Some.ensures.steps))
