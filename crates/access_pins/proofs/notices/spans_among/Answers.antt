use Rattle.std.proofs.Common.{◌++◌, List, refl, sym, ◌∙◌, append-nil, ap}
use Rattle.std.proofs.lemmas.Result.{err_from_is_err_and}
use Rattle.access_pins.proofs.Noticed.{listed, none_noticed, noticed, passed, some_noticed}
use Rattle.iofd_words.specs.Bounds.{Bounds}
use Rattle.iofd_words.specs.declared.rows.Area.{Area}
use Rattle.access_pins.proofs.notices.spans_among.Goals as goal

pub returns-then-not-has_leaving-clause-spans : goal.returns-then-not-has_leaving-clause-spans
returns-then-not-has_leaving-clause-spans g c =
    c.new-spans.ensures.items ∙ sym (none_noticed c.args.pins.now c.args.file c.args.access c.args.areas.now.areas
    (sym c.has_leaving.ensures ∙ c.if-not-has_leaving.true))

pub loop-area-init : goal.loop-area-init
loop-area-init g c =
    ap (λ (spans : List Bounds). spans ++ noticed c.args.pins.now c.args.file c.args.access
    c.into_iter-area-iterator.result) c.new-spans.ensures.items
    ∙ ap (noticed c.args.pins.now c.args.file c.args.access)
    (c.into_iter-area-iterator.ensures.into_iter_gives ∙ c.iter-area-items.ensures.areas)

pub loop-area-preserved-in-Continue-1 : goal.loop-area-preserved-in-Continue-1
loop-area-preserved-in-Continue-1 g c =
    listed c.args.pins.now c.args.file c.args.access c.loop-area.spans.items
    (noticed c.args.pins.now c.args.file c.args.access c.args.areas.now.areas) c.in-Some.area.now
    c.loop-area.area-iterator c.next.new.self c.in-Some.ensures.steps c.loop-area.invariant
    (sym c.is_noticed.ensures ∙ c.if-is_noticed.true) c.push.new.self.items c.in_ok-push.ensures.items

pub returns-in_err-push-clause-memory : goal.returns-in_err-push-clause-memory
returns-in_err-push-clause-memory g c =
    let is = err_from_is_err_and c.from_residual.result c.from_residual.ensures.1 in
    rw is.1 (some_noticed c.args.pins.now c.args.file c.args.access c.loop-area.spans.items
    (noticed c.args.pins.now c.args.file c.args.access c.args.areas.now.areas) c.in-Some.area.now
    c.loop-area.area-iterator c.next.new.self c.in-Some.ensures.steps c.loop-area.invariant
    (sym c.is_noticed.ensures ∙ c.if-is_noticed.true) c.args.areas.now.areas refl)

pub loop-area-preserved : goal.loop-area-preserved
loop-area-preserved g c =
    passed c.args.pins.now c.args.file c.args.access c.loop-area.spans.items
    (noticed c.args.pins.now c.args.file c.args.access c.args.areas.now.areas) c.in-Some.area.now
    c.loop-area.area-iterator c.next.new.self c.in-Some.ensures.steps c.loop-area.invariant
    (sym c.is_noticed.ensures ∙ c.if-is_noticed.false)

pub returns-clause-spans : goal.returns-clause-spans
returns-clause-spans g c =
    sym (append-nil c.loop-area.spans.items)
    ∙ ap (λ (areas : List Area). c.loop-area.spans.items ++ noticed c.args.pins.now c.args.file c.args.access areas)
    (sym c.in-None.ensures.steps.0)
    ∙ c.loop-area.invariant
