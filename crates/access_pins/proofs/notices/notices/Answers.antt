use Rattle.std.proofs.Common.{◌≡◌, ◌<◌, ◌∙◌, Some, List, IfOk, OnErr, ap, sym, subst}
use Rattle.access_pins.proofs.Noticed.{noticed_in, some_in}
use Rattle.iofd_words.specs.Bounds.{Bounds}
use Rattle.iofd_words.specs.declared.rows.ObjectKind.TheVariants as kind
use Rattle.server_state.proofs.Objects.{no_space}
use Rattle.access_pins.proofs.notices.notices.Goals as goal

pub returns-in-Some-clause-spans : goal.returns-in-Some-clause-spans
returns-in-Some-clause-spans g c =
    let is = noticed_in c.args.state.now c.args.file c.args.access c.in-Some-Access-Some.ioas
    c.in-Some.areas.now.areas (sym c.in-Some-Access-Some.ensures ∙ ap Some c.in-Some-Access-Some.field-0-is
    ∙ ap (λ o. Some (kind.Access o)) c.in-Some-Access-Some.field-0-0-is) c.in-Some.ensures.1 in
    subst (λ (l : List Bounds). IfOk c.spans_among.result (λ spans. spans.items ≡ l)) (sym is)
    c.spans_among.ensures.spans

pub returns-in-Some-clause-memory : goal.returns-in-Some-clause-memory
returns-in-Some-clause-memory g c =
    let is = some_in c.args.state.now c.args.file c.args.access c.in-Some-Access-Some.ioas
    c.in-Some.areas.now.areas (sym c.in-Some-Access-Some.ensures ∙ ap Some c.in-Some-Access-Some.field-0-is
    ∙ ap (λ o. Some (kind.Access o)) c.in-Some-Access-Some.field-0-0-is) c.in-Some.ensures.1 in
    subst (λ (n : _). OnErr c.spans_among.result (0 < n)) (sym is) c.spans_among.ensures.memory

pub returns-in-None-clause-spans : goal.returns-in-None-clause-spans
returns-in-None-clause-spans g c =
    c.new-in-None.ensures.items
    ∙ sym (noticed_in c.args.state.now c.args.file c.args.access c.in-Some-Access-Some.ioas _
    (sym c.in-Some-Access-Some.ensures ∙ ap Some c.in-Some-Access-Some.field-0-is
    ∙ ap (λ o. Some (kind.Access o)) c.in-Some-Access-Some.field-0-0-is)
    (no_space c.args.state.now.objects.rows c.args.file c.in-Some-Access-Some.ioas c.in-None.ensures))
