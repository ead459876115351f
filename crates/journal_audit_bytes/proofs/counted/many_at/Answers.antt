use Rattle.std.proofs.Common.{◌<◌, ◌≤◌, ◌/◌, length}
use Rattle.std.proofs.lemmas.Result.{err_from_is_err_and}
use Rattle.journal_audit_bytes.specs.HeadReading.{many_at}
use Rattle.journal_audit_bytes.proofs.Elements.{memory_ends, on_memory}
use Rattle.journal_audit_bytes.proofs.Many.{ends_by, enough, goes_on, is_done, starts, too_few}
use Rattle.journal_audit_bytes.proofs.counted.many_at.Goals as goal

pub returns-then-bytes-least-clause-read : goal.returns-then-bytes-least-clause-read
returns-then-bytes-least-clause-read g c =
    let few : length c.args.bytes.now / g.T.Element.least < c.args.count =
    rw (← c.least.ensures) c.if-bytes-least.true in
    too_few (g.T.Element.at c.args.version) g.T.Element.least c.requires c.args.count c.args.bytes.now few

pub returns-in_err-element-clause-read : goal.returns-in_err-element-clause-read
returns-in_err-element-clause-read g c =
    let p = err_from_is_err_and c.from_residual-in_err-element.result c.from_residual-in_err-element.ensures.1 in
    rw (p.1, p.2) (ends_by (g.T.Element.at c.args.version) c.in_err-element.field-0.0 c.loop.elements.items c.args.count
    c.loop.counter c.loop.rest.now (many_at (g.T.Element.at c.args.version) c.args.count c.args.bytes.now)
    c.loop-test.true c.in_err-element.ensures c.loop.invariant)

pub loop-preserved : goal.loop-preserved
loop-preserved g c =
    rw c.in_ok-push.ensures.items (goes_on (g.T.Element.at c.args.version) c.loop.elements.items c.args.count
    c.loop.counter c.loop.rest.now c.in_ok-element.element c.in_ok-element.after.now
    (many_at (g.T.Element.at c.args.version) c.args.count c.args.bytes.now) c.loop-test.true c.in_ok-element.ensures
    c.loop.invariant)

pub returns-clause-read : goal.returns-clause-read
returns-clause-read g c =
    is_done (g.T.Element.at c.args.version) c.loop.elements.items c.args.count c.loop.counter c.loop.rest.now
    (many_at (g.T.Element.at c.args.version) c.args.count c.args.bytes.now) c.loop-test.false c.loop.invariant

pub returns-in_err-element-clause-memory : goal.returns-in_err-element-clause-memory
returns-in_err-element-clause-memory g c =
    let most : c.args.count ≤ length c.args.bytes.now / g.T.Element.least =
    rw (← c.least.ensures) c.if-bytes-least.false in
    on_memory c.from_residual-in_err-element.result
    (enough g.T.Element.least c.args.count (length c.args.bytes.now) c.requires.some most)

pub returns-then-bytes-least-clause-memory : goal.returns-then-bytes-least-clause-memory
returns-then-bytes-least-clause-memory g c = tt

pub returns-in_err-elements-clause-read : goal.returns-in_err-elements-clause-read
returns-in_err-elements-clause-read g c =
    memory_ends (λ x. (x.0.items, x.1.now)) c.from_residual.result
    (many_at (g.T.Element.at c.args.version) c.args.count c.args.bytes.now) c.from_residual.ensures.1

pub returns-in_err-elements-clause-memory : goal.returns-in_err-elements-clause-memory
returns-in_err-elements-clause-memory g c =
    let most : c.args.count ≤ length c.args.bytes.now / g.T.Element.least =
    rw (← c.least.ensures) c.if-bytes-least.false in
    on_memory c.from_residual.result
    (enough g.T.Element.least c.args.count (length c.args.bytes.now) c.requires.some most)

pub loop-init : goal.loop-init
loop-init g c =
    starts (g.T.Element.at c.args.version) c.in_ok-elements.elements.items c.args.count c.args.bytes.now
    c.in_ok-elements.ensures.items

pub returns-in_err-push-clause-read : goal.returns-in_err-push-clause-read
returns-in_err-push-clause-read g c =
    memory_ends (λ x. (x.0.items, x.1.now)) c.from_residual-in_err-push.result
    (many_at (g.T.Element.at c.args.version) c.args.count c.args.bytes.now) c.from_residual-in_err-push.ensures.1

pub returns-in_err-push-clause-memory : goal.returns-in_err-push-clause-memory
returns-in_err-push-clause-memory g c =
    let most : c.args.count ≤ length c.args.bytes.now / g.T.Element.least =
    rw (← c.least.ensures) c.if-bytes-least.false in
    on_memory c.from_residual-in_err-push.result
    (enough g.T.Element.least c.args.count (length c.args.bytes.now) c.requires.some most)

pub returns-clause-memory : goal.returns-clause-memory
returns-clause-memory g c = tt
