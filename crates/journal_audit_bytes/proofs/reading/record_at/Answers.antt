use Rattle.std.proofs.Common.{arith}
use Rattle.journal_audit_bytes.specs.Reading.{of_frames, tagged_event, tagged_reply}
use Rattle.journal_audit_bytes.proofs.Asked.{event_list, given_list, taken_list}
use Rattle.journal_audit_bytes.proofs.Elements.{memory_passed}
use Rattle.journal_audit_bytes.proofs.reading.record_at.Goals as goal

pub returns-in_err-event-clause-memory : goal.returns-in_err-event-clause-memory
returns-in_err-event-clause-memory g c =
    memory_passed c.from_residual.result c.in_err-event.field-0.0 c.from_residual.ensures.1
    c.in_err-event.ensures.memory (λ h. event_list c.args.version c.args.passes c.args.bytes.now
    (λ i. omega (arith, c.type_inv.bytes i)) c.in-Some.ensures c.if-pass-passes.false h)

pub returns-in_err-taken-clause-memory : goal.returns-in_err-taken-clause-memory
returns-in_err-taken-clause-memory g c =
    memory_passed c.from_residual-in_err-taken.result c.in_err-taken.field-0.0 c.from_residual-in_err-taken.ensures.1
    c.in_err-taken.ensures.memory (λ h. taken_list c.args.version c.args.passes c.args.bytes.now
    (λ i. omega (arith, c.type_inv.bytes i)) c.in-Some.ensures c.if-pass-passes.false
    (tagged_event c.in_ok-event.event, c.in_ok-event.rest.now)
    (tagged_reply c.in-Some-reply_at.reply, c.in-Some-reply_at.rest.now) c.in_ok-event.ensures.read
    c.in-Some-reply_at.ensures h)

pub returns-in_err-given-clause-memory : goal.returns-in_err-given-clause-memory
returns-in_err-given-clause-memory g c =
    memory_passed c.from_residual-in_err-given.result c.in_err-given.field-0.0 c.from_residual-in_err-given.ensures.1
    c.in_err-given.ensures.memory (λ h. given_list c.args.version c.args.passes c.args.bytes.now
    (λ i. omega (arith, c.type_inv.bytes i)) c.in-Some.ensures c.if-pass-passes.false
    (tagged_event c.in_ok-event.event, c.in_ok-event.rest.now)
    (tagged_reply c.in-Some-reply_at.reply, c.in-Some-reply_at.rest.now) c.in_ok-event.ensures.read
    c.in-Some-reply_at.ensures (of_frames c.in_ok-taken.taken, c.in_ok-taken.rest.now) c.in_ok-taken.ensures.read h)
