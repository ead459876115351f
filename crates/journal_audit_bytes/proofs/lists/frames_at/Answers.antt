use Rattle.std.proofs.Common.{arith}
use Rattle.journal_audit_bytes.proofs.Asked.{frames_stand}
use Rattle.journal_audit_bytes.proofs.Elements.{memory_passed}
use Rattle.journal_audit_bytes.proofs.lists.frames_at.Goals as goal

pub returns-in_err-frames-clause-memory : goal.returns-in_err-frames-clause-memory
returns-in_err-frames-clause-memory g c =
    memory_passed c.from_residual.result c.in_err-frames.field-0.0 c.from_residual.ensures.1
    c.in_err-frames.ensures.memory (λ h. frames_stand c.args.bytes.now c.in-Some.count c.in-Some.rest.now
    c.in-Some.ensures (omega (arith, h.0, c.from.ensures)) (omega (arith, h.1, c.from.ensures)))
