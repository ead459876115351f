use Rattle.journal_audit_bytes.proofs.Asked.{ranges_read}
use Rattle.journal_audit_bytes.proofs.Elements.{memory_passed}
use Rattle.journal_audit_bytes.proofs.commands.allow_iovas_at.Goals as goal

pub returns-in_err-ranges-clause-memory : goal.returns-in_err-ranges-clause-memory
returns-in_err-ranges-clause-memory g c =
    memory_passed c.from_residual.result c.in_err-ranges.field-0.0 c.from_residual.ensures.1
    c.in_err-ranges.ensures.memory
    (λ stands. ranges_read c.args.bytes.now c.in-Some.ensures c.in-Some-u32_at.ensures stands)
