use Rattle.journal_audit_bytes.proofs.Asked.{entries_stand}
use Rattle.journal_audit_bytes.proofs.Elements.{memory_passed}
use Rattle.journal_audit_bytes.proofs.lists.entries_at.Goals as goal

pub returns-in_err-ranges-clause-memory : goal.returns-in_err-ranges-clause-memory
returns-in_err-ranges-clause-memory g c =
    memory_passed c.from_residual.result c.in_err-ranges.field-0.0 c.from_residual.ensures.1
    c.in_err-ranges.ensures.memory (λ h. entries_stand c.args.bytes.now c.in-Some.count c.in-Some.rest.now
    c.in-Some.ensures h.0 h.1)
