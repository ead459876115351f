use Rattle.std.proofs.Common.{take}
use Rattle.journal_audit_writing.proofs.Journals.{Written}
use Rattle.journal_audit_writing.proofs.whole.write_records.Given as goal

-- those so far are written
abbrev pub invariant-loop-index : goal.invariant-loop-index
invariant-loop-index g l = Written l.config (take l.index l.records) l.initial.out.items l.out.items
