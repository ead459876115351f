use Rattle.std.proofs.Common.{List, ℕ, inl, inr, subst, sym, ◌∙◌}
use Rattle.iommufd_cli.specs.Journal.{IsJournalLine}
use Rattle.iommufd_cli.proofs.Written.{end_begun, end_written}
use Rattle.iommufd_cli.proofs.run.put_journal.Goals as goal

pub returns-in-Ok-clause-ok : goal.returns-in-Ok-clause-ok
returns-in-Ok-clause-ok g c =
    end_written c.put.result c.args.config.now c.args.records.now c.deref.result.now _ _
    (inl (subst (λ (text : List ℕ). IsJournalLine c.args.config.now c.args.records.now text)
    (sym c.deref.ensures.value) c.in-Ok.ensures))
    c.put.ensures.ok

pub returns-in-Ok-clause-err : goal.returns-in-Ok-clause-err
returns-in-Ok-clause-err g c =
    end_begun c.put.result c.args.config.now c.args.records.now c.deref.result.now _ _
    (inl (subst (λ (text : List ℕ). IsJournalLine c.args.config.now c.args.records.now text)
    (sym c.deref.ensures.value) c.in-Ok.ensures))
    c.put.ensures.err

pub returns-in-Err-clause-ok : goal.returns-in-Err-clause-ok
returns-in-Err-clause-ok g c =
    end_written c.put-in-Err.result c.args.config.now c.args.records.now c.as_slice.result.now _ _
    (inr (c.as_slice.ensures.bytes ∙ c.memory_line.ensures)) c.put-in-Err.ensures.ok

pub returns-in-Err-clause-err : goal.returns-in-Err-clause-err
returns-in-Err-clause-err g c =
    end_begun c.put-in-Err.result c.args.config.now c.args.records.now c.as_slice.result.now _ _
    (inr (c.as_slice.ensures.bytes ∙ c.memory_line.ensures)) c.put-in-Err.ensures.err
