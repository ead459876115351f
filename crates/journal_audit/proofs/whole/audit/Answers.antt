use Rattle.std.proofs.Common.{Ok}
use Rattle.journal_audit.specs.declared.verdict.Verdict.TheVariants.{Torn}
use Rattle.journal_audit.proofs.Begun.{head_users, on_err}
use Rattle.journal_audit.proofs.Judged.{none_read}
use Rattle.journal_audit.proofs.Verdicts.{only}
use Rattle.journal_audit.proofs.Versions.{in_two}
use Rattle.journal_audit.proofs.whole.audit.Goals as goal

pub returns-in-Ok-clause-only : goal.returns-in-Ok-clause-only
returns-in-Ok-clause-only g c =
    only g.row.A.Denot c.args.bytes.now c.go_through.result c.go_through.ensures

pub returns-in-Err-Torn-clause-found : goal.returns-in-Err-Torn-clause-found
returns-in-Err-Torn-clause-found g c = λ version s text rest head is.
    none_read _ _ c.in-Err-Torn.field-0-is (c.in-Err-Torn.ensures.only version s text rest head is)

pub returns-in-Err-Torn-clause-only : goal.returns-in-Err-Torn-clause-only
returns-in-Err-Torn-clause-only g c =
    only g.row.A.Denot c.args.bytes.now (Ok (Torn 0))
    (λ version s text rest head is.
    none_read _ _ c.in-Err-Torn.field-0-is (c.in-Err-Torn.ensures.only version s text rest head is))

pub returns-in-Ok-clause-versions : goal.returns-in-Ok-clause-versions
returns-in-Ok-clause-versions g c = λ rest v untorn is. in_two g.row.A.Denot rest v untorn is

pub returns-in-Err-Torn-clause-versions : goal.returns-in-Err-Torn-clause-versions
returns-in-Err-Torn-clause-versions g c = λ rest v untorn is. in_two g.row.A.Denot rest v untorn is

pub returns-in-Err-Memory-clause-versions : goal.returns-in-Err-Memory-clause-versions
returns-in-Err-Memory-clause-versions g c = λ rest v untorn is. in_two g.row.A.Denot rest v untorn is

pub returns-in-Ok-clause-memory : goal.returns-in-Ok-clause-memory
returns-in-Ok-clause-memory g c =
    let (text, head, is) = c.in-Ok.ensures.found in
    on_err c.go_through.result (head_users c.in-Ok.version _ c.args.bytes.now text c.in-Ok.rest.now head is)

pub returns-in-Err-Memory-clause-memory : goal.returns-in-Err-Memory-clause-memory
returns-in-Err-Memory-clause-memory g c = rw c.in-Err-Memory.field-0-is at c.in-Err-Memory.ensures.memory
