use Rattle.std.proofs.Common.{◌∙◌, ap, subst, Option, List, ℕ, arith}
use Rattle.journal_audit_bytes.specs.Format.{Raw}
use Rattle.journal_audit_bytes.specs.Reading.{Gives, raw_of, record_at}
use Rattle.journal_audit_bytes.proofs.Records.{is_found, one_spelling, record_again}
use Rattle.journal_audit_bytes.proofs.reading.read_record.Goals as goal

pub returns-clause-found : goal.returns-clause-found
returns-clause-found g c =
    is_found (λ x. (raw_of x.0, x.1.now)) c.args.version c.args.passes c.args.bytes.now c.record_at.result
    (λ i. omega (arith, c.type_inv.bytes i)) c.record_at.ensures.read

pub returns-clause-only : goal.returns-clause-only
returns-clause-only g c =
    λ r text rest spells is. subst
    (λ (o : Option (Raw × List ℕ)). Gives (λ x. (raw_of x.0, x.1.now)) c.record_at.result o)
    (ap (record_at c.args.version c.args.passes) is ∙ record_again c.args.version c.args.passes r text rest spells)
    c.record_at.ensures.read

pub returns-clause-one : goal.returns-clause-one
returns-clause-one g c = λ r a b p q. one_spelling c.args.version c.args.passes r a b p q
