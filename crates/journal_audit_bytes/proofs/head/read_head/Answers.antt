use Rattle.std.proofs.Common.{◌∙◌, ap, subst, Option, List, ℕ, arith}
use Rattle.iofd_words.specs.Settings.{Settings}
use Rattle.journal_audit_bytes.specs.HeadReading.{head_at}
use Rattle.journal_audit_bytes.specs.Reading.{Gives}
use Rattle.journal_audit_bytes.specs.declared.version.Version.{Version}
use Rattle.journal_audit_bytes.proofs.Heads.{head_again, head_found, one_head}
use Rattle.journal_audit_bytes.proofs.head.read_head.Goals as goal

pub returns-clause-found : goal.returns-clause-found
returns-clause-found g c =
    head_found (λ x. (x.0, x.1, x.2.now)) c.args.bytes.now c.head_at.result (λ i. omega (arith, c.type_inv.bytes i))
    c.head_at.ensures.read

pub returns-clause-only : goal.returns-clause-only
returns-clause-only g c =
    λ version s text rest spells is.
    subst (λ (o : Option (Version × Settings × List ℕ)). Gives (λ x. (x.0, x.1, x.2.now)) c.head_at.result o)
    (ap head_at is ∙ head_again version s text rest spells) c.head_at.ensures.read

pub returns-clause-one : goal.returns-clause-one
returns-clause-one g c = λ version s a b p q. one_head version s a b p q
