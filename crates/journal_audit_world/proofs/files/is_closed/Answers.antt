use Rattle.std.proofs.Common.{◌==◌, refl}
use Rattle.std.proofs.lemmas.Bool.{eq-eqb, ne_eqb}
use Rattle.journal_audit_world.proofs.RowByRow.{any_here, any_none, any_on}
use Rattle.journal_audit_world.proofs.files.is_closed.Goals as goal

pub loop-other-preserved : goal.loop-other-preserved
loop-other-preserved c =
    any_on (λ f. f.0 == c.args.file.0) c.args.closed.now c.loop-other.other-index _ _ _ c.loop-other-test.true refl
    (ne_eqb _ _ c.if-other-file.false) c.loop-other.invariant

pub returns-then-other-file : goal.returns-then-other-file
returns-then-other-file c =
    any_here (λ f. f.0 == c.args.file.0) c.args.closed.now c.loop-other.other-index _ _ _ c.loop-other-test.true
    refl (eq-eqb _ _ c.if-other-file.true) c.loop-other.invariant

pub returns : goal.returns
returns c =
    any_none (λ f. f.0 == c.args.file.0) c.args.closed.now c.loop-other.other-index _ c.loop-other-test.false
    c.loop-other.invariant
