use Rattle.std.proofs.Common.{◌==◌, refl}
use Rattle.std.proofs.lemmas.Bool.{eq-eqb, ne_eqb}
use Rattle.journal_audit_world.proofs.RowByRow.{any_here, any_none, any_on}
use Rattle.journal_audit_world.proofs.tables.is_among.Goals as goal

pub loop-other-preserved : goal.loop-other-preserved
loop-other-preserved c =
    any_on (λ other. other.0 == c.args.frame.0) c.args.frames.now c.loop-other.other-index _ _ _
    c.loop-other-test.true refl (ne_eqb _ _ c.if-other-frame.false) c.loop-other.invariant

pub returns-then-other-frame : goal.returns-then-other-frame
returns-then-other-frame c =
    any_here (λ other. other.0 == c.args.frame.0) c.args.frames.now c.loop-other.other-index _ _ _
    c.loop-other-test.true refl (eq-eqb _ _ c.if-other-frame.true) c.loop-other.invariant

pub returns : goal.returns
returns c =
    any_none (λ other. other.0 == c.args.frame.0) c.args.frames.now c.loop-other.other-index _
    c.loop-other-test.false c.loop-other.invariant
