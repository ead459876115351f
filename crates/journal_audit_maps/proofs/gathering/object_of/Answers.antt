use Rattle.std.proofs.Common.{◌==◌, refl}
use Rattle.std.proofs.lemmas.Bool.{eq-eqb, ne_eqb}
use Rattle.journal_audit_world.proofs.RowByRow.{first_here, first_none, first_on}
use Rattle.journal_audit_maps.proofs.gathering.object_of.Goals as goal

pub loop-object-preserved : goal.loop-object-preserved
loop-object-preserved c =
    first_on (λ o. o) (λ m. m.number == c.args.number) c.args.memory.now c.loop-object.object-index _ _ _
    c.loop-object-test.true refl (ne_eqb _ _ c.if-object-number.false) c.loop-object.invariant

pub returns-then-object-number : goal.returns-then-object-number
returns-then-object-number c =
    first_here (λ o. o) (λ m. m.number == c.args.number) c.args.memory.now c.loop-object.object-index _ _ _
    c.loop-object-test.true refl (eq-eqb _ _ c.if-object-number.true) c.loop-object.invariant

pub returns : goal.returns
returns c =
    first_none (λ o. o) (λ m. m.number == c.args.number) c.args.memory.now c.loop-object.object-index _
    c.loop-object-test.false c.loop-object.invariant
