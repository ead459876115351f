use Rattle.std.proofs.Common.{◌==◌, refl}
use Rattle.std.proofs.lemmas.Bool.{eq-eqb, ne_eqb}
use Rattle.journal_audit_world.proofs.RowByRow.{first_here, first_none, first_on}
use Rattle.journal_audit_world.proofs.attachments.attachment_of.Goals as goal

pub loop-attachment-preserved : goal.loop-attachment-preserved
loop-attachment-preserved c =
    first_on (λ o. o) (λ a. a.device.0 == c.args.device.0) c.args.attachments.now c.loop-attachment.attachment-index
    _ _ _ c.loop-attachment-test.true refl (ne_eqb _ _ c.if-attachment-device.false) c.loop-attachment.invariant

pub returns-then-attachment-device : goal.returns-then-attachment-device
returns-then-attachment-device c =
    first_here (λ o. o) (λ a. a.device.0 == c.args.device.0) c.args.attachments.now
    c.loop-attachment.attachment-index _ _ _ c.loop-attachment-test.true refl
    (eq-eqb _ _ c.if-attachment-device.true) c.loop-attachment.invariant

pub returns : goal.returns
returns c =
    first_none (λ o. o) (λ a. a.device.0 == c.args.device.0) c.args.attachments.now
    c.loop-attachment.attachment-index _ c.loop-attachment-test.false c.loop-attachment.invariant
