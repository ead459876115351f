use Rattle.std.proofs.Common.{sym, refl, ◌∙◌}
use Rattle.iofd_words.specs.Attachments.{is_attached_to}
use Rattle.iofd_words.specs.declared.rows.Attachment.{Attachment}
use Rattle.journal_audit_maps.proofs.AttachedDevices.{taken, passed}
use Rattle.journal_audit_maps.proofs.leaving.attached_to.Goals as goal
use Rattle.journal_audit_maps.proofs.leaving.attached_to.Goals.{then-is_attached_to+else-not-has_device, else-is_attached_to}

-- what stands for an attachment where there is none
no_attachment : Attachment
no_attachment = record { device = record { 0 = 0 }; file = record { 0 = 0 }; hwpt = record { 0 = 0 } }

pub loop-attachment-preserved : goal.loop-attachment-preserved
unfolding no_attachment
loop-attachment-preserved g c =
    elim c.if-is_attached_to.branch [
      | then-is_attached_to+else-not-has_device w ↦ λ rise. w.devices-is ∙ w.insert.ensures
          ∙ taken (is_attached_to c.args.objects.now c.args.file c.args.ioas) c.args.attachments.now
          c.loop-attachment.attachment-index _ no_attachment c.loop-attachment-test.true refl c.loop-attachment.devices
          rise (c.loop-attachment.invariant rise) (sym c.is_attached_to.ensures ∙ w.if-is_attached_to.true)
      | else-is_attached_to w ↦ λ rise. w.devices-is
          ∙ passed (is_attached_to c.args.objects.now c.args.file c.args.ioas) c.args.attachments.now
          c.loop-attachment.attachment-index _ no_attachment c.loop-attachment-test.true refl c.loop-attachment.devices
          (c.loop-attachment.invariant rise) (sym c.is_attached_to.ensures ∙ w.if-is_attached_to.false)
    ]
