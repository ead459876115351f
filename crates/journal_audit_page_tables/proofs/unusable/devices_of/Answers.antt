use Rattle.std.proofs.Common.{◌∙◌, List, filter, map, refl, sym}
use Rattle.iofd_words.specs.Attachments.{is_attached_to}
use Rattle.iofd_words.specs.declared.rows.Attachment.{Attachment}
use Rattle.journal_audit_world.proofs.Pushed.{mapped_added, mapped_passed, none_left}
use Rattle.journal_audit_page_tables.proofs.unusable.devices_of.Goals.{else-is_attached_to}
use Rattle.journal_audit_page_tables.proofs.unusable.devices_of.Goals.{then-is_attached_to+in_ok-push}
use Rattle.journal_audit_page_tables.proofs.unusable.devices_of.Goals as goal

pub loop-attachment-preserved : goal.loop-attachment-preserved
loop-attachment-preserved g c =
    elim c.if-is_attached_to.branch [
      | then-is_attached_to+in_ok-push w ↦ mapped_added (λ (a : Attachment). a.device)
          (is_attached_to c.args.objects.now c.args.file c.args.ioas) c.args.attachments.now
          c.loop-attachment.attachment-index _ c.loop-attachment.devices.items c.if-is_attached_to.devices.items _
          c.loop-attachment-test.true (sym c.is_attached_to.ensures ∙ w.if-is_attached_to.true)
          (rw w.devices-is w.in_ok-push.ensures.items) c.loop-attachment.invariant
      | else-is_attached_to w ↦ mapped_passed (λ (a : Attachment). a.device)
          (is_attached_to c.args.objects.now c.args.file c.args.ioas) c.args.attachments.now
          c.loop-attachment.attachment-index _ c.loop-attachment.devices.items c.if-is_attached_to.devices.items _
          c.loop-attachment-test.true (sym c.is_attached_to.ensures ∙ w.if-is_attached_to.false)
          (rw w.devices-is refl) c.loop-attachment.invariant
    ]

pub returns : goal.returns
returns g c =
    none_left (λ (rows : List Attachment). map (λ (a : Attachment). a.device)
    (filter (is_attached_to c.args.objects.now c.args.file c.args.ioas) rows)) c.args.attachments.now
    c.loop-attachment.attachment-index c.loop-attachment.devices.items _ refl c.loop-attachment-test.false
    c.loop-attachment.invariant
