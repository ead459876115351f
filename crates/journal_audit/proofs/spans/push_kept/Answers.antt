use Rattle.std.proofs.Common.{◌∙◌, refl, sym}
use Rattle.iofd_words.specs.Attachments.{is_attached_to}
use Rattle.iofd_words.specs.Files.{device_of}
use Rattle.iofd_words.specs.Usable.{reserved_in, reserved_of}
use Rattle.journal_audit_world.proofs.Pushed.{kept_added, kept_passed, none_left}
use Rattle.journal_audit.proofs.spans.push_kept.Goals.{else-is_attached_to}
use Rattle.journal_audit.proofs.spans.push_kept.Goals.{then-is_attached_to+in_ok-push_reserved}
use Rattle.journal_audit.proofs.spans.push_kept.Goals as goal

pub loop-attachment-preserved : goal.loop-attachment-preserved
loop-attachment-preserved g c =
    elim c.if-is_attached_to.branch [
      | then-is_attached_to+in_ok-push_reserved w ↦ kept_added (λ a. reserved_of (device_of c.args.config.now a.device))
          (is_attached_to c.args.objects.now c.args.file c.args.ioas) c.args.attachments.now
          c.loop-attachment.attachment-index _ c.loop-attachment.spans.items c.if-is_attached_to.spans.items _
          c.loop-attachment-test.true (sym c.is_attached_to.ensures ∙ w.if-is_attached_to.true)
          (rw w.spans-is w.in_ok-push_reserved.ensures) c.loop-attachment.invariant
      | else-is_attached_to w ↦ kept_passed (λ a. reserved_of (device_of c.args.config.now a.device))
          (is_attached_to c.args.objects.now c.args.file c.args.ioas) c.args.attachments.now
          c.loop-attachment.attachment-index _ c.loop-attachment.spans.items c.if-is_attached_to.spans.items _
          c.loop-attachment-test.true (sym c.is_attached_to.ensures ∙ w.if-is_attached_to.false) (rw w.spans-is refl)
          c.loop-attachment.invariant
    ]

pub returns : goal.returns
returns g c =
    none_left (λ attachments. reserved_in c.args.config.now c.args.objects.now attachments c.args.file c.args.ioas)
    c.args.attachments.now c.loop-attachment.attachment-index c.loop-attachment.spans.items _ refl
    c.loop-attachment-test.false c.loop-attachment.invariant
