use Rattle.std.proofs.Common.{refl, sym, ◌∙◌}
use Rattle.iofd_words.specs.Attachments.{is_attached_to}
use Rattle.iofd_words.specs.Files.{device_of}
use Rattle.iofd_words.specs.Ranges.{meets_some}
use Rattle.iofd_words.specs.Usable.{reserved_of}
use Rattle.server_state.specs.Held.{objects_in}
use Rattle.event_ioas.proofs.UnusableAmong.{any_and}
use Rattle.event_ioas.proofs.unusable.keeps.Goals as goal

pub returns-then-is_attached_to : goal.returns-then-is_attached_to
returns-then-is_attached_to g c =
    c.device_keeps.ensures
    ∙ sym (any_and (is_attached_to (objects_in c.args.table.now) c.args.file c.args.ioas c.args.attachment.now)
    (meets_some (reserved_of (device_of c.args.config.now c.args.attachment.now.device))) c.args.ranges.now
    ∙ rw (sym c.is_attached_to.ensures, c.if-is_attached_to.true) refl)

pub returns-else-is_attached_to : goal.returns-else-is_attached_to
returns-else-is_attached_to g c =
    c.if-is_attached_to.false
    ∙ sym (any_and (is_attached_to (objects_in c.args.table.now) c.args.file c.args.ioas c.args.attachment.now)
    (meets_some (reserved_of (device_of c.args.config.now c.args.attachment.now.device))) c.args.ranges.now
    ∙ rw (sym c.is_attached_to.ensures, c.if-is_attached_to.false) refl)
