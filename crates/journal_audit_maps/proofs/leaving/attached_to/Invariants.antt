use Rattle.std.proofs.Common.{◌≡◌, true, take}
use Rattle.iofd_words.specs.Attachments.{devices_of}
use Rattle.iofd_runs.specs.Fits.{devices_rise}
use Rattle.journal_audit_maps.proofs.leaving.attached_to.Given as goal

abbrev pub invariant-loop-attachment : goal.invariant-loop-attachment
invariant-loop-attachment g l = devices_rise l.attachments ≡ true
    → l.devices ≡ devices_of l.objects (take l.attachment-index l.attachments) l.file l.ioas
