use Rattle.std.proofs.Common.{◌≡◌, true, take}
use Rattle.iofd_words.specs.Attachments.{devices_of}
use Rattle.iofd_runs.specs.Fits.{devices_rise}
use Rattle.server_state.specs.Held.{objects_in}
use Rattle.event_unmap.proofs.devices.attached_by.Given as goal

abbrev pub invariant-loop-attachment : goal.invariant-loop-attachment
invariant-loop-attachment g l = devices_rise l.attachments ≡ true
    → l.devices ≡ devices_of (objects_in l.table) (take l.attachment-index l.attachments) l.file l.ioas
