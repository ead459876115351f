use Rattle.std.proofs.Common.{length, refl}
use Rattle.iofd_steps.specs.Run.{world_of}
use Rattle.iofd_words.specs.declared.event.Event.TheVariants as event
use Rattle.iofd_words.specs.declared.reply.Reply.TheVariants as reply
use Rattle.iofd_promises.proofs.Facts.{tables_of}
use Rattle.iofd_promises.proofs.FixedAddresses.{copy_could_be_fixed, could_be_fixed}
use Rattle.iofd_promises.proofs.Steps.{answered_in, moved_in, run_before}
use Rattle.iofd_promises.proofs.ranges.chosen_addresses_could_be_fixed.Goals as goal

pub returns-clause-maps : goal.returns-clause-maps
returns-clause-maps g c = λ settings before r file request flags iova run of_event answered fixed reads writes.
    let (none, answers) =
    answered_in settings before r run (event.Map file request) (reply.Iova iova) refl of_event answered in
    could_be_fixed (world_of settings before) file request flags iova fixed reads writes _ (length before)
    (tables_of settings before (run_before settings before _ run)) r.taken r.given none answers
    (moved_in settings before r run (event.Map file request) (reply.Iova iova) refl of_event answered)

pub returns-clause-copies : goal.returns-clause-copies
returns-clause-copies g c = λ settings before r file request flags iova run of_event answered fixed reads writes.
    let (none, answers) =
    answered_in settings before r run (event.Copy file request) (reply.Iova iova) refl of_event answered in
    copy_could_be_fixed (world_of settings before) file request flags iova fixed reads writes _ (length before)
    (tables_of settings before (run_before settings before _ run)) r.taken r.given none answers
    (moved_in settings before r run (event.Copy file request) (reply.Iova iova) refl of_event answered)
