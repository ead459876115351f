use Rattle.std.proofs.Common.{◌%◌, length, refl}
use Rattle.iofd_steps.specs.Run.{world_of}
use Rattle.iofd_words.specs.Tables.{with_tables}
use Rattle.iofd_words.specs.declared.event.Event.TheVariants as event
use Rattle.iofd_words.specs.declared.fault.AccessKind.TheVariants.{Write}
use Rattle.iofd_words.specs.declared.numbers.FrameNo.{FrameNo}
use Rattle.iofd_words.specs.declared.reply.Reply.TheVariants as reply
use Rattle.iofd_promises.specs.Bytes.{ChangesJust}
use Rattle.iofd_promises.specs.Holding.{ReachesByPin}
use Rattle.iofd_promises.proofs.Facts.{fits_of, pinned_of, pins_fit_of}
use Rattle.iofd_promises.proofs.HeldBytes.{held_changes}
use Rattle.iofd_promises.proofs.Steps.{by_event, run_before}
use Rattle.iofd_promises.proofs.memory.held_writes_change_just_their_bytes.Goals as goal

pub returns : goal.returns
unfolding with_tables
returns g c = λ settings before r file access iova bytes run of_event answered.
    let w = world_of settings before in
    let sooner = run_before settings before _ run in
    by_event settings before r run (λ new. (frame : FrameNo) × ReachesByPin w file access iova.0 Write frame
    × ChangesJust w new frame.0 (iova.0 % 4096) bytes)
    (event.AccessWrite file access iova bytes) reply.Done refl of_event answered (λ none answers.
    let (frame, reaches, just) = held_changes (length before) w (pinned_of settings before sooner)
    (fits_of settings before sooner) (pins_fit_of settings before sooner) _ (length before) file access iova bytes
    none in
    (frame, reaches, record { written = just.written; others = just.others }))
