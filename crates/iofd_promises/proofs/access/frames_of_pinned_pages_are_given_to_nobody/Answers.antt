use Rattle.std.proofs.Common.{length, refl, sym}
use Rattle.iofd_words.specs.Frames.{is_free}
use Rattle.iofd_steps.specs.Run.{world_of}
use Rattle.iofd_words.specs.declared.numbers.FrameNo.{FrameNo}
use Rattle.iofd_words.specs.declared.reply.Reply.TheVariants as reply
use Rattle.iofd_rows.proofs.Each.{of_each}
use Rattle.iofd_promises.specs.Owners.{IsNobodys}
use Rattle.iofd_promises.proofs.Facts.{pinned_of, usable_of}
use Rattle.iofd_promises.proofs.GivenOut.{given_nobodys, nobodys}
use Rattle.iofd_promises.proofs.KeptPinned.{has_pin}
use Rattle.iofd_promises.proofs.Rows.{within}
use Rattle.iofd_promises.proofs.Steps.{by_answer, by_taken, run_before}
use Rattle.iofd_promises.proofs.access.frames_of_pinned_pages_are_given_to_nobody.Goals as goal

pub returns-clause-to_users : goal.returns-clause-to_users
returns-clause-to_users g c = λ settings before r memory index frame run keeps answered.
    let w = world_of settings before in
    let sooner = run_before settings before _ run in
    let (pin, there, of, at) = has_pin (length before) w (pinned_of settings before sooner)
    (usable_of settings before sooner).sound.own_ids memory index keeps in
    let free : IsNobodys w frame =
    by_answer settings before r run (λ new. IsNobodys w frame) (reply.Frame frame) refl answered
    (λ none answers. given_nobodys w r.event frame answers) in
    (pin, there, of, at, λ same. free.pins pin there (sym same))

pub returns-clause-for_tables : goal.returns-clause-for_tables
returns-clause-for_tables g c = λ settings before r memory index frame run keeps has.
    let w = world_of settings before in
    let sooner = run_before settings before _ run in
    let (pin, there, of, at) = has_pin (length before) w (pinned_of settings before sooner)
    (usable_of settings before sooner).sound.own_ids memory index keeps in
    let free : IsNobodys w frame =
    nobodys w frame (of_each (λ (f : FrameNo). is_free w.settings.pool w.user_pages w.pins w.table_frames f.0) r.taken
    frame (by_taken settings before r run).0 (within r.taken frame has)) in
    (pin, there, of, at, λ same. free.pins pin there (sym same))
