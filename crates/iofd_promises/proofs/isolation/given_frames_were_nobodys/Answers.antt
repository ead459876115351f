use Rattle.std.proofs.Common.{refl}
use Rattle.iofd_words.specs.Frames.{is_free}
use Rattle.iofd_steps.specs.Run.{world_of}
use Rattle.iofd_words.specs.declared.numbers.FrameNo.{FrameNo}
use Rattle.iofd_words.specs.declared.reply.Reply.TheVariants as reply
use Rattle.iofd_rows.proofs.Each.{of_each}
use Rattle.iofd_promises.specs.Owners.{IsNobodys}
use Rattle.iofd_promises.proofs.GivenOut.{given_nobodys, nobodys, taken_once}
use Rattle.iofd_promises.proofs.Rows.{within}
use Rattle.iofd_promises.proofs.Steps.{by_answer, by_taken}
use Rattle.iofd_promises.proofs.isolation.given_frames_were_nobodys.Goals as goal

pub returns-clause-to_users : goal.returns-clause-to_users
returns-clause-to_users g c = λ settings before r frame run answered.
    let w = world_of settings before in
    by_answer settings before r run (λ new. IsNobodys w frame) (reply.Frame frame) refl answered
    (λ none answers. given_nobodys w r.event frame answers)

pub returns-clause-for_tables : goal.returns-clause-for_tables
returns-clause-for_tables g c = λ settings before r frame run has.
    let w = world_of settings before in
    nobodys w frame (of_each (λ (f : FrameNo). is_free w.settings.pool w.user_pages w.pins w.table_frames f.0) r.taken
    frame (by_taken settings before r run).0 (within r.taken frame has))

pub returns-clause-once : goal.returns-clause-once
returns-clause-once g c = λ settings before r frame i j run first second. taken_once r.taken frame i j
    (by_taken settings before r run).1 first second
