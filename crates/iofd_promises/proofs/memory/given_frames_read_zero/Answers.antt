use Rattle.std.proofs.Common.{◌≡◌, length, refl}
use Rattle.iofd_steps.specs.Run.{world_of}
use Rattle.iofd_words.specs.Tables.{with_tables}
use Rattle.iofd_words.specs.declared.reply.Reply.TheVariants as reply
use Rattle.iofd_promises.specs.Bytes.{reads}
use Rattle.iofd_promises.proofs.KeepsBytes.{gives_zero}
use Rattle.iofd_promises.proofs.Steps.{by_answer}
use Rattle.iofd_promises.proofs.memory.given_frames_read_zero.Goals as goal

pub returns : goal.returns
unfolding with_tables
returns g c = λ settings before r frame place run answered.
    by_answer settings before r run (λ new. reads new.writes frame.0 place ≡ 0) (reply.Frame frame) refl answered
    (λ none answers. gives_zero (length before) (world_of settings before) r.event frame place answers)
