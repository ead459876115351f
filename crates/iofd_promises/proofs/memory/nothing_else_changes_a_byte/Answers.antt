use Rattle.std.proofs.Common.{◌≡◌, length, refl}
use Rattle.iofd_steps.specs.Run.{world_of}
use Rattle.iofd_words.specs.Tables.{with_tables}
use Rattle.iofd_promises.specs.Bytes.{reads}
use Rattle.iofd_steps.specs.After.{changed}
use Rattle.iofd_promises.proofs.KeepsBytes.{keeps_byte}
use Rattle.iofd_runs.proofs.Moves.{changed_moves}
use Rattle.iofd_promises.proofs.Steps.{by_record}
use Rattle.iofd_promises.proofs.memory.nothing_else_changes_a_byte.Goals as goal

pub returns : goal.returns
unfolding with_tables
returns g c = λ settings before r frame place run none others.
    let w = world_of settings before in
    by_record settings before r run (λ new. reads new.writes frame place ≡ reads w.writes frame place)
    (λ cause is told. refl)
    (λ passed answers moves. keeps_byte w (changed (length before) w r.event r.reply) r.event r.reply frame place
    (changed_moves (length before) w r.event r.reply).memory none others)
