use Rattle.std.proofs.Common.{Contains, List, [], ◌∷◌, ◌++◌, length, refl, inl, inr}
use Rattle.iofd_steps.specs.After.{changed, settle, without_areas}
use Rattle.iofd_steps.specs.Run.{world_of}
use Rattle.iofd_words.specs.Tables.{with_tables}
use Rattle.iofd_words.specs.declared.event.Event.TheVariants as event
use Rattle.iofd_words.specs.declared.numbers.FileNo.{FileNo}
use Rattle.iofd_words.specs.declared.reply.Reply.TheVariants as reply
use Rattle.iofd_rows.proofs.Each.{IsIn}
use Rattle.iofd_promises.proofs.ClosedFiles.{stays_closed}
use Rattle.iofd_runs.proofs.Moves.{changed_moves}
use Rattle.iofd_promises.proofs.Rows.{contains, within}
use Rattle.iofd_promises.proofs.Steps.{by_event, by_record}
use Rattle.iofd_promises.proofs.closed.closed_files_stay_closed.Goals as goal

last_in : (files : List FileNo) (file : FileNo) → IsIn (files ++ file ∷ []) file
last_in [] file = inl refl
last_in (f ∷ files) file = inr (last_in files file)

pub returns-clause-closes : goal.returns-clause-closes
unfolding changed settle without_areas with_tables
returns-clause-closes g c = λ settings before r file run of_event answered.
    by_event settings before r run (λ new. Contains new.closed file) (event.Close file) reply.Done refl of_event
    answered (λ none answers. contains _ file (last_in (world_of settings before).closed file))

pub returns-clause-stays : goal.returns-clause-stays
unfolding with_tables
returns-clause-stays g c = λ settings before r file run has.
    let w = world_of settings before in
    by_record settings before r run (λ new. Contains new.closed file) (λ cause is told. has)
    (λ none answers moves. contains _ file (stays_closed w (changed (length before) w r.event r.reply) file
    (changed_moves (length before) w r.event r.reply).files (within w.closed file has)))
