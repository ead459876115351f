-- No event changes the rows of tables by itself: the frames that its record takes and gives do.
use Rattle.std.proofs.Common.{◌≡◌, ℕ}
use Rattle.iofd_steps.specs.After.{changed}
use Rattle.iofd_words.specs.World.{World}
use Rattle.iofd_words.specs.declared.event.Event.{Event}
use Rattle.iofd_words.specs.declared.reply.Reply.{Reply}
use Rattle.iofd_runs.proofs.Moves.{changed_moves}

pub same_tables : {A : Type 0} → (at : ℕ) (w : World) (e : Event A) (answer : Reply)
    → (changed at w e answer).table_frames ≡ w.table_frames
same_tables at w e answer = (changed_moves at w e answer).tables
