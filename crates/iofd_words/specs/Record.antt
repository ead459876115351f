-- One step, as a history has it.
use Rattle.std.specs.Prelude.{Bool, true, false, List, length, ◌==◌, ◌&&◌, ◌||◌}
use Rattle.iofd_words.specs.declared.event.Event.{Event}
use Rattle.iofd_words.specs.declared.numbers.FrameNo.{FrameNo}
use Rattle.iofd_words.specs.declared.numbers.PassNo.{PassNo}
use Rattle.iofd_words.specs.declared.reply.Reply.{Reply}
use Rattle.iofd_words.specs.declared.reply.Reply.TheVariants as reply

-- who made it, what was asked, what was answered, and the table frames that it took and gave back
pub record Record (A : Type 0) : Type 0 where
  pub pass : PassNo
  pub event : Event A
  pub reply : Reply
  pub taken : List FrameNo
  pub given : List FrameNo

-- the answer tells which pages were written
abbrev pub is_report : Reply → Bool
is_report (reply.Dirty words) = true
is_report answer = false

-- frames were taken or given back, not both, and none where a report is told: so it is with each step of this server
abbrev pub moves_one_way : Bool → List FrameNo → List FrameNo → Bool
moves_one_way true taken given = (length taken == 0) && (length given == 0)
moves_one_way false taken given = (length taken == 0) || (length given == 0)
