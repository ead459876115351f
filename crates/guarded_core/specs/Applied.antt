-- An act that a core has applied.
use Rattle.std.specs.Prelude.{◌≡◌, None, length}
use Rattle.iofd_refusals.specs.Checks.{refusal}
use Rattle.iofd_steps.specs.Run.{IsRun}
use Rattle.iofd_words.specs.declared.event.Act.{Act}
use Rattle.iofd_words.specs.declared.numbers.PassNo.{PassNo}
use Rattle.iommufd_core.specs.History.{HasOneMore, History, world}
use Rattle.iommufd_core.specs.declared.apply.Stamp.{Stamp}
use Rattle.server_state.specs.Choice.{IsChosen}

-- one more record, of this caller and event and with the stamp's reply, at the stamp's place; all records are a run,
-- and the reply is the lawful one that the core chooses
pub record IsApplied {A : Type 0} (caller : PassNo) (act : Act A) (stamp : Stamp) (old new : History A) : Type 0 where
  pub one_more : HasOneMore caller act.event stamp.reply old new
  pub at : stamp.at ≡ length old.records
  pub run : IsRun new.settings new.records
  pub chosen : refusal (world old) act.event ≡ None → IsChosen (world old) act.event act.via stamp.reply
