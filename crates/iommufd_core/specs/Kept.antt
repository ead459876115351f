-- What holds of a core's fields: its records are a run, its state shows the world that they leave, no table is idle
-- there, and each device's turns among them are counted.
use Rattle.std.specs.Prelude.{ℕ, List}
use Rattle.iofd_steps.specs.Run.{IsRun, world_of}
use Rattle.iofd_words.specs.Record.{Record}
use Rattle.iommufd_core.specs.TurnCounts.{AreTurns}
use Rattle.server_state.specs.Choice.{NoneIdle}
use Rattle.server_state.specs.Shows.{Shows}
use Rattle.server_state.specs.declared.state.State.{State}

pub record IsKept {A : Type 0} (state : State A) (counts : List ℕ) (records : List (Record A)) : Type 0 where
  pub run : IsRun state.config records
  pub shows : Shows (world_of state.config records) state
  pub used : NoneIdle (world_of state.config records)
  pub turns : AreTurns counts state.config records
