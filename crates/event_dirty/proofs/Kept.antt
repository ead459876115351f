-- What is kept shows the world in which marks have changed, and nothing else.
use Rattle.std.proofs.Common.{List}
use Rattle.dirty_bitmap.specs.Tracking.{Tables}
use Rattle.iofd_words.specs.Dirty.{TrackedTable}
use Rattle.iofd_words.specs.World.{World}
use Rattle.server_state.specs.Shows.{DirtyShown, Shows}
use Rattle.server_state.specs.declared.state.State.{State}

pub shows_marked : {A : Type 0} (w : World) (s : State A) (tracked : List TrackedTable) (dirty : Tables) → Shows w s
    → DirtyShown tracked dirty → Shows (record w { tracked = tracked }) (record s { dirty = dirty })
shows_marked w s tracked dirty shows marks = record {
  settings = shows.settings;
  limits = shows.limits;
  allowed = shows.allowed;
  objects = shows.objects;
  devices = shows.devices;
  users = shows.users;
  pins = shows.pins;
  access_pins = shows.access_pins;
  dirty = marks;
  frames = shows.frames;
  tables = record { tables = shows.tables.tables; widths = shows.tables.widths; stand = shows.tables.stand };
}
