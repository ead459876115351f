use Rattle.event_destroy.proofs.RowsCounted.{AreClosing}
use Rattle.server_state.specs.Held.{objects_in}
use Rattle.object_table.specs.Table.{rows_of}
use Rattle.event_destroy.proofs.close.remove_areas.Given as goal

-- some of the file's objects have let go of what their areas are over, and the others may
abbrev pub invariant-loop-object : goal.invariant-loop-object
invariant-loop-object g l = AreClosing (objects_in l.fn.table) l.fn.file (rows_of l.fn.table l.fn.file)
    l.object-iterator l.initial.memory l.memory l.initial.pool l.pool
