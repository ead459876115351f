use Rattle.iofd_rows.specs.Reached.{ends_in_kind}
use Rattle.event_ioas.proofs.LeavingOut.{IsLeaving}
use Rattle.event_ioas.specs.LeftOut.{only}
use Rattle.object_table.specs.Table.{rows_of}
use Rattle.server_state.specs.Held.{kind_in}
use Rattle.event_ioas.proofs.usable_ranges.leave_out_beyond.Given as goal

-- some of the file's objects have had left out what they don't translate
abbrev pub invariant-loop-object : goal.invariant-loop-object
invariant-loop-object g l =
    IsLeaving (λ n row. ends_in_kind l.fn.ioas (only n) (kind_in row.value)) (rows_of l.fn.table l.fn.file)
    l.object-iterator l.initial.set.spans l.set.spans
