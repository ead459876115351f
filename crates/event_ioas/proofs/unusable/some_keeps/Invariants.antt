use Rattle.std.proofs.Common.{◌≡◌, length}
use Rattle.std.specs.List.{list_any}
use Rattle.iofd_rows.specs.Reached.{keeps_of}
use Rattle.server_state.specs.Held.{objects_in}
use Rattle.event_ioas.proofs.unusable.some_keeps.Given as goal

abbrev pub invariant-loop-attachment : goal.invariant-loop-attachment
invariant-loop-attachment g l =
    list_any (λ a. list_any (λ range. keeps_of l.config (objects_in l.table) l.file l.ioas range a) l.ranges)
    l.attachments
    ≡ list_any (λ a. list_any (λ range. keeps_of l.config (objects_in l.table) l.file l.ioas range a) l.ranges) l.rest

abbrev pub decreases-loop-attachment : goal.decreases-loop-attachment
decreases-loop-attachment g l = length l.rest
