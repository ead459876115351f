use Rattle.std.proofs.Common.{◌≡◌, drop}
use Rattle.std.specs.List.{list_any}
use Rattle.iofd_rows.specs.Reached.{ends_in}
use Rattle.journal_audit_events.proofs.usable.end_beyond.Given as goal

abbrev pub invariant-loop-object : goal.invariant-loop-object
invariant-loop-object l =
    list_any (λ object. list_any (λ range. ends_in l.file l.ioas range object) l.ranges)
    (drop l.object-index l.objects)
    ≡ list_any (λ object. list_any (λ range. ends_in l.file l.ioas range object) l.ranges) l.objects
