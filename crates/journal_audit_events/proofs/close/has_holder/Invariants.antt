use Rattle.std.proofs.Common.{◌≡◌, ◌==◌, ◌&&◌, ◌||◌, drop}
use Rattle.std.specs.List.{list_any}
use Rattle.iofd_words.specs.Objects.{is_access, is_bound_device}
use Rattle.iofd_words.specs.Objects.{objects_of}
use Rattle.journal_audit_events.proofs.close.has_holder.Given as goal

abbrev pub invariant-loop-object : goal.invariant-loop-object
invariant-loop-object l =
    list_any (λ object. object.file.0 == l.file.0 && (is_bound_device object.kind || is_access object.kind))
    (drop l.object-index l.objects)
    ≡ list_any (λ object. is_bound_device object.kind || is_access object.kind) (objects_of l.objects l.file)
