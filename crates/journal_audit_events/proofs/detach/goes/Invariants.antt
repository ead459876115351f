use Rattle.std.proofs.Common.{◌≡◌, ◌&&◌, not, drop}
use Rattle.std.specs.List.{list_any}
use Rattle.iofd_words.specs.Objects.{is_automatic, is_object}
use Rattle.journal_audit_events.proofs.detach.goes.Given as goal

abbrev pub invariant-loop-object : goal.invariant-loop-object
invariant-loop-object l =
    list_any (λ object. is_object l.file l.hwpt object && is_automatic object.kind && not l.is_used)
    (drop l.object-index l.objects)
    ≡ list_any (λ object. is_object l.file l.hwpt object && is_automatic object.kind && not l.is_used) l.objects
