use Rattle.std.proofs.Common.{◌≡◌, ◌==◌, ◌&&◌, drop}
use Rattle.std.specs.List.{list_any}
use Rattle.iofd_words.specs.Objects.{is_hwpt_over}
use Rattle.journal_audit_world.proofs.objects.has_hwpt.Given as goal

abbrev pub invariant-loop-object : goal.invariant-loop-object
invariant-loop-object l =
    list_any (λ object. object.file.0 == l.file.0 && is_hwpt_over l.ioas object.kind)
    (drop l.object-index l.objects)
    ≡ list_any (λ object. object.file.0 == l.file.0 && is_hwpt_over l.ioas object.kind) l.objects
