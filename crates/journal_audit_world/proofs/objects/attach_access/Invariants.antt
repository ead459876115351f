use Rattle.std.proofs.Common.{◌≡◌, ◌++◌, take, drop}
use Rattle.iofd_words.specs.Objects.{with_access}
use Rattle.journal_audit_world.proofs.objects.attach_access.Given as goal

abbrev pub invariant-loop-object : goal.invariant-loop-object
invariant-loop-object g l =
    l.object-items ≡ with_access l.file l.id l.ioas (take l.object-index l.initial.object-items)
    ++ drop l.object-index l.initial.object-items
