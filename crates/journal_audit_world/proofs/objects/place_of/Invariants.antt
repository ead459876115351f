use Rattle.std.proofs.Common.{◌≡◌, ◌++◌, take, drop}
use Rattle.iofd_words.specs.Objects.{with_object}
use Rattle.journal_audit_world.proofs.objects.place_of.Given as goal

abbrev pub invariant-loop-index : goal.invariant-loop-index
invariant-loop-index l =
    take l.index l.objects ++ with_object l.object (drop l.index l.objects) ≡ with_object l.object l.objects
