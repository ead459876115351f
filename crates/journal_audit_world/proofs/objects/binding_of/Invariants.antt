use Rattle.std.proofs.Common.{◌≡◌, drop}
use Rattle.iofd_words.specs.Objects.{binding_of}
use Rattle.journal_audit_world.proofs.objects.binding_of.Given as goal

abbrev pub invariant-loop-object : goal.invariant-loop-object
invariant-loop-object l = binding_of (drop l.object-index l.objects) l.device ≡ binding_of l.objects l.device
