use Rattle.std.proofs.Common.{◌≡◌, drop}
use Rattle.iofd_words.specs.Objects.{kind_of}
use Rattle.journal_audit_world.proofs.objects.kind_of.Given as goal

abbrev pub invariant-loop-object : goal.invariant-loop-object
invariant-loop-object l = kind_of (drop l.object-index l.objects) l.file l.id ≡ kind_of l.objects l.file l.id
