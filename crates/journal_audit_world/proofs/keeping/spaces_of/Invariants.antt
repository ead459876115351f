use Rattle.std.proofs.Common.{◌≡◌, ◌||◌, drop}
use Rattle.iofd_words.specs.Objects.{has_hwpt}
use Rattle.iofd_words.specs.declared.numbers.FileNo.{FileNo}
use Rattle.iofd_words.specs.declared.numbers.ObjId.{ObjId}
use Rattle.journal_audit_world.specs.Keys.{has_pair}
use Rattle.journal_audit_world.proofs.keeping.spaces_of.Given as goal

abbrev pub invariant-loop-object : goal.invariant-loop-object
invariant-loop-object g l = (file : FileNo) (ioas : ObjId)
    → (has_pair l.spaces file.0 ioas.0 || has_hwpt (drop l.object-index l.objects) file ioas)
    ≡ has_hwpt l.objects file ioas
