use Rattle.std.proofs.Common.{◌≡◌, drop}
use Rattle.iofd_words.specs.Objects.{automatic_hwpt}
use Rattle.journal_audit_tables.proofs.coming.automatic_hwpt.Given as goal

abbrev pub invariant-loop-object : goal.invariant-loop-object
invariant-loop-object l =
    automatic_hwpt (drop l.object-index l.objects) l.file l.ioas l.width
    ≡ automatic_hwpt l.objects l.file l.ioas l.width
