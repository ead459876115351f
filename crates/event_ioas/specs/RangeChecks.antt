-- Why ranges are refused for an address space that is there: the last rows of the refusals of AllowIovas.
use Rattle.std.specs.Prelude.{Bool, not, List, [], ◌∷◌}
use Rattle.std.specs.List.{list_any}
use Rattle.iofd_words.specs.Allowed.{are_ranges}
use Rattle.iofd_words.specs.Bounds.{Bounds}
use Rattle.iofd_refusals.specs.Checks.{unusable_in}
use Rattle.iofd_words.specs.Ranges.{meets_some}
use Rattle.iofd_words.specs.View.{View}
use Rattle.iofd_words.specs.declared.numbers.FileNo.{FileNo}
use Rattle.iofd_words.specs.declared.numbers.ObjId.{ObjId}
use Rattle.iofd_words.specs.declared.refusal.Cause.{Cause}
use Rattle.iofd_words.specs.declared.refusal.Cause.TheVariants as cause

abbrev pub range_checks : View → FileNo → ObjId → List Bounds → List (Cause × Bool)
range_checks v file ioas ranges =
    (cause.List, not (are_ranges ranges))
    ∷ (cause.Narrow, list_any (meets_some (unusable_in v file ioas)) ranges) ∷ []
