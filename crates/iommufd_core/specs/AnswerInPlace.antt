-- Which answer it is whose bytes lie in the memory that was read.
use Rattle.std.specs.Prelude.{◌<◌, ◌≤◌, length}
use Rattle.iofd_words.specs.declared.query.Answer.{Answer}
use Rattle.iofd_words.specs.declared.query.Answer.TheVariants as answer
use Rattle.iommufd_core.specs.declared.answer_in_place.Told.{Told}
use Rattle.iommufd_core.specs.declared.answer_in_place.Told.TheVariants.{Bytes, Whole}

abbrev pub answer_of : Told → Answer
answer_of (Bytes bytes) = answer.Read bytes.now
answer_of (Whole told) = told

-- they are 1 to 64
abbrev pub IsShort : Told → Type 0
IsShort (Bytes bytes) = (0 < length bytes.now) × (length bytes.now ≤ 64)
IsShort (Whole told) = Unit {0}
