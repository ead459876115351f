use Rattle.iova_ranges.proofs.Rooms.{fit-moves}
use Rattle.iova_ranges.proofs.laws.fits_depend_on_free_numbers.Goals as goal

pub returns : goal.returns
returns c = λ count spans areas others beside same start fit. fit-moves count spans areas others beside same start fit
