use Rattle.iova_ranges.proofs.Rooms.{fits-tells}
use Rattle.iova_ranges.proofs.laws.fits_are_tested.Goals as goal

pub returns : goal.returns
returns c = λ count start spans areas ordered. fits-tells count spans areas start ordered
