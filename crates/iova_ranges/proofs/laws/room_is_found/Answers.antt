use Rattle.iova_ranges.proofs.Rooms.{has_fit-tells}
use Rattle.iova_ranges.proofs.laws.room_is_found.Goals as goal

pub returns : goal.returns
returns c = λ count spans areas ordered. has_fit-tells count spans areas ordered
