use Rattle.std.proofs.Common.{rules}
use Rattle.iommufd_script.proofs.place.Place.allows.Goals as goal

pub returns-in-Begin : goal.returns-in-Begin
returns-in-Begin c = search rules

pub returns-then-frames-ge1 : goal.returns-then-frames-ge1
returns-then-frames-ge1 c = search rules
