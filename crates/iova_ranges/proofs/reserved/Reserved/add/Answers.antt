use Rattle.std.proofs.Common.{rules}
use Rattle.iova_ranges.proofs.reserved.Reserved.add.Goals as goal

pub returns-in_err-reserve-clause-full : goal.returns-in_err-reserve-clause-full
returns-in_err-reserve-clause-full g c = search rules

pub returns-clause-ok : goal.returns-clause-ok
returns-clause-ok g c = search rules
