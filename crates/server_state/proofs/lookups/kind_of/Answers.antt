use Rattle.std.proofs.Common.{rules}
use Rattle.server_state.proofs.Objects.{kind_of_rows}
use Rattle.server_state.proofs.lookups.kind_of.Goals as goal

pub returns : goal.returns
returns g c = search (rules, kind_of_rows)
