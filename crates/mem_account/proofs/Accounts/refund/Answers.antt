use Rattle.std.proofs.Common.{arith}
use Rattle.std.proofs.lemmas.Grind.{common_steps}
use Rattle.mem_account.proofs.Accounts.refund.Goals as goal

pub returns : goal.returns
returns g c = grind (arith, common_steps)
