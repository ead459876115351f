use Rattle.std.proofs.Common.{arith}
use Rattle.std.proofs.lemmas.Grind.{common_steps}
use Rattle.mem_account.proofs.Accounts.charge.Goals as goal

pub returns-then-pages-account-clause-refused : goal.returns-then-pages-account-clause-refused
returns-then-pages-account-clause-refused g c = grind (arith, common_steps)

pub returns-clause-ok : goal.returns-clause-ok
returns-clause-ok g c = grind (arith, common_steps)
