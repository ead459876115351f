use Rattle.std.proofs.Common.{arith, rules}
use Rattle.std.proofs.lemmas.Grind.{common_steps}
use Rattle.mem_account.proofs.opened.Goals as goal

pub loop-limit-preserved : goal.loop-limit-preserved
loop-limit-preserved g c = grind (arith, common_steps)

pub returns-in_err-accounts-clause-memory : goal.returns-in_err-accounts-clause-memory
returns-in_err-accounts-clause-memory g c = search rules
