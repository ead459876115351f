use Rattle.std.proofs.Common.{rules}
use Rattle.mem_account.proofs.Accounts.has.Goals as goal

pub returns-then-user-ge1 : goal.returns-then-user-ge1
returns-then-user-ge1 g c = search rules
