use Rattle.std.proofs.Common.{◌≡◌, map, take}
use Rattle.mem_account.specs.Accounts.{fresh}
use Rattle.mem_account.proofs.opened.Given as goal

-- an account for each limit so far
abbrev pub invariant-loop-limit : goal.invariant-loop-limit
invariant-loop-limit g l = l.accounts.items ≡ map fresh (take l.limit-index l.limits)
