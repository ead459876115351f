use Rattle.std.proofs.Common.{ℕ, zero, suc, List, [], ◌∷◌, map, arith}
use Rattle.mem_account.specs.Accounts.{fresh}
use Rattle.mem_account.specs.Within.{AreWithin}
use Rattle.mem_account.proofs.Accounts.new.Goals as goal

-- what holds nothing is within any limit
fresh_within : (limits : List ℕ) → AreWithin (map fresh limits)
fresh_within [] k d below = absurd (omega (arith, below))
fresh_within (limit ∷ limits) zero d below = omega arith
fresh_within (limit ∷ limits) (suc k) d below = fresh_within limits k d (omega (arith, below))

pub invariant_of-result : goal.invariant_of-result
invariant_of-result g c = rw c.in_ok-accounts.ensures.ok (fresh_within c.args.limits.now)
