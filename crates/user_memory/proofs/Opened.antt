-- The users' memory at its opening: no account holds anything, and there are no objects.
use Rattle.std.proofs.Common.{◌≡◌, ℕ, ◌-◌, List, [], ◌∷◌, map, refl, ap, zero, suc, get_or}
use Rattle.mem_account.specs.Accounts.{fresh}
use Rattle.user_memory.specs.Invariant.{AccountsTell}
use Rattle.user_memory.proofs.Users.{limits_of}

pub limits_opened : (limits : List ℕ) → limits_of (map fresh limits) ≡ limits
limits_opened [] = refl
limits_opened (limit ∷ limits) = ap (λ (rest : List ℕ). limit ∷ rest) (limits_opened limits)

holds_nothing : (limits : List ℕ) (k : ℕ) → (get_or (map fresh limits) k (fresh 0)).held ≡ 0
holds_nothing [] k = refl
holds_nothing (limit ∷ limits) zero = refl
holds_nothing (limit ∷ limits) (suc k) = holds_nothing limits k

pub told_opened : (limits : List ℕ) → AccountsTell (map fresh limits) []
told_opened limits = record {
  held = λ user known. holds_nothing limits (user - 1);
  users = refl;
  told = record { memory = record { rising = refl; unpinned = refl; counted = refl; areas = refl }; kept = refl };
}
