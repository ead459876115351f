use Rattle.std.proofs.Common.{ℕ, ◌<◌, ◌^◌, subst}
use Rattle.frame_memory.proofs.user_map.UserMap.facts.Goals as goal

pub returns : goal.returns
returns g c = subst (λ (n : ℕ). n < 2 ^ 64) c.len.ensures c.len.type_inv
