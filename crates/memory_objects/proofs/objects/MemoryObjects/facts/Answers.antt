use Rattle.std.proofs.Common.{ℕ, ◌<◌, ◌^◌, subst}
use Rattle.memory_objects.proofs.objects.MemoryObjects.facts.Goals as goal

pub returns : goal.returns
returns g c = subst (λ (n : ℕ). n < 2 ^ 64) c.len.ensures.count c.len.type_inv
