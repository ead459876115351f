use Rattle.std.proofs.Common.{List, subst, sym, vec_len}
use Rattle.memory_objects.specs.Invariant.{GoneAreFew}
use Rattle.memory_objects.specs.Objects.{MemoryEntry, gone_among, standing}
use Rattle.memory_objects.proofs.Gone.{gone_are_few}
use Rattle.memory_objects.proofs.objects.MemoryObjects.reserve.Goals as goal

pub returns-then-is_ok-clause-gone : goal.returns-then-is_ok-clause-gone
returns-then-is_ok-clause-gone g c =
    let G : List MemoryEntry → Type 0 = λ xs. GoneAreFew (standing xs) (gone_among xs) in
    let entries = c.self.inside.entries in
    subst G (sym c.reserve.ensures.items) (gone_are_few entries.items (vec_len entries) c.self.inside.gone
    entries.ok.0 c.self.invariant)

pub returns-then-self-eq0-clause-gone : goal.returns-then-self-eq0-clause-gone
returns-then-self-eq0-clause-gone g c =
    let G : List MemoryEntry → Type 0 = λ xs. GoneAreFew (standing xs) (gone_among xs) in
    let entries = c.self.inside.entries in
    subst G (sym c.reserve.ensures.items) (gone_are_few entries.items (vec_len entries) c.self.inside.gone
    entries.ok.0 c.self.invariant)
