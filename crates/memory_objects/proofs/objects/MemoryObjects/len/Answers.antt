use Rattle.std.proofs.Common.{subst, vec_len}
use Rattle.memory_objects.specs.Invariant.{GoneAreFew}
use Rattle.memory_objects.specs.Objects.{ObjectTable}
use Rattle.memory_objects.proofs.Gone.{gone_are_few}
use Rattle.memory_objects.proofs.objects.MemoryObjects.len.Goals as goal

pub returns-clause-gone : goal.returns-clause-gone
returns-clause-gone g c =
    let V : ObjectTable → Type 0 = λ v. GoneAreFew v.objects v.gone in
    let entries = c.self.inside.entries in
    subst V c.self.view_is (gone_are_few entries.items (vec_len entries) c.self.inside.gone entries.ok.0
    c.self.invariant)
