use Rattle.std.proofs.Common.{◌∙◌, ap}
use Rattle.memory_objects.specs.Objects.{ObjectTable, new_count_in, object_at}
use Rattle.memory_objects.proofs.objects.MemoryObjects.new_count.Goals as goal

pub new_count-requires : goal.new_count-requires
new_count-requires g c = rw c.deref.ensures.value c.self.invariant.rising

pub returns-clause-value : goal.returns-clause-value
returns-clause-value g c =
    (rw c.deref.ensures.value at c.new_count.ensures.value)
    ∙ ap (λ (v : ObjectTable). new_count_in (object_at v.objects c.args.number)) c.self.view_is

pub returns-clause-few : goal.returns-clause-few
returns-clause-few g c = c.new_count.ensures.few
