use Rattle.std.proofs.Common.{◌∙◌, ap}
use Rattle.memory_objects.specs.Objects.{ObjectTable, new_pages}
use Rattle.memory_objects.proofs.objects.MemoryObjects.new_pages.Goals as goal

pub new_pages-requires-clause-rising : goal.new_pages-requires-clause-rising
new_pages-requires-clause-rising g c = rw c.deref.ensures.value c.self.invariant.rising

pub new_pages-requires-clause-sorted : goal.new_pages-requires-clause-sorted
new_pages-requires-clause-sorted g c = c.requires

pub returns : goal.returns
returns g c =
    (rw c.deref.ensures.value at c.new_pages.ensures)
    ∙ ap (λ (v : ObjectTable). new_pages v.objects c.args.numbers.now) c.self.view_is
