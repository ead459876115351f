use Rattle.std.proofs.Common.{◌∙◌, ap}
use Rattle.memory_objects.specs.Objects.{ObjectTable, all_pass, can_pin}
use Rattle.memory_objects.proofs.objects.MemoryObjects.are_present.Goals as goal

pub returns : goal.returns
returns g c =
    (rw c.deref.ensures.value at c.can_pin.ensures)
    ∙ ap (λ (v : ObjectTable). all_pass (can_pin c.args.users.now.pages) v.objects c.args.numbers.now)
    c.self.view_is
