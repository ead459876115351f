use Rattle.std.proofs.Common.{◌∙◌, length, vec_len, ap, arith}
use Rattle.std.specs.List.{list_all}
use Rattle.std.proofs.lemmas.List.{length-map}
use Rattle.memory_objects.specs.Objects.{is_freed, standing, with_capacity}
use Rattle.memory_objects.proofs.PinsStay.{rows_grown, same_grown}
use Rattle.memory_objects.proofs.Gone.{gone_are_few}
use Rattle.memory_objects.proofs.Invariants.{kept_grown}
use Rattle.memory_objects.proofs.objects.MemoryObjects.reserve_frames.Goals as goal

pub invariant_of-self : goal.invariant_of-self
invariant_of-self g c =
    let old = standing c.self.inside.entries.items in
    let grows = c.reserve_all.ensures.objects in
    let same = ap length grows.objects ∙ length-map old (λ o. with_capacity (grows.capacity o) o) in
    record {
      rising = c.reserve_all.ensures.rising;
      count = omega (arith, same, c.reserve_all.ensures.len, c.self.invariant.count);
      few = omega (arith, c.reserve_all.ensures.len, c.self.invariant.few);
      freed = ap (list_all is_freed) c.reserve_all.ensures.gone ∙ c.self.invariant.freed;
      kept = kept_grown old (standing c.reserve_all.new.entries.items) grows c.self.invariant.kept;
    }

pub returns-clause-gone : goal.returns-clause-gone
returns-clause-gone g c = gone_are_few c.reserve_all.new.entries.items (vec_len c.reserve_all.new.entries)
    c.self.inside.gone c.reserve_all.new.entries.ok.0 (invariant_of-self g c)

pub returns-clause-invariant : goal.returns-clause-invariant
returns-clause-invariant g c = (invariant_of-self g c).kept

pub returns-clause-rows : goal.returns-clause-rows
returns-clause-rows g c = rw (← c.self.view_is)
    (rows_grown (standing c.self.inside.entries.items) (standing c.reserve_all.new.entries.items)
    c.reserve_all.ensures.objects)

pub returns-clause-pins : goal.returns-clause-pins
returns-clause-pins g c = rw (← c.self.view_is)
    (same_grown (standing c.self.inside.entries.items) (standing c.reserve_all.new.entries.items)
    c.reserve_all.ensures.objects)
