use Rattle.std.proofs.Common.{◌∙◌, ◌+◌, ◌<◌, ◌^◌, IfSome, List, length, vec_len, ap, sym, subst, arith}
use Rattle.std.specs.List.{list_all}
use Rattle.std.proofs.lemmas.List.{length-map}
use Rattle.memory_objects.specs.Invariant.{MemoryInvariant}
use Rattle.memory_objects.specs.Objects.{MemoryEntry, ObjectTable, is_freed, object_at, standing, with_area}
use Rattle.memory_objects.proofs.AreaCounts.{more_at}
use Rattle.memory_objects.proofs.PinsStay.{rows_with_area, same_with_area}
use Rattle.memory_objects.proofs.Gone.{gone_are_few}
use Rattle.memory_objects.proofs.Invariants.{kept_with_area}
use Rattle.memory_objects.proofs.objects.MemoryObjects.add_area.Goals as goal

pub invariant_of-self : goal.invariant_of-self
invariant_of-self g c =
    let M : List MemoryEntry → Type 0 = λ xs. MemoryInvariant xs in
    let same = ap length c.add_area.ensures.entries
    ∙ length-map (standing c.self.inside.entries.items) (more_at c.args.number) in
    record {
      rising = c.add_area.ensures.rising;
      count = omega (arith, same, c.add_area.ensures.len, c.self.invariant.count);
      few = omega (arith, c.add_area.ensures.len, c.self.invariant.few);
      freed = ap (list_all is_freed) c.add_area.ensures.gone ∙ c.self.invariant.freed;
      kept = subst M (sym c.add_area.ensures.entries)
          (kept_with_area c.args.number (standing c.self.inside.entries.items) c.self.invariant.kept);
    }

pub returns-clause-gone : goal.returns-clause-gone
returns-clause-gone g c = gone_are_few c.add_area.new.entries.items (vec_len c.add_area.new.entries)
    c.self.inside.gone c.add_area.new.entries.ok.0 (invariant_of-self g c)

pub returns-clause-invariant : goal.returns-clause-invariant
returns-clause-invariant g c = (invariant_of-self g c).kept

pub returns-clause-rows : goal.returns-clause-rows
returns-clause-rows g c = rw (
  c.add_area.ensures.entries,
  ← c.self.view_is,
) (rows_with_area c.args.number (standing c.self.inside.entries.items))

pub returns-clause-pins : goal.returns-clause-pins
returns-clause-pins g c = rw (
  c.add_area.ensures.entries,
  ← c.self.view_is,
) (same_with_area c.args.number (standing c.self.inside.entries.items))

pub add_area-requires-clause-rising : goal.add_area-requires-clause-rising
add_area-requires-clause-rising g c = c.self.invariant.rising

pub add_area-requires-clause-few : goal.add_area-requires-clause-few
add_area-requires-clause-few g c =
    let V : ObjectTable → Type 0 = λ v. IfSome (object_at v.objects c.args.number) (λ o. o.areas + 1 < 2 ^ 64) in
    subst V (sym c.self.view_is) c.requires

pub returns-clause-objects : goal.returns-clause-objects
returns-clause-objects g c =
    c.add_area.ensures.entries ∙ ap (λ (v : ObjectTable). with_area c.args.number v.objects) c.self.view_is

pub returns-clause-room : goal.returns-clause-room
returns-clause-room g c =
    let same = ap length c.add_area.ensures.entries
    ∙ length-map (standing c.self.inside.entries.items) (more_at c.args.number) in
    omega (arith, same, c.add_area.ensures.capacity, ap (λ (v : ObjectTable). v.room) c.self.view_is)
