use Rattle.std.proofs.Common.{◌∙◌, length, vec_len, ap, subst, arith}
use Rattle.std.specs.List.{list_all}
use Rattle.std.proofs.lemmas.List.{length-map}
use Rattle.memory_objects.specs.Objects.{ObjectTable, SamePins, is_freed}
use Rattle.memory_objects.specs.Objects.{rows_of, standing}
use Rattle.memory_objects.proofs.AreaCounts.{rising_left}
use Rattle.memory_objects.proofs.Gone.{gone_are_few}
use Rattle.memory_objects.proofs.RunOne.{become, same_room}
use Rattle.memory_objects.proofs.Standing.{stands}
use Rattle.memory_objects.proofs.objects.MemoryObjects.reserve_for_access.Goals as goal

pub invariant_of-self : goal.invariant_of-self
invariant_of-self g c =
    let moved = c.reserve_run.ensures.objects in
    let old = standing c.self.inside.entries.items in
    let same = ap length moved.objects ∙ length-map old (become c.args.run.number moved.pages) in
    record {
      rising = c.reserve_run.ensures.rising;
      count = omega (arith, same, c.reserve_run.ensures.len, c.self.invariant.count);
      few = omega (arith, c.reserve_run.ensures.len, c.self.invariant.few);
      freed = ap (list_all is_freed) c.reserve_run.ensures.gone ∙ c.self.invariant.freed;
      kept = c.reserve_run.ensures.kept c.self.invariant.kept;
    }

pub returns-clause-gone : goal.returns-clause-gone
returns-clause-gone g c = gone_are_few c.reserve_run.new.entries.items (vec_len c.reserve_run.new.entries)
    c.self.inside.gone c.reserve_run.new.entries.ok.0 (invariant_of-self g c)

pub returns-clause-invariant : goal.returns-clause-invariant
returns-clause-invariant g c = (invariant_of-self g c).kept

pub returns-clause-room : goal.returns-clause-room
returns-clause-room g c =
    let moved = c.reserve_run.ensures.objects in
    let old = standing c.self.inside.entries.items in
    let same = ap length moved.objects ∙ length-map old (become c.args.run.number moved.pages) in
    omega (arith, same, c.reserve_run.ensures.capacity, ap (λ (v : ObjectTable). v.room) c.self.view_is)

pub returns-clause-rows : goal.returns-clause-rows
returns-clause-rows g c =
    c.reserve_run.ensures.rows ∙ ap (λ (v : ObjectTable). rows_of v.objects) c.self.view_is

pub returns-clause-pins : goal.returns-clause-pins
returns-clause-pins g c =
    let S : ObjectTable → Type 0 = λ v. SamePins v.objects (standing c.reserve_run.new.entries.items) in
    subst S c.self.view_is (same_room c.args.run.number (standing c.self.inside.entries.items)
    (standing c.reserve_run.new.entries.items) (rising_left stands c.self.inside.entries.items c.self.invariant.rising)
    c.reserve_run.ensures.objects)
