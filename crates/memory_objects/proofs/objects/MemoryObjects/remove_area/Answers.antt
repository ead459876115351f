use Rattle.std.proofs.Common.{List, [], ◌∷◌, vec_len, ap, sym, subst, arith}
use Rattle.memory_objects.specs.Invariant.{MemoryInvariant}
use Rattle.memory_objects.specs.Objects.{MemoryEntry, ObjectTable, standing}
use Rattle.memory_objects.proofs.Gone.{gone_are_few}
use Rattle.memory_objects.proofs.Invariants.{kept_without}
use Rattle.memory_objects.proofs.PinsStay.{same_without}
use Rattle.memory_objects.proofs.objects.MemoryObjects.remove_area.Goals as goal

pub invariant_of-self : goal.invariant_of-self
invariant_of-self g c =
    let M : List MemoryEntry → Type 0 = λ xs. MemoryInvariant xs in
    record {
      rising = c.remove_area-self-inside.ensures.rising;
      count = c.remove_area-self-inside.ensures.gone;
      few = c.remove_area-self-inside.ensures.few;
      freed = c.remove_area-self-inside.ensures.freed;
      kept = subst M (sym c.remove_area-self-inside.ensures.entries)
          (kept_without (c.args.number ∷ []) (standing c.self.inside.entries.items) c.self.invariant.kept
          (rw (← c.self.view_is) at c.requires.pins));
    }

pub returns-clause-gone : goal.returns-clause-gone
returns-clause-gone g c = gone_are_few c.remove_area-self-inside.new.entries.items
    (vec_len c.remove_area-self-inside.new.entries) c.remove_area-self-inside.result
    c.remove_area-self-inside.new.entries.ok.0 (invariant_of-self g c)

pub returns-clause-invariant : goal.returns-clause-invariant
returns-clause-invariant g c = (invariant_of-self g c).kept

pub returns-clause-pins : goal.returns-clause-pins
returns-clause-pins g c =
    rw (
      c.remove_area-self-inside.ensures.entries,
      ← c.self.view_is,
    ) (same_without (c.args.number ∷ []) (standing c.self.inside.entries.items)
    c.self.invariant.kept (rw (← c.self.view_is) at c.requires.pins) (rw (← c.self.view_is) at c.requires.access))

pub returns-clause-room : goal.returns-clause-room
returns-clause-room g c =
    let room = ap (λ (v : ObjectTable). v.room) c.self.view_is in
    omega (arith, room, c.remove_area-self-inside.ensures.fewer, c.remove_area-self-inside.ensures.capacity)
