use Rattle.std.proofs.Common.{◌≡◌, ◌∙◌, ◌++◌, ◌∷◌, [], List, true, length, vec_len, refl, ap, sym, subst, arith}
use Rattle.std.specs.List.{list_all}
use Rattle.std.proofs.lemmas.List.{length-append}
use Rattle.memory_objects.specs.Invariant.{MemoryInvariant}
use Rattle.memory_objects.specs.Objects.{MemoryEntry, ObjectTable, are_rising, gone_among, is_freed, standing}
use Rattle.memory_objects.proofs.Gone.{gone_are_few, gone_push}
use Rattle.memory_objects.proofs.Invariants.{kept_appended, rising_appended}
use Rattle.memory_objects.proofs.PinsStay.{frames_appended}
use Rattle.memory_objects.proofs.Standing.{standing_push}
use Rattle.memory_objects.proofs.objects.MemoryObjects.insert.Goals as goal

pub invariant_of-self : goal.invariant_of-self
invariant_of-self g c =
    let object : MemoryEntry = record { number = c.args.number; areas = 1; pages = c.args.pages } in
    let before = c.make_way-self-inside.new.entries.items in
    let pushed = ap standing c.push_reserved.ensures.items ∙ standing_push before object refl in
    let is : standing c.push_reserved.new.self.items ≡ standing c.self.inside.entries.items ++ object ∷ [] =
    pushed ∙ ap (λ os. os ++ object ∷ []) c.make_way-self-inside.ensures.entries in
    let M : List MemoryEntry → Type 0 = λ xs. MemoryInvariant xs in
    let R : List MemoryEntry → Type 0 = λ xs. are_rising xs ≡ true in
    let more = ap length pushed ∙ length-append (standing before) (object ∷ []) in
    record {
      rising = subst R (sym c.push_reserved.ensures.items)
          (rising_appended before object c.make_way-self-inside.ensures.rising c.make_way-self-inside.ensures.below);
      count = omega (arith, more, c.push_reserved.ensures.len, c.make_way-self-inside.ensures.gone);
      few = omega (arith, c.push_reserved.ensures.len, c.make_way-self-inside.ensures.few);
      freed = ap (list_all is_freed) (ap gone_among c.push_reserved.ensures.items ∙ gone_push before object refl)
          ∙ c.make_way-self-inside.ensures.freed;
      kept = subst M (sym is) (kept_appended (standing c.self.inside.entries.items) object c.self.invariant.kept
          (rw (← c.self.view_is) at c.requires.rises) refl c.requires.pins c.facts.ensures.unpinned
          c.facts.ensures.counted);
    }

pub returns-clause-frames : goal.returns-clause-frames
returns-clause-frames g c =
    let object : MemoryEntry = record { number = c.args.number; areas = 1; pages = c.args.pages } in
    let is : standing c.push_reserved.new.self.items ≡ standing c.self.inside.entries.items ++ object ∷ [] =
    ap standing c.push_reserved.ensures.items ∙ standing_push c.make_way-self-inside.new.entries.items object refl
    ∙ ap (λ os. os ++ object ∷ []) c.make_way-self-inside.ensures.entries in
    λ n index. rw (is, ← c.self.view_is) (frames_appended (standing c.self.inside.entries.items) object
    (rw (← c.self.view_is) at c.requires.rises) n index)

pub returns-clause-gone : goal.returns-clause-gone
returns-clause-gone g c = gone_are_few c.push_reserved.new.self.items (vec_len c.push_reserved.new.self)
    c.make_way-self-inside.result c.push_reserved.new.self.ok.0 (invariant_of-self g c)

pub make_way-self-inside-requires-clause-few : goal.make_way-self-inside-requires-clause-few
make_way-self-inside-requires-clause-few g c = c.self.invariant.few

pub make_way-self-inside-requires-clause-freed : goal.make_way-self-inside-requires-clause-freed
make_way-self-inside-requires-clause-freed g c = c.self.invariant.freed

pub returns-clause-invariant : goal.returns-clause-invariant
returns-clause-invariant g c = (invariant_of-self g c).kept

pub make_way-self-inside-requires-clause-rising : goal.make_way-self-inside-requires-clause-rising
make_way-self-inside-requires-clause-rising g c = c.self.invariant.rising

pub make_way-self-inside-requires-clause-gone : goal.make_way-self-inside-requires-clause-gone
make_way-self-inside-requires-clause-gone g c = c.self.invariant.count

pub make_way-self-inside-requires-clause-room : goal.make_way-self-inside-requires-clause-room
make_way-self-inside-requires-clause-room g c =
    omega (arith, c.requires.room, ap (λ (v : ObjectTable). v.room) c.self.view_is)

pub make_way-self-inside-requires-clause-below : goal.make_way-self-inside-requires-clause-below
make_way-self-inside-requires-clause-below g c = rw (← c.self.view_is) at c.requires.rises

pub push_reserved-requires : goal.push_reserved-requires
push_reserved-requires g c = c.make_way-self-inside.ensures.room

pub returns-clause-objects : goal.returns-clause-objects
returns-clause-objects g c =
    let object : MemoryEntry = record { number = c.args.number; areas = 1; pages = c.args.pages } in
    ap standing c.push_reserved.ensures.items ∙ standing_push c.make_way-self-inside.new.entries.items object refl
    ∙ ap (λ os. os ++ object ∷ []) c.make_way-self-inside.ensures.entries
    ∙ ap (λ (v : ObjectTable). v.objects ++ object ∷ []) c.self.view_is

pub returns-clause-room : goal.returns-clause-room
returns-clause-room g c =
    let object : MemoryEntry = record { number = c.args.number; areas = 1; pages = c.args.pages } in
    let before = standing c.self.inside.entries.items in
    let more = ap length (ap standing c.push_reserved.ensures.items
    ∙ standing_push c.make_way-self-inside.new.entries.items object refl
    ∙ ap (λ os. os ++ object ∷ []) c.make_way-self-inside.ensures.entries)
    ∙ length-append before (object ∷ []) in
    omega (
      arith,
      more,
      c.push_reserved.ensures.capacity,
      c.make_way-self-inside.ensures.capacity,
      c.requires.room,
      ap (λ (v : ObjectTable). v.room) c.self.view_is,
    )
