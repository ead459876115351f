use Rattle.std.proofs.Common.{◌≡◌, ◌∙◌, Some, not, length, refl, sym, ap}
use Rattle.std.proofs.lemmas.Bool.{eq-eqb, ne_eqb}
use Rattle.std.proofs.lemmas.Option.{slice_get_read}
use Rattle.memory_objects.specs.Objects.{MemoryEntry, object_at}
use Rattle.memory_objects.proofs.Standing.{gone_stands, none_stands, one_stands}
use Rattle.memory_objects.proofs.lookups.place_of.Goals as goal

pub returns-in_default-clause-none : goal.returns-in_default-clause-none
returns-in_default-clause-none g c = none_stands c.args.entries.now c.args.number c.in_default.ensures.none

pub returns-then-entries-place-eq0-clause-none : goal.returns-then-entries-place-eq0-clause-none
returns-then-entries-place-eq0-clause-none g c =
    let all = c.args.entries.now in
    let x = c.index-entries-place.result in
    let there =
    slice_get_read all (length all) c.in-Some.place x refl c.in-Some.ensures.within c.index-entries-place.is in
    let found : object_at all c.args.number ≡ Some x = sym c.in-Some.ensures.some ∙ there in
    let none =
    eq-eqb x.areas 0 (ap (λ (o : MemoryEntry). o.areas) c.index-entries-place.is ∙ c.if-entries-place-eq0.true) in
    gone_stands all c.args.number x c.requires found (ap not none)

pub returns-else-entries-place-eq0-clause-some : goal.returns-else-entries-place-eq0-clause-some
returns-else-entries-place-eq0-clause-some g c =
    let all = c.args.entries.now in
    let x = c.index-entries-place.result in
    let there =
    slice_get_read all (length all) c.in-Some.place x refl c.in-Some.ensures.within c.index-entries-place.is in
    let found : object_at all c.args.number ≡ Some x = sym c.in-Some.ensures.some ∙ there in
    let some = ne_eqb x.areas 0 (λ none. c.if-entries-place-eq0.false
    (sym (ap (λ (o : MemoryEntry). o.areas) c.index-entries-place.is) ∙ none)) in
    there ∙ sym (one_stands all c.args.number x found (ap not some))
