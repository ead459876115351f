use Rattle.std.proofs.Common.{◌≡◌, ◌∙◌, ℕ, suc, ◌<◌, ◌-◌, ◌&&◌, Bool, true, false, ltb, Some, List, [], ◌∷◌, length}
use Rattle.std.proofs.Common.{ap, arith, refl, slice_get, sym}
use Rattle.std.specs.List.{list_all}
use Rattle.std.proofs.Math.Bool.{and-true}
use Rattle.std.proofs.lemmas.Bool.{and_from, and_parts, and_right}
use Rattle.std.proofs.lemmas.Bool.Decides.{nat_tests}
use Rattle.memory_objects.specs.Objects.{MemoryEntry, are_below, are_rising}
use Rattle.memory_objects.proofs.lookups.are_below.Goals as goal

-- where numbers rise all are below another just where the last one is
last_below : (entries : List MemoryEntry) (last : MemoryEntry) (number : ℕ) → are_rising entries ≡ true
    → Some last ≡ slice_get entries (length entries - 1) → ltb last.number number ≡ are_below entries number
last_below [] last number rising is = absurd cc
last_below (entry ∷ []) last number rising is =
    let same : last ≡ entry = cc in
    ap (λ (o : MemoryEntry). ltb o.number number) same ∙ sym (and-true (ltb entry.number number))
last_below (entry ∷ next ∷ entries) last number rising is =
    let parts = and_parts (list_all (λ (o : MemoryEntry). ltb entry.number o.number) (next ∷ entries))
    (are_rising (next ∷ entries)) rising in
    let first = (and_parts (ltb entry.number next.number) _ parts.0).0 in
    let behind : length (entry ∷ next ∷ entries) - 1 ≡ suc (length (next ∷ entries) - 1) = omega arith in
    by_test (ltb last.number number) refl first
    (last_below (next ∷ entries) last number parts.1 (is ∙ ap (slice_get (entry ∷ next ∷ entries)) behind))
  where
    by_test : (b : Bool) → ltb last.number number ≡ b → ltb entry.number next.number ≡ true
        → ltb last.number number ≡ are_below (next ∷ entries) number
        → ltb last.number number ≡ (ltb entry.number number && are_below (next ∷ entries) number)
    by_test true test first rest =
        let all = sym rest ∙ test in
        let below = (and_parts (ltb next.number number) _ all).0 in
        let one : entry.number < next.number = search (first, arith, nat_tests) in
        let two : next.number < number = search (below, arith, nat_tests) in
        let three : entry.number < number = omega (arith, one, two) in
        test ∙ sym (and_from (ltb entry.number number) _ (search (three, arith, nat_tests)) all)
    by_test false test first rest =
        test ∙ sym (and_right (ltb entry.number number) (are_below (next ∷ entries) number) (sym rest ∙ test))

pub returns-in-Some : goal.returns-in-Some
returns-in-Some g c =
    last_below c.args.entries.now c.in-Some.entry.now c.args.number c.requires c.in-Some.ensures.value
