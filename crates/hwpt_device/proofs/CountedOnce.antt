-- How many pages pinning memory objects pins anew, each once: in whatever order, no more than one by one, and area by
-- area.
use Rattle.std.proofs.Common.{◌≡◌, ℕ, ◌+◌, ◌≤◌, Bool, true, false, cond, ◌&&◌, ◌||◌, eqb, ltb, List, [], ◌∷◌, ◌++◌}
use Rattle.std.proofs.Common.{append-nil, append_assoc, length, refl, sym, ap, ◌∙◌, subst, arith}
use Rattle.std.specs.List.{filter, list_any, sum_by}
use Rattle.std.specs.List.Sorted.{IsPermutation}
use Rattle.std.proofs.Math.Path.{fun_ext}
use Rattle.std.proofs.lemmas.Bool.Decides.{nat_tests}
use Rattle.std.proofs.lemmas.List.{map-append}
use Rattle.std.proofs.lemmas.List.Sorted.{list_any-IsPermutation}
use Rattle.std.proofs.lemmas.List.Sums.{sum_by-cons}
use Rattle.area_map_rows.specs.Areas.{AreApart, AreApartFrom}
use Rattle.iofd_words.specs.Pins.{unpinned_pages}
use Rattle.iofd_words.specs.declared.rows.Area.{Area}
use Rattle.iofd_words.specs.declared.rows.MemoryObject.{MemoryObject}
use Rattle.memory_objects.proofs.Counted.{no_numbers, one_number_more}
use Rattle.memory_objects.proofs.OneObject.{sum_by-map}
use Rattle.memory_objects.specs.Objects as objects
use Rattle.memory_objects.specs.Objects.{MemoryEntry, are_rising, new_count_in, object_at}
use Rattle.user_memory_rows.specs.Moves.{numbers_of}
use Rattle.object_table.proofs.Lists.{list_any-map}
use Rattle.user_memory.proofs.Counts.{newly_told}
use Rattle.user_memory.specs.Invariant.{ObjectsTell}
use Rattle.user_memory.specs.Memory.{Memory, new_pages, newly_pinned, pinned_frame, rows_of}

-- the order of the numbers doesn't matter
pub newly_permuted : (m : Memory) (xs ys : List ℕ) → IsPermutation xs ys → newly_pinned m ys ≡ newly_pinned m xs
newly_permuted m xs ys same = ap (λ (p : MemoryObject
    → Bool). length (unpinned_pages (pinned_frame m) (filter p (rows_of m)))) (fun_ext (λ (row : MemoryObject).
    sym (list_any-IsPermutation (λ n. eqb n row.number) xs ys same)))

-- ---- one by one

few_more : (entries : List MemoryEntry) (done ns : List ℕ) → are_rising entries ≡ true
    → objects.new_pages entries (done ++ ns) ≤ objects.new_pages entries done
    + sum_by (λ n. new_count_in (object_at entries n)) ns
few_more entries done [] rising = rw append-nil (omega arith)
few_more entries done (n ∷ ns) rising =
    let rest : objects.new_pages entries (done ++ n ∷ ns) ≤ objects.new_pages entries (done ++ n ∷ [])
    + sum_by (λ k. new_count_in (object_at entries k)) ns =
    subst (λ (l : List ℕ). objects.new_pages entries l ≤ objects.new_pages entries (done ++ n ∷ [])
    + sum_by (λ k. new_count_in (object_at entries k)) ns) (append_assoc done (n ∷ []) ns) (few_more entries
    (done ++ n ∷ []) ns rising) in
    let more = one_number_more done n entries rising in
    let sum = sum_by-cons (λ k. new_count_in (object_at entries k)) n ns in
    within (list_any (λ m. eqb m n) done) _ _ _ _ _ _ rest more sum
  where
    within : (b : Bool) (all some before rest one whole : ℕ) → all ≤ some + rest → some ≡ before + cond b 0 one
        → whole ≡ one + rest → all ≤ before + whole
    within true all some before rest one whole few more sum = omega (arith, few, more, sum)
    within false all some before rest one whole few more sum = omega (arith, few, more, sum)

-- those that areas share count more than once there
pub few_newly : (m : Memory) (areas : List Area) → ObjectsTell m.objects
    → newly_pinned m (numbers_of areas) ≤ sum_by (λ (area : Area). new_pages m area.memory) areas
few_newly m areas told =
    let few = few_more m.objects [] (numbers_of areas) told.memory.rising in
    let none = no_numbers m.objects in
    let counted = newly_told m (numbers_of areas) told in
    let sum = sum_by-map (new_pages m) (λ (area : Area). area.memory) areas in
    omega (arith, few, none, counted, sum)

-- ---- area by area

pub none_newly : (m : Memory) → ObjectsTell m.objects → newly_pinned m [] ≡ 0
none_newly m told = newly_told m [] told ∙ no_numbers m.objects

-- an area more adds its object's pages, unless one before it lies over the object
newly_more : (m : Memory) (done : List Area) (a : Area) → ObjectsTell m.objects
    → newly_pinned m (numbers_of (done ++ a ∷ [])) ≡ newly_pinned m (numbers_of done)
    + cond (list_any (λ (b : Area). eqb b.memory a.memory) done) 0 (new_pages m a.memory)
newly_more m done a told =
    newly_told m (numbers_of (done ++ a ∷ [])) told
    ∙ ap (objects.new_pages m.objects) (map-append (λ (area : Area). area.memory) done (a ∷ []))
    ∙ one_number_more (numbers_of done) a.memory m.objects told.memory.rising
    ∙ ap (λ n. n + cond (list_any (λ n. eqb n a.memory) (numbers_of done)) 0 (new_pages m a.memory))
    (sym (newly_told m (numbers_of done) told))
    ∙ ap (λ b. newly_pinned m (numbers_of done) + cond b 0 (new_pages m a.memory))
    (list_any-map (λ n. eqb n a.memory) (λ (area : Area). area.memory) done)

-- those before it are those that begin before it
abbrev earlier_over : Area → Area → Bool
earlier_over a b = ltb b.span.first a.span.first && eqb b.memory a.memory

none_behind : (low : ℕ) (rest : List Area) (a : Area) → a.span.first ≤ low → AreApartFrom low rest
    → list_any (earlier_over a) rest ≡ false
none_behind low [] a below apart = refl
none_behind low (b ∷ rest) a below apart =
    let first = apart.0 in
    let own = apart.1 in
    let late : ltb b.span.first a.span.first ≡ false = grind (arith, nat_tests) in
    rw late (none_behind (b.span.last + 1) rest a (omega (arith, first, own, below)) apart.2)

begins_from : (low : ℕ) (done rest : List Area) (a : Area) → AreApartFrom low (done ++ a ∷ rest) → low ≤ a.span.first
begins_from low [] rest a apart = apart.0
begins_from low (b ∷ done) rest a apart =
    let later = begins_from (b.span.last + 1) done rest a apart.2 in
    let first = apart.0 in
    let own = apart.1 in
    omega (arith, later, first, own)

earlier_are : (low : ℕ) (done rest : List Area) (a : Area) → AreApartFrom low (done ++ a ∷ rest)
    → list_any (λ (b : Area). ltb b.span.first a.span.first && eqb b.memory a.memory) (done ++ a ∷ rest) ≡ list_any
    (λ (b : Area). eqb b.memory a.memory) done
earlier_are low [] rest a apart =
    let own = apart.1 in
    let itself : ltb a.span.first a.span.first ≡ false = grind (arith, nat_tests) in
    rw itself (none_behind (a.span.last + 1) rest a (omega (arith, own)) apart.2)
earlier_are low (b ∷ done) rest a apart =
    let later = begins_from (b.span.last + 1) done rest a apart.2 in
    let own = apart.1 in
    let before : ltb b.span.first a.span.first ≡ true = grind (arith, nat_tests) in
    rw before (ap (λ c. eqb b.memory a.memory || c) (earlier_are (b.span.last + 1) done rest a apart.2))

-- so it is asked of all areas of an address space, by their starts
pub newly_next : (m : Memory) (areas done rest : List Area) (a : Area) (b : Bool) → ObjectsTell m.objects
    → AreApart areas → done ++ a ∷ rest ≡ areas
    → list_any (λ (other : Area). ltb other.span.first a.span.first && eqb other.memory a.memory) areas ≡ b
    → newly_pinned m (numbers_of (done ++ a ∷ [])) ≡ newly_pinned m (numbers_of done) + cond b 0 (new_pages m a.memory)
newly_next m areas done rest a b told apart split is =
    let before = earlier_are 0 done rest a (subst AreApart (sym split) apart) in
    let shared : list_any (λ (other : Area). eqb other.memory a.memory) done ≡ b =
    sym before ∙ ap (list_any (earlier_over a)) split ∙ is in
    newly_more m done a told ∙ ap (λ c. newly_pinned m (numbers_of done) + cond c 0 (new_pages m a.memory)) shared

-- the area is done, and those behind it are left
pub moved_on : (areas done rest left : List Area) (a : Area) → done ++ left ≡ areas → left ≡ a ∷ rest
    → (done ++ a ∷ []) ++ rest ≡ areas
moved_on areas done rest left a split is =
    append_assoc done (a ∷ []) rest ∙ ap (λ (l : List Area). done ++ l) (sym is) ∙ split
