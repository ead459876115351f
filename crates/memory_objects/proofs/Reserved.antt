-- Memory for more frames of memory objects.
use Rattle.std.proofs.Common.{◌≡◌, ℕ, ◌<◌, ◌≤◌, Bool, true, false, cond, eqb, leb, Option, Some, List, [], ◌∷◌, map}
use Rattle.std.proofs.Common.{set, refl, sym, ap, ◌∙◌, subst, arith, ⊎_elim}
use Rattle.std.specs.Prelude.{Err, Ok, OnErr, Result}
use Rattle.std.specs.List.{slice_get}
use Rattle.iofd_words.specs.declared.refusal.NoMemory.{NoMemory}
use Rattle.std.proofs.lemmas.Bool.{cases_Bool}
use Rattle.std.proofs.lemmas.Bool.Decides.{nat_tests}
use Rattle.memory_objects.specs.Objects.{MemoryEntry, MemoryGrows, all_pass, are_rising, has_memory, object_at, passes}
use Rattle.memory_objects.specs.Objects.{with_capacity}
use Rattle.pinned_pages.specs.Pages.{MemoryPages, needed}
use Rattle.memory_objects.proofs.OneObject.{all_changed, changed_at, set_by_number}
use Rattle.memory_objects.proofs.PinAll.{map_after, map_itself}
use Rattle.memory_objects.proofs.PinOne.{found_number}

-- ---- nothing, and one after the other

pub grows_none : (objects : List MemoryEntry) → MemoryGrows objects objects
grows_none objects = record {
  capacity = λ o. o.pages.capacity;
  more = λ o. omega arith;
  objects = sym (map_itself (λ o. with_capacity o.pages.capacity o) (λ o. refl) objects);
}

pub grows_further : (a b c : List MemoryEntry) → MemoryGrows a b → MemoryGrows b c → MemoryGrows a c
grows_further a b c first next = record {
  capacity = λ o. next.capacity (with_capacity (first.capacity o) o);
  more = λ o. let one =
      first.more o in let two = next.more (with_capacity (first.capacity o) o) in omega (arith, one, two);
  objects = next.objects ∙ ap (map (λ o. with_capacity (next.capacity o) o)) first.objects
      ∙ map_after (λ o. with_capacity (first.capacity o) o) (λ o. with_capacity (next.capacity o) o)
      (λ o. with_capacity (next.capacity (with_capacity (first.capacity o) o)) o) (λ o. refl) a;
}

-- ---- one object

more_memory : (o : MemoryEntry) (capacity : ℕ) → o.pages.capacity ≤ capacity → has_memory o ≡ true
    → has_memory (with_capacity capacity o) ≡ true
more_memory o capacity more enough = grind (arith, nat_tests)

-- the memory of an object of this number, where it is less
pub grown : ℕ → ℕ → MemoryEntry → ℕ
grown n capacity o =
    cond (eqb o.number n) (cond (leb o.pages.capacity capacity) capacity o.pages.capacity) o.pages.capacity

grown_more : (n capacity : ℕ) (o : MemoryEntry) → o.pages.capacity ≤ grown n capacity o
unfolding grown
grown_more n capacity o = by_test (eqb o.number n) (leb o.pages.capacity capacity) (λ le. search (le, arith, nat_tests))
  where
    by_test : (a b : Bool) → (b ≡ true → o.pages.capacity ≤ capacity)
        → o.pages.capacity ≤ cond a (cond b capacity o.pages.capacity) o.pages.capacity
    by_test true true le = le refl
    by_test true false le = omega arith
    by_test false b le = omega arith

grown_other : (n capacity : ℕ) (o : MemoryEntry) → eqb o.number n ≡ false → with_capacity (grown n capacity o) o ≡ o
unfolding grown
grown_other n capacity o other = rw other refl

grown_here : (n capacity : ℕ) (o : MemoryEntry) → o.number ≡ n → o.pages.capacity ≤ capacity
    → grown n capacity o ≡ capacity
unfolding grown
grown_here n capacity o is more =
    let here : eqb o.number n ≡ true = grind (arith, nat_tests) in
    let le : leb o.pages.capacity capacity ≡ true = grind (arith, nat_tests) in
    rw (here, le) refl

pub found_mapped : (G : MemoryEntry → MemoryEntry) → ((o : MemoryEntry) → (G o).number ≡ o.number)
    → (objects : List MemoryEntry) (n : ℕ) (x : MemoryEntry) → object_at objects n ≡ Some x
    → object_at (map G objects) n ≡ Some (G x)
found_mapped G numbers [] n x found = cc
found_mapped G numbers (o ∷ objects) n x found =
    ⊎_elim
    (λ (here : eqb o.number n ≡ true).
    let one : Some o ≡ Some x = rw here at found in
    let same : o ≡ x = cc in
    let there : eqb (G o).number n ≡ true = rw (numbers o) here in
    ap (λ (b : Bool). cond b (Some (G o)) (object_at (map G objects) n)) there ∙ ap (λ y. Some (G y)) same)
    (λ (other : eqb o.number n ≡ false).
    let later : object_at objects n ≡ Some x = rw other at found in
    let there : eqb (G o).number n ≡ false = rw (numbers o) other in
    ap (λ (b : Bool). cond b (Some (G o)) (object_at (map G objects) n)) there
    ∙ found_mapped G numbers objects n x later)
    (cases_Bool (eqb o.number n))

module _ (objects : List MemoryEntry) (n p : ℕ) (x : MemoryEntry) (new : MemoryPages)
    (rising : are_rising objects ≡ true) (there : slice_get objects p ≡ Some x) (found : object_at objects n ≡ Some x)
    (same : new.pages ≡ x.pages.pages) (more : x.pages.capacity ≤ new.capacity) (room : new.room ≡ x.pages.room) where
  is_grown : record { number = x.number; areas = x.areas; pages = new } ≡ with_capacity (grown n new.capacity x) x
  is_grown =
      let number = found_number objects n x found in
      let capacity = grown_here n new.capacity x number more in
      λ i. record {
        number = x.number;
        areas = x.areas;
        pages = record {
          pages = same i;
          capacity = sym capacity i;
          room = room i;
        };
      }

  pub set_grown : set objects p (record { number = x.number; areas = x.areas; pages = new }) ≡ map
      (λ o. with_capacity (grown n new.capacity o) o) objects
  set_grown =
      let number = found_number objects n x found in
      ap (set objects p) is_grown ∙ set_by_number n (λ o. with_capacity (grown n new.capacity o) o)
      (grown_other n new.capacity) objects p x rising there number

  pub grows_one : MemoryGrows objects (set objects p (record { number = x.number; areas = x.areas; pages = new }))
  grows_one = record { capacity = grown n new.capacity; more = grown_more n new.capacity; objects = set_grown }

  pub enough_now : needed x.pages.pages ≤ new.capacity
      → passes has_memory (object_at (set objects p (record { number = x.number; areas = x.areas; pages = new })) n)
      ≡ true
  enough_now enough =
      let found_now = found_mapped (λ o. with_capacity (grown n new.capacity o) o) (λ o. refl) objects n x found in
      let number = found_number objects n x found in
      let capacity = grown_here n new.capacity x number more in
      let now : has_memory (with_capacity (grown n new.capacity x) x) ≡ true = rw capacity (grind (arith, nat_tests)) in
      let P : List MemoryEntry → Type 0 = λ xs. passes has_memory (object_at xs n) ≡ true in
      let Q : Option MemoryEntry → Type 0 = λ o. passes has_memory o ≡ true in
      subst P (sym set_grown) (subst Q (sym found_now) now)

pub lacked_before : (objects : List MemoryEntry) (n : ℕ) (x : MemoryEntry) → object_at objects n ≡ Some x
    → x.pages.capacity < needed x.pages.pages → passes has_memory (object_at objects n) ≡ false
lacked_before objects n x found less =
    let Q : Option MemoryEntry → Type 0 = λ o. passes has_memory o ≡ false in
    let here : has_memory x ≡ false = grind (arith, nat_tests) in
    subst Q (sym found) here

-- what holds holds after an error
pub after_error : (r : Result (Unit {0}) NoMemory) (P : Type 0) → P → OnErr r P
after_error (Ok done) P holds = tt
after_error (Err memory) P holds = holds

-- ---- what stays enough

module _ (old new : List MemoryEntry) (grows : MemoryGrows old new) where
  pub enough_still : (ns : List ℕ) → all_pass has_memory old ns ≡ true → all_pass has_memory new ns ≡ true
  enough_still ns all = rw grows.objects (all_changed (λ o. with_capacity (grows.capacity o) o) (λ o. refl) has_memory
      (λ o. more_memory o (grows.capacity o) (grows.more o)) old ns all)

  pub lacked_from : (n : ℕ) → passes has_memory (object_at new n) ≡ false → passes has_memory (object_at old n) ≡ false
  lacked_from n lacks =
      ⊎_elim
      (λ (enough : passes has_memory (object_at old n) ≡ true).
      let kept = changed_at (λ o. with_capacity (grows.capacity o) o) (λ o. refl) has_memory
      (λ o. more_memory o (grows.capacity o) (grows.more o)) old n enough in
      let P : List MemoryEntry → Type 0 = λ xs. passes has_memory (object_at xs n) ≡ true in
      let now = subst P (sym grows.objects) kept in
      cc)
      (λ (lacked : passes has_memory (object_at old n) ≡ false). lacked)
      (cases_Bool (passes has_memory (object_at old n)))
