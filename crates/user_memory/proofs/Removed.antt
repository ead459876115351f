-- An area less over an object, which goes with its last one.
use Rattle.std.proofs.Common.{◌≡◌, ℕ, ◌+◌, ◌-◌, ◌≤◌, Bool, true, false, ◌&&◌, ◌||◌, cond, eqb, length, ltb, leb, not}
use Rattle.std.proofs.Common.{Option, Some}
use Rattle.std.proofs.Common.{None, List, [], ◌∷◌, map, refl, sym, ap, ◌∙◌, subst, arith}
use Rattle.std.specs.List.{filter, list_all}
use Rattle.std.proofs.lemmas.Bool.{and_parts, eq-eqb, eqb-true, leb-true, ne_eqb}
use Rattle.iofd_words.specs.declared.rows.UserPage.{UserPage}
use Rattle.memory_objects.specs.Objects.{MemoryEntry, object_at, row_of, rows_of, times_of, with_areas, without_areas}
use Rattle.memory_objects.proofs.OneObject.{times_one}
use Rattle.memory_objects.proofs.PinOne.{found_number}
use Rattle.user_memory.specs.Changes.{HasLess, never, once}
use Rattle.user_memory.specs.Invariant.{ObjectsTell, is_kept}
use Rattle.user_memory.specs.Memory.{areas_in, pins_in}
use Rattle.user_memory.proofs.Found.{AreOwn, found_passes, kept_rows, not_pinned, own_numbers}
use Rattle.user_memory.proofs.Moves.{all_filtered, all_mapped, all_own, has_areas}
use Rattle.user_memory.proofs.Settled.{StepOf, left_at, left_of, stays}
use Rattle.iofd_words.specs.Frames.{frame_at}
use Rattle.iofd_words.specs.Pages.{page_of}
use Rattle.std.proofs.lemmas.Bool.Decides.{nat_tests}
use Rattle.pinned_pages.specs.Access.{AccessRows, are_counted, row_at}
use Rattle.pinned_pages.specs.Access.{pins_in as pins_in_row}
use Rattle.pinned_pages.specs.Pages.{access_pins, frame_of, is_pinned}
use Rattle.pinned_pages.proofs.AccessRows.{found_counted}
use Rattle.memory_objects.specs.Objects.{access_pins_in, access_pins_on, may_go}

both_pass : (p q : MemoryEntry → Bool) (objects : List MemoryEntry) → list_all p objects ≡ true
    → list_all q objects ≡ true → list_all (λ o. p o && q o) objects ≡ true
both_pass p q [] one two = refl
both_pass p q (o ∷ objects) one two =
    let a = and_parts (p o) (list_all p objects) one in
    let b = and_parts (q o) (list_all q objects) two in
    rw (a.0, b.0) (both_pass p q objects a.1 b.1)

-- rows say some pin
no_rows : (n : ℕ) (rows : AccessRows) → are_counted n rows ≡ true → ((i : ℕ) → pins_in_row (row_at rows i) ≡ 0)
    → length rows ≡ 0
no_rows n [] counted none = refl
no_rows n (row ∷ rows) counted none =
    let here : eqb row.0 row.0 ≡ true = eq-eqb row.0 row.0 refl in
    let found : row_at (row ∷ rows) row.0 ≡ Some row.1 = rw here refl in
    let some = (found_counted n (row ∷ rows) counted row.0 row.1 found).1 in
    let zero = sym (ap pins_in_row found) ∙ none row.0 in
    absurd (omega (arith, some, zero))

-- the object with areas less
abbrev pub less_of : List ℕ → MemoryEntry → MemoryEntry
less_of numbers o = with_areas (o.areas - times_of o.number numbers) o

module _ (numbers : List ℕ) (old : List MemoryEntry) where
  -- a test that doesn't look at areas
  pub tests_stay : (p : MemoryEntry → Bool) → ((o : MemoryEntry) → p o ≡ true → p (less_of numbers o) ≡ true)
      → list_all p old ≡ true → list_all p (without_areas numbers old) ≡ true
  tests_stay p same all = all_filtered p (λ o. not (eqb o.areas 0)) (map (less_of numbers) old)
      (all_mapped p p (less_of numbers) same old all)

  rows_left : (new : List MemoryEntry) → ((k : ℕ) → object_at new k ≡ left_of numbers (object_at old k))
      → (objects : List MemoryEntry) → AreOwn old objects
      → rows_of (filter (λ o. not (eqb o.areas 0)) (map (less_of numbers) objects)) ≡ filter
      (λ row. not (eqb (areas_in (object_at new row.number)) 0)) (rows_of objects)
  rows_left new is [] own = refl
  rows_left new is (o ∷ objects) own =
      let rest = rows_left new is objects own.1 in
      let found = ap areas_in (is o.number ∙ ap (left_of numbers) own.0) in
      by_test (eqb (o.areas - times_of o.number numbers) 0) refl found rest
    where
      by_test : (b : Bool) → eqb (o.areas - times_of o.number numbers) 0 ≡ b
          → areas_in (object_at new o.number) ≡ areas_in
          (cond (eqb (o.areas - times_of o.number numbers) 0) None (Some (less_of numbers o)))
          → rows_of (filter (λ x. not (eqb x.areas 0)) (map (less_of numbers) objects)) ≡ filter
          (λ row. not (eqb (areas_in (object_at new row.number)) 0)) (rows_of objects)
          → rows_of (cond (not b) (less_of numbers o
          ∷ filter (λ x. not (eqb x.areas 0)) (map (less_of numbers) objects)) (filter
          (λ x. not (eqb x.areas 0)) (map (less_of numbers) objects)))
          ≡ cond (not (eqb (areas_in (object_at new o.number)) 0))
          (row_of o ∷ filter (λ row. not (eqb (areas_in (object_at new row.number)) 0)) (rows_of objects))
          (filter (λ row. not (eqb (areas_in (object_at new row.number)) 0)) (rows_of objects))
      by_test true gone found rest =
          let none : areas_in (object_at new o.number) ≡ 0 = rw gone at found in
          rw none rest
      by_test false some found rest =
          let areas : areas_in (object_at new o.number) ≡ o.areas - times_of o.number numbers = rw some at found in
          rw (areas, some) (ap (λ xs. row_of o ∷ xs) rest)

module _ (rows : List UserPage) (old : List MemoryEntry) (told : ObjectsTell old) (n : ℕ)
    (few : pins_in (object_at old n) + 1 ≤ areas_in (object_at old n))
    (free : areas_in (object_at old n) ≡ 1 → (i : ℕ) → access_pins_on old n i ≡ 0) where
  areas_less : (k : ℕ) → areas_in (object_at (without_areas (n ∷ []) old) k) + once n k ≡ areas_in (object_at old k)
  areas_less k =
      ap (λ b. areas_in b + once n k) (left_at (n ∷ []) old k told.memory.rising) ∙ by_object (object_at old k) refl
    where
      by_object : (a : Option MemoryEntry) → object_at old k ≡ a → areas_in (left_of (n ∷ []) a) + once n k ≡ areas_in a
      by_object None is =
          let other : eqb n k ≡ false = ne_eqb n k (λ same. let none = ap (λ m. areas_in (object_at old m)) same
          ∙ ap areas_in is in omega (arith, few, none)) in
          rw other refl
      by_object (Some o) is =
          let number = found_number old k o is in
          left_areas (eqb (o.areas - times_of o.number (n ∷ [])) 0) refl
          ∙ by_test (eqb n o.number) (eqb n k) refl (ap (eqb n) number) (times_one o.number n)
          (λ same. ap (λ m. areas_in (object_at old m)) (eqb-true n k same) ∙ ap areas_in is)
        where
          left_areas : (b : Bool) → eqb (o.areas - times_of o.number (n ∷ [])) 0 ≡ b
              → areas_in (cond b None (Some (less_of (n ∷ []) o))) + once n k ≡ o.areas
              - times_of o.number (n ∷ []) + once n k
          left_areas true gone =
              let none = eqb-true (o.areas - times_of o.number (n ∷ [])) 0 gone in ap (λ m. m + once n k) (sym none)
          left_areas false some = refl

          by_test : (b c : Bool) → eqb n k ≡ c → b ≡ c → times_of o.number (n ∷ []) ≡ cond b 1 0
              → (eqb n k ≡ true → areas_in (object_at old n) ≡ o.areas)
              → o.areas - times_of o.number (n ∷ []) + cond c 1 0 ≡ o.areas
          by_test true true is same times here = let areas = here is in omega (arith, times, areas, few)
          by_test false false is same times here = omega (arith, times)
          by_test true false is same times here = cc
          by_test false true is same times here = cc

  -- an object that goes has no pins
  gone_unpinned : (k : ℕ) (o : MemoryEntry) → object_at old k ≡ Some o
      → eqb (o.areas - times_of o.number (n ∷ [])) 0 ≡ true → o.pages.pages.table_pins ≡ 0
  gone_unpinned k o is gone =
      let has = and_parts (leb 1 o.areas) (leb o.pages.pages.table_pins o.areas)
      (found_passes has_areas old k o told.memory.areas is) in
      let some = leb-true 1 o.areas has.0 in
      let none = eqb-true (o.areas - times_of o.number (n ∷ [])) 0 gone in
      let number = found_number old k o is in
      by_test (eqb n o.number) refl (times_one o.number n) some none (λ same. same ∙ number)
    where
      by_test : (b : Bool) → eqb n o.number ≡ b → times_of o.number (n ∷ []) ≡ cond b 1 0 → 1 ≤ o.areas
          → o.areas - times_of o.number (n ∷ []) ≡ 0 → (n ≡ o.number → n ≡ k) → o.pages.pages.table_pins ≡ 0
      by_test true same times some none to_k =
          let here = to_k (eqb-true n o.number same) in
          let pins = ap (λ m. pins_in (object_at old m)) here ∙ ap pins_in is in
          let areas = ap (λ m. areas_in (object_at old m)) here ∙ ap areas_in is in
          omega (arith, times, some, none, pins, areas, few)
      by_test false other times some none to_k = absurd (omega (arith, times, some, none))

  -- and no access pins a page of it
  gone_free : (k : ℕ) (o : MemoryEntry) → object_at old k ≡ Some o
      → eqb (o.areas - times_of o.number (n ∷ [])) 0 ≡ true → (i : ℕ) → access_pins o.pages.pages i ≡ 0
  gone_free k o is gone i =
      let has = and_parts (leb 1 o.areas) (leb o.pages.pages.table_pins o.areas)
      (found_passes has_areas old k o told.memory.areas is) in
      let some = leb-true 1 o.areas has.0 in
      let none = eqb-true (o.areas - times_of o.number (n ∷ [])) 0 gone in
      let number = found_number old k o is in
      by_test (eqb n o.number) refl (times_one o.number n) some none (λ same. same ∙ number)
    where
      by_test : (b : Bool) → eqb n o.number ≡ b → times_of o.number (n ∷ []) ≡ cond b 1 0 → 1 ≤ o.areas
          → o.areas - times_of o.number (n ∷ []) ≡ 0 → (n ≡ o.number → n ≡ k) → access_pins o.pages.pages i ≡ 0
      by_test true same times some none to_k =
          let here = to_k (eqb-true n o.number same) in
          let areas = ap (λ m. areas_in (object_at old m)) here ∙ ap areas_in is in
          let last = free (omega (arith, times, some, none, areas)) i in
          sym (ap (λ m. access_pins_on old m i) here ∙ ap (λ o. access_pins_in o i) is) ∙ last
      by_test false other times some none to_k = absurd (omega (arith, times, some, none))

  -- so the object may go
  pub may_go_there : list_all is_kept old ≡ true → may_go (n ∷ []) old ≡ true
  may_go_there kept = all_own old (λ o. has_areas o && is_kept o) (λ o. ltb (times_of o.number (n ∷ [])) o.areas
      || eqb (length o.pages.pages.access) 0) one old (own_numbers old told.memory.rising)
      (both_pass has_areas is_kept old told.memory.areas kept)
    where
      one : (o : MemoryEntry) → object_at old o.number ≡ Some o → (has_areas o && is_kept o) ≡ true
          → (ltb (times_of o.number (n ∷ [])) o.areas || eqb (length o.pages.pages.access) 0) ≡ true
      one o own has =
          let parts = and_parts (has_areas o) (is_kept o) has in
          by_left (eqb (o.areas - times_of o.number (n ∷ [])) 0) refl (kept_rows o parts.1)
        where
          by_left : (b : Bool) → eqb (o.areas - times_of o.number (n ∷ [])) 0 ≡ b
              → are_counted o.pages.pages.count o.pages.pages.access ≡ true
              → (ltb (times_of o.number (n ∷ [])) o.areas || eqb (length o.pages.pages.access) 0) ≡ true
          by_left true gone rows =
              let none : eqb (length o.pages.pages.access) 0 ≡ true = eq-eqb (length o.pages.pages.access) 0
              (no_rows o.pages.pages.count o.pages.pages.access rows (gone_free o.number o own gone)) in
              either (ltb (times_of o.number (n ∷ [])) o.areas) none
            where
              either : (c : Bool) → eqb (length o.pages.pages.access) 0 ≡ true
                  → (c || eqb (length o.pages.pages.access) 0) ≡ true
              either true none = refl
              either false none = none
          by_left false some rows =
              let left : ltb (times_of o.number (n ∷ [])) o.areas ≡ true = grind (arith, nat_tests) in
              rw left refl

  pins_still : (k : ℕ) → pins_in (object_at (without_areas (n ∷ []) old) k) + never k ≡ pins_in (object_at old k)
  pins_still k = ap (λ b. pins_in b + 0) (left_at (n ∷ []) old k told.memory.rising) ∙ by_object (object_at old k) refl
    where
      by_object : (a : Option MemoryEntry) → object_at old k ≡ a → pins_in (left_of (n ∷ []) a) + 0 ≡ pins_in a
      by_object None is = refl
      by_object (Some o) is = by_test (eqb (o.areas - times_of o.number (n ∷ [])) 0) (gone_unpinned k o is)
        where
          by_test : (b : Bool) → (b ≡ true → o.pages.pages.table_pins ≡ 0)
              → pins_in (cond b None (Some (less_of (n ∷ []) o))) + 0 ≡ o.pages.pages.table_pins
          by_test true none = sym (none refl)
          by_test false none = omega arith

  access_still : (k i : ℕ) → access_pins_on (without_areas (n ∷ []) old) k i ≡ access_pins_on old k i
  access_still k i =
      ap (λ o. access_pins_in o i) (left_at (n ∷ []) old k told.memory.rising) ∙ by_object (object_at old k) refl
    where
      by_object : (a : Option MemoryEntry) → object_at old k ≡ a
          → access_pins_in (left_of (n ∷ []) a) i ≡ access_pins_in a i
      by_object None is = refl
      by_object (Some o) is = by_test (eqb (o.areas - times_of o.number (n ∷ [])) 0) (gone_free k o is)
        where
          by_test : (b : Bool) → (b ≡ true → (j : ℕ) → access_pins o.pages.pages j ≡ 0)
              → access_pins_in (cond b None (Some (less_of (n ∷ []) o))) i ≡ access_pins o.pages.pages i
          by_test true none = sym (none refl i)
          by_test false none = refl

  pub remove_less : (old_limits new_limits : List ℕ)
      → HasLess (once n) never (record { pages = rows; limits = old_limits; objects = old; room = 0 }) (record {
        pages = rows;
        limits = new_limits;
        objects = without_areas (n ∷ []) old;
        room = 0;
      })
  remove_less old_limits new_limits = record {
    rows = rows_left (n ∷ []) old (without_areas (n ∷ []) old) (λ k. left_at (n ∷ []) old k told.memory.rising) old
        (own_numbers old told.memory.rising);
    areas = areas_less;
    pins = pins_still;
    access = λ page. access_still page.memory page.index;
  }

  pub remove_steps : (k i : ℕ) → StepOf rows (object_at old k) (object_at (without_areas (n ∷ []) old) k) i
  remove_steps k i =
      let P : Option MemoryEntry → Type 0 = λ b. StepOf rows (object_at old k) b i in
      subst P (sym (left_at (n ∷ []) old k told.memory.rising)) (by_object (object_at old k) refl)
    where
      by_object : (a : Option MemoryEntry) → object_at old k ≡ a → StepOf rows a (left_of (n ∷ []) a) i
      by_object None is = refl
      by_object (Some o) is =
          by_test (eqb (o.areas - times_of o.number (n ∷ [])) 0) (found_passes is_kept old k o told.kept is)
        where
          by_test : (b : Bool) → is_kept o ≡ true → StepOf rows (Some o) (cond b None (Some (less_of (n ∷ []) o))) i
          by_test true kept = refl
          by_test false kept = stays (frame_of o.pages.pages i)
              (frame_at rows o.pages.pages.user (page_of o.pages.pages.va + i)) (is_pinned o.pages.pages i)
              (not_pinned o kept i)
