-- At which frames pages are pinned, after a pin and after its end.
use Rattle.std.proofs.Common.{◌≡◌, ℕ, ◌+◌, Bool, true, false, cond, eqb, ltb, leb, not, ◌&&◌, ◌||◌, Option}
use Rattle.std.proofs.Common.{Some, None, List, [], ◌∷◌, map, refl, sym, ap, ◌∙◌, subst, arith, ⊎_elim}
use Rattle.std.specs.List.{list_any, slice_get}
use Rattle.std.proofs.lemmas.Bool.{and_parts, cases_Bool, eqb-true}
use Rattle.std.proofs.lemmas.Bool.Decides.{nat_tests}
use Rattle.iofd_words.specs.declared.numbers.FrameNo.{FrameNo}
use Rattle.iofd_words.specs.declared.rows.UserPage.{UserPage}
use Rattle.memory_objects.specs.Objects.{MemoryEntry, access_frame_in, all_pass, all_pinned, all_unpinned, can_pin}
use Rattle.memory_objects.specs.Objects.{frame_in}
use Rattle.memory_objects.specs.Objects.{frame_now_in, has_at_most, is_pinned_anew, is_unpinned, object_at, passes}
use Rattle.memory_objects.specs.Objects.{pinned_frame, pinned_less, pinned_more, row_of, rows_of, times_of, with_pages}
use Rattle.pinned_pages.specs.Pages.{ObjectPages, access_frame, are_present, frame_now, frame_of, or_else}
use Rattle.pinned_pages.specs.Pages.{own_frame_now, own_frames_now}
use Rattle.pinned_pages.proofs.Runs.{mapped_at, or_none, or_same}
use Rattle.memory_objects.proofs.OneObject.{times_more}
use Rattle.memory_objects.proofs.PinOne.{found_number}
use Rattle.memory_objects.proofs.Reserved.{found_mapped}

-- ---- an object of a number after a change that keeps numbers

pub not_found_mapped : (G : MemoryEntry → MemoryEntry) → ((o : MemoryEntry) → (G o).number ≡ o.number)
    → (objects : List MemoryEntry) (n : ℕ) → object_at objects n ≡ None → object_at (map G objects) n ≡ None
not_found_mapped G numbers [] n none = refl
not_found_mapped G numbers (o ∷ objects) n none =
    ⊎_elim
    (λ (here : eqb o.number n ≡ true). let some : Some o ≡ None = rw here at none in cc)
    (λ (other : eqb o.number n ≡ false).
    let later : object_at objects n ≡ None = rw other at none in
    let there : eqb (G o).number n ≡ false = rw (numbers o) other in
    ap (λ (b : Bool). cond b (Some (G o)) (object_at (map G objects) n)) there
    ∙ not_found_mapped G numbers objects n later)
    (cases_Bool (eqb o.number n))

-- whether a number is in a list
any_times : (n : ℕ) (ns : List ℕ) → list_any (λ m. eqb m n) ns ≡ not (eqb (times_of n ns) 0)
any_times n [] = refl
any_times n (m ∷ ns) =
    let more = times_more n m ns in
    let rest = any_times n ns in
    by_test (eqb m n) (times_of n (m ∷ ns)) (times_of n ns) (list_any (λ k. eqb k n) ns) more rest
  where
    by_test : (b : Bool) (all some : ℕ) (any : Bool) → all ≡ cond b 1 0 + some → any ≡ not (eqb some 0)
        → (b || any) ≡ not (eqb all 0)
    by_test true all some any is told = let test : eqb all 0 ≡ false = grind (arith, nat_tests) in rw test refl
    by_test false all some any is told = let same : all ≡ some = omega (arith, is) in rw same told

passes_in : (test : MemoryEntry → Bool) (objects : List MemoryEntry) (n : ℕ) (ns : List ℕ)
    → all_pass test objects ns ≡ true → list_any (λ m. eqb m n) ns ≡ true → passes test (object_at objects n) ≡ true
passes_in test objects n [] all there = cc
passes_in test objects n (m ∷ ns) all there =
    let parts = and_parts (passes test (object_at objects m)) (all_pass test objects ns) all in
    ⊎_elim
    (λ (here : eqb m n ≡ true). let same = eqb-true m n here in rw same at parts.0)
    (λ (other : eqb m n ≡ false). let later : list_any (λ k. eqb k n) ns ≡ true = rw other at there in passes_in test
    objects n ns parts.1 later)
    (cases_Bool (eqb m n))

-- ---- pinned

module _ (rows : List UserPage) (numbers : List ℕ) (objects : List MemoryEntry) where
  abbrev pin_each : MemoryEntry → MemoryEntry
  pin_each o = with_pages (pinned_more rows (times_of o.number numbers) o.pages.pages) o

  frames_of_one : (pages : ObjectPages) (k i : ℕ) (any : Bool) → any ≡ not (eqb k 0)
      → (any ≡ true → (not (eqb pages.table_pins 0) || are_present pages rows) ≡ true)
      → frame_of (pinned_more rows k pages) i ≡ cond (any && leb pages.table_pins 0)
      (or_else (access_frame pages i) (cond (ltb i pages.count) (frame_now pages rows i) None)) (frame_of pages i)
  frames_of_one pages k i any is ready =
      let test : leb pages.table_pins 0 ≡ eqb pages.table_pins 0 = grind (arith, nat_tests) in
      rw test (by_tests (eqb pages.table_pins 0) any (not (eqb k 0)) (sym is) (λ one two. there (ready two) one))
    where
      there : (not (eqb pages.table_pins 0) || are_present pages rows) ≡ true → eqb pages.table_pins 0 ≡ true
          → or_else (access_frame pages i) (slice_get (own_frames_now pages rows) i)
          ≡ or_else (access_frame pages i) (cond (ltb i pages.count) (frame_now pages rows i) None)
      there ready first =
          let present : are_present pages rows ≡ true = rw first at ready in
          let same : 0 + i ≡ i = omega arith in
          ap (or_else (access_frame pages i)) (mapped_at (own_frame_now pages rows) 0 pages.count i present
          ∙ ap (λ k. cond (ltb i pages.count) (own_frame_now pages rows k) None) same)
          ∙ by_index (ltb i pages.count) (access_frame pages i) (frame_now pages rows i)
        where
          by_index : (b : Bool) (f o : Option FrameNo)
              → or_else f (cond b (or_else f o) None) ≡ or_else f (cond b o None)
          by_index true f o = or_same f o
          by_index false f o = refl

      by_tests : (first any some : Bool) → some ≡ any
          → (first ≡ true → any ≡ true → or_else (access_frame pages i) (slice_get (own_frames_now pages rows) i)
          ≡ or_else (access_frame pages i) (cond (ltb i pages.count) (frame_now pages rows i) None))
          → or_else (access_frame pages i) (slice_get (cond (first && some) (own_frames_now pages rows) pages.frames) i)
          ≡ cond (any && first)
          (or_else (access_frame pages i) (cond (ltb i pages.count) (frame_now pages rows i) None))
          (frame_of pages i)
      by_tests true true some same own = rw same (own refl refl)
      by_tests true false some same own = rw same refl
      by_tests false true some same own = refl
      by_tests false false some same own = refl

  pub frames_pinned : all_pass (can_pin rows) objects numbers ≡ true → (n i : ℕ)
      → pinned_frame (all_pinned rows numbers objects) n i ≡ cond (is_pinned_anew objects numbers n)
      (or_else (access_frame_in (object_at objects n) i) (frame_now_in rows (object_at objects n) i))
      (pinned_frame objects n i)
  frames_pinned ready n i = by_object (object_at objects n) refl
    where
      by_object : (o : Option MemoryEntry) → object_at objects n ≡ o
          → frame_in (object_at (all_pinned rows numbers objects) n) i ≡ cond (list_any (λ m. eqb m n) numbers
          && has_at_most 0 (object_at objects n)) (or_else (access_frame_in (object_at objects n) i)
          (frame_now_in rows (object_at objects n) i)) (frame_in (object_at objects n) i)
      by_object None is =
          rw (is, not_found_mapped pin_each (λ x. refl) objects n is) (neither (list_any (λ m. eqb m n) numbers))
        where
          neither : (b : Bool) → let none : Option FrameNo = None in none ≡ cond (b && false) none none
          neither true = refl
          neither false = refl
      by_object (Some x) is =
          let number = found_number objects n x is in
          let told = any_times n numbers in
          let P : ℕ → Type 0 = λ m. list_any (λ k. eqb k n) numbers ≡ not (eqb (times_of m numbers) 0) in
          let Q : Option MemoryEntry → Type 0 = λ o. passes (can_pin rows) o ≡ true in
          rw (found_mapped pin_each (λ y. refl) objects n x is, is)
          (frames_of_one x.pages.pages (times_of x.number numbers) i (list_any (λ m. eqb m n) numbers)
          (subst P (sym number) told) (λ there. subst Q is
          (passes_in (can_pin rows) objects n numbers ready there)))

  pub rows_pinned : rows_of (all_pinned rows numbers objects) ≡ rows_of objects
  rows_pinned = same_rows objects
    where
      same_rows : (xs : List MemoryEntry) → rows_of (all_pinned rows numbers xs) ≡ rows_of xs
      same_rows [] = refl
      same_rows (o ∷ xs) = ap (λ rest. row_of o ∷ rest) (same_rows xs)

-- ---- unpinned

module _ (numbers : List ℕ) (objects : List MemoryEntry) where
  abbrev unpin_each : MemoryEntry → MemoryEntry
  unpin_each o = with_pages (pinned_less (times_of o.number numbers) o.pages.pages) o

  left_of_one : (pages : ObjectPages) (k i : ℕ) (any : Bool) → any ≡ not (eqb k 0)
      → frame_of (pinned_less k pages) i ≡ cond (any && leb pages.table_pins k) (access_frame pages i)
      (frame_of pages i)
  left_of_one pages k i any is = by_tests (leb pages.table_pins k) any (not (eqb k 0)) (sym is)
    where
      by_tests : (few any some : Bool) → some ≡ any
          → or_else (access_frame pages i) (slice_get (cond (few && some) [] pages.frames) i) ≡ cond (any && few)
          (access_frame pages i) (frame_of pages i)
      by_tests true true some same = rw same (or_none (access_frame pages i))
      by_tests true false some same = rw same refl
      by_tests false true some same = refl
      by_tests false false some same = refl

  pub frames_left : (n i : ℕ) → pinned_frame (all_unpinned numbers objects) n i ≡ cond (is_unpinned objects numbers n)
      (access_frame_in (object_at objects n) i) (pinned_frame objects n i)
  frames_left n i = by_object (object_at objects n) refl
    where
      by_object : (o : Option MemoryEntry) → object_at objects n ≡ o
          → frame_in (object_at (all_unpinned numbers objects) n) i ≡ cond (list_any (λ m. eqb m n) numbers
          && has_at_most (times_of n numbers) (object_at objects n)) (access_frame_in (object_at objects n) i)
          (frame_in (object_at objects n) i)
      by_object None is =
          rw (is, not_found_mapped unpin_each (λ x. refl) objects n is) (neither (list_any (λ m. eqb m n) numbers))
        where
          neither : (b : Bool) → let none : Option FrameNo = None in none ≡ cond (b && false) none none
          neither true = refl
          neither false = refl
      by_object (Some x) is =
          let number = found_number objects n x is in
          let told = any_times n numbers in
          let P : ℕ → Type 0 = λ m. frame_of (pinned_less (times_of m numbers) x.pages.pages) i ≡ cond
          (list_any (λ k. eqb k n) numbers && leb x.pages.pages.table_pins (times_of n numbers))
          (access_frame x.pages.pages i) (frame_of x.pages.pages i) in
          rw (found_mapped unpin_each (λ y. refl) objects n x is, is)
          (subst P (sym number) (left_of_one x.pages.pages (times_of n numbers) i
          (list_any (λ m. eqb m n) numbers) told))

  pub rows_unpinned : rows_of (all_unpinned numbers objects) ≡ rows_of objects
  rows_unpinned = same_rows objects
    where
      same_rows : (xs : List MemoryEntry) → rows_of (all_unpinned numbers xs) ≡ rows_of xs
      same_rows [] = refl
      same_rows (o ∷ xs) = ap (λ rest. row_of o ∷ rest) (same_rows xs)
