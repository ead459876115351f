-- Calls that leave all pins, and an object more.
use Rattle.std.proofs.Common.{◌≡◌, ℕ, ◌+◌, ◌-◌, Bool, true, false, cond, eqb, ltb, leb, Option, Some, None, List, []}
use Rattle.std.proofs.Common.{◌∷◌, ◌++◌, ◌||◌, length, map, refl, sym, ap, ◌∙◌, subst, arith, ⊎_elim}
use Rattle.std.specs.List.{list_all}
use Rattle.std.proofs.lemmas.Bool.{and_parts, cases_Bool, eqb-true}
use Rattle.std.proofs.lemmas.Bool.Decides.{nat_tests}
use Rattle.std.proofs.lemmas.List.{nil_from_length}
use Rattle.std.proofs.lemmas.List.Sums.{sum_by_push}
use Rattle.pinned_pages.specs.Holds.{times}
use Rattle.memory_objects.specs.Invariant.{MemoryInvariant}
use Rattle.memory_objects.specs.Objects.{MemoryEntry, MemoryGrows, SamePins, access_pins_in, access_pins_on, are_below}
use Rattle.memory_objects.specs.Objects.{are_rising, frame_in, may_go}
use Rattle.memory_objects.specs.Objects.{have_areas, object_at, pinned_by, pinned_frame, pins_on, row_of, rows_of}
use Rattle.memory_objects.specs.Objects.{times_of, with_area, with_areas, with_capacity, without_areas}
use Rattle.pinned_pages.specs.Access.{pins_in, row_at}
use Rattle.pinned_pages.specs.Pages.{access_pins, frame_of, held_frames, pinned_count}
use Rattle.memory_objects.proofs.FramesSeen.{not_found_mapped}
use Rattle.memory_objects.proofs.Invariants.{no_frames, no_pages_left, pinned_stay, pins_stay}
use Rattle.memory_objects.proofs.Numbered.{none_after, rising_parts}
use Rattle.memory_objects.proofs.OneObject.{sum_by-map}
use Rattle.memory_objects.proofs.Reserved.{found_mapped}

-- ---- changes that leave the pages

frames_mapped : (G : MemoryEntry → MemoryEntry) → ((o : MemoryEntry) → (G o).number ≡ o.number)
    → ((o : MemoryEntry) (i : ℕ) → frame_of (G o).pages.pages i ≡ frame_of o.pages.pages i)
    → (objects : List MemoryEntry) (n i : ℕ) → pinned_frame (map G objects) n i ≡ pinned_frame objects n i
frames_mapped G numbers same objects n i = by_object (object_at objects n) refl
  where
    by_object : (o : Option MemoryEntry) → object_at objects n ≡ o
        → frame_in (object_at (map G objects) n) i ≡ frame_in (object_at objects n) i
    by_object None is = rw (is, not_found_mapped G numbers objects n is) refl
    by_object (Some x) is = rw (is, found_mapped G numbers objects n x is) (same x i)

access_mapped : (G : MemoryEntry → MemoryEntry) → ((o : MemoryEntry) → (G o).number ≡ o.number)
    → ((o : MemoryEntry) (i : ℕ) → access_pins (G o).pages.pages i ≡ access_pins o.pages.pages i)
    → (objects : List MemoryEntry) (n i : ℕ) → access_pins_on (map G objects) n i ≡ access_pins_on objects n i
access_mapped G numbers same objects n i = by_object (object_at objects n) refl
  where
    by_object : (o : Option MemoryEntry) → object_at objects n ≡ o
        → access_pins_in (object_at (map G objects) n) i ≡ access_pins_in (object_at objects n) i
    by_object None is = rw (is, not_found_mapped G numbers objects n is) refl
    by_object (Some x) is = rw (is, found_mapped G numbers objects n x is) (same x i)

pub same_with_area : (number : ℕ) (objects : List MemoryEntry) → SamePins objects (with_area number objects)
same_with_area number objects =
    let G = λ (o : MemoryEntry). with_areas (o.areas + cond (eqb o.number number) 1 0) o in
    record {
      frames = frames_mapped G (λ o. refl) (λ o i. refl) objects;
      access = access_mapped G (λ o. refl) (λ o i. refl) objects;
      pins = λ frame. sum_by-map (λ (o : MemoryEntry). times frame (held_frames o.pages.pages)) G objects;
      pinned = λ user. sum_by-map (λ (o : MemoryEntry). cond (eqb o.pages.pages.user.0 user)
          (pinned_count o.pages.pages) 0) G objects;
    }

pub same_grown : (old new : List MemoryEntry) → MemoryGrows old new → SamePins old new
same_grown old new grows =
    let G = λ (o : MemoryEntry). with_capacity (grows.capacity o) o in
    let P : List MemoryEntry → Type 0 = λ xs. SamePins old xs in
    subst P (sym grows.objects) (record {
      frames = frames_mapped G (λ o. refl) (λ o i. refl) old;
      access = access_mapped G (λ o. refl) (λ o i. refl) old;
      pins = λ frame. sum_by-map (λ (o : MemoryEntry). times frame (held_frames o.pages.pages)) G old;
      pinned = λ user. sum_by-map (λ (o : MemoryEntry). cond (eqb o.pages.pages.user.0 user)
          (pinned_count o.pages.pages) 0) G old;
    })

pub rows_with_area : (number : ℕ) (objects : List MemoryEntry) → rows_of (with_area number objects) ≡ rows_of objects
rows_with_area number [] = refl
rows_with_area number (o ∷ objects) = ap (λ rest. row_of o ∷ rest) (rows_with_area number objects)

pub rows_grown : (old new : List MemoryEntry) → MemoryGrows old new → rows_of new ≡ rows_of old
rows_grown old new grows = ap rows_of grows.objects ∙ same_rows old
  where
    same_rows : (xs : List MemoryEntry) → rows_of (map (λ o. with_capacity (grows.capacity o) o) xs) ≡ rows_of xs
    same_rows [] = refl
    same_rows (o ∷ xs) = ap (λ rest. row_of o ∷ rest) (same_rows xs)

-- ---- objects that go

-- what is the same of all objects, and nothing of those that go
seen_without : {X : Type 0} (f : Option MemoryEntry → X)
    → ((o : MemoryEntry) (areas : ℕ) → f (Some (with_areas areas o)) ≡ f (Some o)) → (numbers : List ℕ)
    → ((o : MemoryEntry) → no_pages_left o ≡ true
    → leb (o.pages.pages.table_pins + times_of o.number numbers) o.areas ≡ true
    → (ltb (times_of o.number numbers) o.areas || eqb (length o.pages.pages.access) 0) ≡ true
    → eqb (o.areas - times_of o.number numbers) 0 ≡ true → f (Some o) ≡ f None) → (objects : List MemoryEntry)
    → are_rising objects ≡ true → list_all no_pages_left objects ≡ true → have_areas numbers objects ≡ true
    → may_go numbers objects ≡ true → (n : ℕ)
    → f (object_at (without_areas numbers objects) n) ≡ f (object_at objects n)
seen_without f same numbers nothing [] rising held room go n = refl
seen_without f same numbers nothing (o ∷ objects) rising held room go n =
    let a = and_parts (no_pages_left o) (list_all no_pages_left objects) held in
    let b = and_parts (leb (o.pages.pages.table_pins + times_of o.number numbers) o.areas)
    (have_areas numbers objects) room in
    let c = and_parts (ltb (times_of o.number numbers) o.areas || eqb (length o.pages.pages.access) 0)
    (may_go numbers objects) go in
    let r = rising_parts o objects rising in
    let rest = seen_without f same numbers nothing objects r.1 a.1 b.1 c.1 n in
    ⊎_elim
    (λ (gone : eqb (o.areas - times_of o.number numbers) 0 ≡ true).
    ⊎_elim
    (λ (here : eqb o.number n ≡ true).
    let number = eqb-true o.number n here in
    let none = none_after n o objects r.0 (omega (arith, number)) in
    let empty = nothing o a.0 b.0 c.0 gone in
    rw (gone, here) (rest ∙ ap f none ∙ sym empty))
    (λ (other : eqb o.number n ≡ false). rw (gone, other) rest)
    (cases_Bool (eqb o.number n)))
    (λ (kept : eqb (o.areas - times_of o.number numbers) 0 ≡ false).
    ⊎_elim
    (λ (here : eqb o.number n ≡ true). rw (kept, here) (same o (o.areas - times_of o.number numbers)))
    (λ (other : eqb o.number n ≡ false). rw (kept, other) rest)
    (cases_Bool (eqb o.number n)))
    (cases_Bool (eqb (o.areas - times_of o.number numbers) 0))

no_pins : (o : MemoryEntry) (numbers : List ℕ)
    → leb (o.pages.pages.table_pins + times_of o.number numbers) o.areas ≡ true
    → (ltb (times_of o.number numbers) o.areas || eqb (length o.pages.pages.access) 0) ≡ true
    → eqb (o.areas - times_of o.number numbers) 0 ≡ true → (i : ℕ) → access_pins o.pages.pages i ≡ 0
no_pins o numbers room go gone i =
    let all : ltb (times_of o.number numbers) o.areas ≡ false = grind (arith, nat_tests) in
    let no_rows : eqb (length o.pages.pages.access) 0 ≡ true = rw all at go in
    let access = nil_from_length o.pages.pages.access (eqb-true (length o.pages.pages.access) 0 no_rows) in
    ap (λ rows. pins_in (row_at rows i)) access

pub same_without : (numbers : List ℕ) (objects : List MemoryEntry) → MemoryInvariant objects
    → have_areas numbers objects ≡ true → may_go numbers objects ≡ true
    → SamePins objects (without_areas numbers objects)
same_without numbers objects kept room go = record {
  frames = λ n i. seen_without (λ o. frame_in o i) (λ o areas. refl) numbers
      (λ o held fits goes gone. no_frames o numbers held fits goes gone i) objects kept.rising kept.unpinned room go n;
  access = λ n i. seen_without (λ o. access_pins_in o i) (λ o areas. refl) numbers
      (λ o held fits goes gone. no_pins o numbers fits goes gone i) objects kept.rising kept.unpinned room go n;
  pins = pins_stay numbers objects kept room go;
  pinned = pinned_stay numbers objects kept room go;
}

-- ---- an object more

pub object_appended : (objects : List MemoryEntry) (x : MemoryEntry) (n : ℕ) → are_below objects x.number ≡ true
    → object_at (objects ++ x ∷ []) n ≡ cond (eqb x.number n) (Some x) (object_at objects n)
object_appended [] x n below = refl
object_appended (o ∷ objects) x n below =
    let parts = and_parts (ltb o.number x.number) (are_below objects x.number) below in
    let rest = object_appended objects x n parts.1 in
    ⊎_elim
    (λ (here : eqb o.number n ≡ true).
    let other : eqb x.number n ≡ false = grind (arith, nat_tests) in
    rw (here, other) refl)
    (λ (other : eqb o.number n ≡ false). rw other rest)
    (cases_Bool (eqb o.number n))

pub frames_appended : (objects : List MemoryEntry) (x : MemoryEntry) → are_below objects x.number ≡ true → (n i : ℕ)
    → pinned_frame (objects ++ x ∷ []) n i ≡ cond (eqb x.number n) (frame_of x.pages.pages i) (pinned_frame objects n i)
frames_appended objects x below n i =
    ap (λ o. frame_in o i) (object_appended objects x n below) ∙ by_test (eqb x.number n)
  where
    by_test : (b : Bool) → frame_in (cond b (Some x) (object_at objects n)) i ≡ cond b (frame_of x.pages.pages i)
        (frame_in (object_at objects n) i)
    by_test true = refl
    by_test false = refl

pub pins_appended : (objects : List MemoryEntry) (x : MemoryEntry) (frame : ℕ)
    → pins_on (objects ++ x ∷ []) frame ≡ pins_on objects frame + times frame (held_frames x.pages.pages)
pins_appended objects x frame = sum_by_push (λ (o : MemoryEntry). times frame (held_frames o.pages.pages)) objects x

pub pinned_appended : (objects : List MemoryEntry) (x : MemoryEntry) (user : ℕ)
    → pinned_by (objects ++ x ∷ []) user ≡ pinned_by objects user
    + cond (eqb x.pages.pages.user.0 user) (pinned_count x.pages.pages) 0
pinned_appended objects x user =
    sum_by_push (λ (o : MemoryEntry). cond (eqb o.pages.pages.user.0 user) (pinned_count o.pages.pages) 0) objects x
