-- Memory objects found by number, and which of their pages are pinned.
use Rattle.std.proofs.Common.{◌≡◌, ℕ, ◌+◌, ◌≤◌, ◌^◌, Bool, true, false, ◌&&◌, ◌||◌, cond, eqb, ltb, leb, Option, Some}
use Rattle.std.proofs.Common.{None, List, [], ◌∷◌, length, refl, sym, ap, ◌∙◌, subst, arith, ⊎_elim}
use Rattle.std.specs.Prelude.{is_some}
use Rattle.std.specs.List.{find, list_all, list_any}
use Rattle.std.proofs.lemmas.Bool.{and_parts, cases_Bool, eqb-true, eqb-false, eq-eqb, ne_eqb, ltb-true}
use Rattle.std.proofs.lemmas.Bool.{leb-true}
use Rattle.iofd_words.specs.Frames.{frame_at}
use Rattle.iofd_words.specs.Pages.{page_of}
use Rattle.iofd_words.specs.Pins as pin
use Rattle.iofd_words.specs.Pins.{ObjectPage}
use Rattle.iofd_words.specs.declared.numbers.FrameNo.{FrameNo}
use Rattle.iofd_words.specs.declared.rows.MemoryObject.{MemoryObject}
use Rattle.iofd_words.specs.declared.rows.UserPage.{UserPage}
use Rattle.memory_objects.specs.Objects.{MemoryEntry, access_pins_in, access_pins_on, are_rising, object_at, rows_of}
use Rattle.pinned_pages.specs.Access.{are_counted}
use Rattle.pinned_pages.specs.Pages.{frame_of, is_pinned}
use Rattle.pinned_pages.proofs.PinnedPage.{frame_there}
use Rattle.pinned_pages.proofs.Runs.{none_is}
use Rattle.memory_objects.proofs.Invariants.{row_found, rows_found}
use Rattle.memory_objects.proofs.Numbered.{rising_parts}
use Rattle.user_memory.specs.Invariant.{is_kept}
use Rattle.user_memory.specs.Memory as memory
use Rattle.user_memory.specs.Memory.{Memory, pins_in}

-- ---- the object of a number

pub found_passes : (p : MemoryEntry → Bool) (objects : List MemoryEntry) (n : ℕ) (x : MemoryEntry)
    → list_all p objects ≡ true → object_at objects n ≡ Some x → p x ≡ true
found_passes p [] n x all is = cc
found_passes p (o ∷ objects) n x all is =
    let parts = and_parts (p o) (list_all p objects) all in
    by_test (eqb o.number n) is parts.0 (found_passes p objects n x parts.1)
  where
    by_test : (b : Bool) → cond b (Some o) (object_at objects n) ≡ Some x → p o ≡ true
        → (object_at objects n ≡ Some x → p x ≡ true) → p x ≡ true
    by_test true is here later = let same : o ≡ x = cc in subst (λ (y : MemoryEntry). p y ≡ true) same here
    by_test false is here later = later is

-- each of these objects is the one of its number among all
abbrev pub AreOwn : List MemoryEntry → List MemoryEntry → Type 0
AreOwn all [] = Unit {0}
AreOwn all (o ∷ objects) = (object_at all o.number ≡ Some o) × AreOwn all objects

own_behind : (x : MemoryEntry) (all objects : List MemoryEntry)
    → list_all (λ next. ltb x.number next.number) objects ≡ true → AreOwn all objects → AreOwn (x ∷ all) objects
own_behind x all [] after own = tt
own_behind x all (o ∷ objects) after own =
    let parts = and_parts (ltb x.number o.number) (list_all (λ next. ltb x.number next.number) objects) after in
    let low = ltb-true x.number o.number parts.0 in
    let other : eqb x.number o.number ≡ false = ne_eqb x.number o.number (λ same. omega (arith, low, same)) in
    (rw other own.0, own_behind x all objects parts.1 own.1)

pub own_numbers : (objects : List MemoryEntry) → are_rising objects ≡ true → AreOwn objects objects
own_numbers [] rising = tt
own_numbers (o ∷ objects) rising =
    let parts = rising_parts o objects rising in
    let here : eqb o.number o.number ≡ true = eq-eqb o.number o.number refl in
    (rw here refl, own_behind o objects objects parts.0 (own_numbers objects parts.1))

-- ---- which of its pages are pinned

-- the object has the page
abbrev pub has_index : Option MemoryEntry → ℕ → Bool
has_index None i = false
has_index (Some o) i = ltb i o.pages.pages.count

-- it has the page, and a pin stands on it
abbrev pub pinned_in : Option MemoryEntry → ℕ → Bool
pinned_in None i = false
pinned_in (Some o) i = is_pinned o.pages.pages i

-- the frame that the page is in its user's memory now
abbrev pub now_in : List UserPage → Option MemoryEntry → ℕ → Option FrameNo
now_in rows None i = None
now_in rows (Some o) i = frame_at rows o.pages.pages.user (page_of o.pages.pages.va + i)

none_behind : (x : MemoryEntry) (objects : List MemoryEntry) (n i : ℕ)
    → list_all (λ next. ltb x.number next.number) objects ≡ true → x.number ≡ n
    → list_any (λ (row : MemoryObject). eqb n row.number && ltb i row.count) (rows_of objects) ≡ false
none_behind x [] n i after same = refl
none_behind x (o ∷ objects) n i after same =
    let parts = and_parts (ltb x.number o.number) (list_all (λ next. ltb x.number next.number) objects) after in
    let low = ltb-true x.number o.number parts.0 in
    let other : eqb n o.number ≡ false = ne_eqb n o.number (λ e. omega (arith, low, same, e)) in
    rw other (none_behind x objects n i parts.1 same)

pub or_none : (b : Bool) → (b || false) ≡ b
or_none true = refl
or_none false = refl

pub row_has : (objects : List MemoryEntry) (n i : ℕ) → are_rising objects ≡ true
    → list_any (λ (row : MemoryObject). eqb n row.number && ltb i row.count)
    (rows_of objects) ≡ has_index (object_at objects n) i
row_has [] n i rising = refl
row_has (o ∷ objects) n i rising =
    let parts = rising_parts o objects rising in
    ⊎_elim
    (λ (here : eqb o.number n ≡ true).
    let same = eqb-true o.number n here in
    let flipped : eqb n o.number ≡ true = eq-eqb n o.number (sym same) in
    let none = none_behind o objects n i parts.0 same in
    rw (here, flipped, none) (or_none (ltb i o.pages.pages.count)))
    (λ (other : eqb o.number n ≡ false).
    let flipped : eqb n o.number ≡ false = ne_eqb n o.number (λ e. eqb-false o.number n other (sym e)) in
    rw (other, flipped) (row_has objects n i parts.1))
    (cases_Bool (eqb o.number n))

pub pinned_found : (objects : List MemoryEntry) (n i : ℕ) → are_rising objects ≡ true
    → (list_any (λ (row : MemoryObject). eqb n row.number && ltb i row.count) (rows_of objects)
    && (ltb 0 (pins_in (object_at objects n)) || ltb 0 (access_pins_on objects n i))) ≡ pinned_in (object_at objects n)
    i
pinned_found objects n i rising =
    ap (λ b. b && (ltb 0 (pins_in (object_at objects n)) || ltb 0 (access_pins_on objects n i)))
    (row_has objects n i rising)
    ∙ by_object (object_at objects n)
  where
    by_object : (o : Option MemoryEntry)
        → (has_index o i && (ltb 0 (pins_in o) || ltb 0 (access_pins_in o i))) ≡ pinned_in o i
    by_object None = refl
    by_object (Some o) = refl

-- the frame that a page of a row is now
abbrev now_of : List UserPage → ℕ → Option MemoryObject → Option FrameNo
now_of rows i None = None
now_of rows i (Some m) = frame_at rows m.user (page_of m.va + i)

pub now_found : (objects : List MemoryEntry) (rows : List UserPage) (n i : ℕ)
    → pin.frame_now (rows_of objects) rows (record { memory = n; index = i }) ≡ now_in rows (object_at objects n) i
now_found objects rows n i = as_row (find (λ (m : MemoryObject). eqb m.number n) (rows_of objects))
    ∙ ap (now_of rows i) (rows_found objects n) ∙ by_object (object_at objects n)
  where
    as_row : (r : Option MemoryObject) → elim r [
      | Some m ↦ frame_at rows m.user (page_of m.va + i)
      | None ↦ None
    ] ≡ now_of rows i r
    as_row None = refl
    as_row (Some m) = refl

    by_object : (o : Option MemoryEntry) → now_of rows i (row_found o) ≡ now_in rows o i
    by_object None = refl
    by_object (Some o) = refl

-- a page that is pinned is one of its object
pub pinned_has : (m : Memory) (page : ObjectPage) → are_rising m.objects ≡ true → memory.is_pinned m page ≡ true
    → has_index (object_at m.objects page.memory) page.index ≡ true
pinned_has m page rising pinned =
    sym (row_has m.objects page.memory page.index rising)
    ∙ (and_parts (list_any (λ (row : MemoryObject). eqb page.memory row.number && ltb page.index row.count)
    (rows_of m.objects)) (ltb 0 (pins_in (object_at m.objects page.memory))
    || ltb 0 (access_pins_on m.objects page.memory page.index)) pinned).0

-- ---- page tables pin all of its pages or none, and accesses some

module _ (o : MemoryEntry) (kept : is_kept o ≡ true) where
  kept_parts : (leb o.pages.pages.count (2 ^ 36) ≡ true)
      × ((eqb (length o.pages.pages.frames) (cond (eqb o.pages.pages.table_pins 0) 0 o.pages.pages.count) ≡ true)
      × (are_counted o.pages.pages.count o.pages.pages.access ≡ true))
  kept_parts =
      let parts = and_parts (leb o.pages.pages.count (2 ^ 36))
      (eqb (length o.pages.pages.frames) (cond (eqb o.pages.pages.table_pins 0) 0 o.pages.pages.count)
      && are_counted o.pages.pages.count o.pages.pages.access) kept in (
        parts.0,
        and_parts (eqb (length o.pages.pages.frames)
            (cond (eqb o.pages.pages.table_pins 0) 0 o.pages.pages.count))
            (are_counted o.pages.pages.count o.pages.pages.access) parts.1,
      )

  pub kept_count : o.pages.pages.count ≤ 2 ^ 36
  kept_count = leb-true o.pages.pages.count (2 ^ 36) kept_parts.0

  pub kept_frames : length o.pages.pages.frames ≡ cond (eqb o.pages.pages.table_pins 0) 0 o.pages.pages.count
  kept_frames = eqb-true (length o.pages.pages.frames) (cond (eqb o.pages.pages.table_pins 0) 0 o.pages.pages.count)
      kept_parts.1.0

  pub kept_rows : are_counted o.pages.pages.count o.pages.pages.access ≡ true
  kept_rows = kept_parts.1.1

  -- a page has a frame just where it is pinned
  pub page_there : (i : ℕ) → is_some (frame_of o.pages.pages i) ≡ is_pinned o.pages.pages i
  page_there i = frame_there o.pages.pages kept_rows kept_frames i

  pub not_pinned : (i : ℕ) → is_pinned o.pages.pages i ≡ false → frame_of o.pages.pages i ≡ None
  not_pinned i out = none_is (frame_of o.pages.pages i) (page_there i ∙ out)
