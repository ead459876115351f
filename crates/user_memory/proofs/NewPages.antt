-- What pinning several objects pins anew, number by number. A call that asks one number at a time adds up the same.
use Rattle.std.proofs.Common.{◌≡◌, ℕ, zero, suc, ◌+◌, ◌<◌, ◌≤◌, Bool, true, false, ◌&&◌, ◌||◌, cond, eqb, ltb, not}
use Rattle.std.proofs.Common.{Option, Some, None, List, [], ◌∷◌, ◌++◌, map, length, refl, sym, ap, ◌∙◌, arith, ⊎_elim}
use Rattle.std.specs.Prelude.{is_none, is_some}
use Rattle.std.specs.List.{filter, flat_map, list_all, list_any, range_with_len, slice_get, sum_by, AllByRecursion}
use Rattle.std.proofs.lemmas.Bool.{and_parts, cases_Bool, eqb-true, eqb-false, eq-eqb, ltb-true, ne_eqb, not-true}
use Rattle.std.proofs.lemmas.List.Concat.{flat_map-cons}
use Rattle.std.proofs.lemmas.List.Folds.{list_any-append}
use Rattle.std.proofs.lemmas.List.Sums.{sum_by-cons}
use Rattle.std.proofs.lemmas.Option.{slice_get_past}
use Rattle.iofd_words.specs.Pins.{ObjectPage, pages_of, unpinned_pages}
use Rattle.iofd_words.specs.declared.numbers.FrameNo.{FrameNo}
use Rattle.iofd_words.specs.declared.rows.MemoryObject.{MemoryObject}
use Rattle.iofd_words.specs.declared.rows.UserPage.{UserPage}
use Rattle.memory_objects.specs.Objects as objects
use Rattle.memory_objects.specs.Objects.{MemoryEntry, are_rising, can_pin, frame_in, new_count_in, object_at, passes}
use Rattle.memory_objects.specs.Objects.{row_of, rows_of}
use Rattle.pinned_pages.specs.Pages.{access_frame, are_present, frame_now, frame_of, new_count, or_else, own_frame_now}
use Rattle.pinned_pages.proofs.Runs as runs
use Rattle.pinned_pages.proofs.Runs.{some_or, some_within}
use Rattle.memory_objects.proofs.Counted.{no_numbers, one_number_more}
use Rattle.memory_objects.proofs.Numbered.{rising_parts}
use Rattle.user_memory.specs.Invariant.{ObjectsTell, is_kept}
use Rattle.user_memory.specs.Memory as memory
use Rattle.user_memory.specs.Memory.{Memory, are_different, lacks_page, new_pages, newly_pinned}
use Rattle.user_memory.specs.Memory.{pinned_frame, rows_at}
use Rattle.user_memory.proofs.Counts.{newly_told, none_from_some}
use Rattle.user_memory.proofs.Found.{AreOwn, kept_frames, now_found, now_in, own_numbers}

-- ---- how many

swap_or : (a b : Bool) → (a || b) ≡ (b || (a || false))
swap_or true true = refl
swap_or true false = refl
swap_or false true = refl
swap_or false false = refl

-- the first number may as well be the last
number_moved : (n : ℕ) (ns : List ℕ) (entries : List MemoryEntry)
    → objects.new_pages entries (n ∷ ns) ≡ objects.new_pages entries (ns ++ n ∷ [])
number_moved n ns [] = refl
number_moved n ns (o ∷ entries) =
    let rest = number_moved n ns entries in
    let one = sum_by-cons (λ (x : MemoryEntry). cond (list_any (λ m. eqb m x.number) (n ∷ ns))
    (new_count x.pages.pages) 0) o entries in
    let two = sum_by-cons (λ (x : MemoryEntry). cond (list_any (λ m. eqb m x.number) (ns ++ n ∷ []))
    (new_count x.pages.pages) 0) o entries in
    let any = swap_or (eqb n o.number) (list_any (λ m. eqb m o.number) ns)
    ∙ sym (list_any-append (λ m. eqb m o.number) ns (n ∷ [])) in
    let same = ap (λ b. cond b (new_count o.pages.pages) 0) any in
    omega (arith, rest, one, two, same)

-- each object's count is added once, where no number comes twice
pub newly_by_number : (m : Memory) (numbers : List ℕ) → ObjectsTell m.objects → are_different numbers ≡ true
    → newly_pinned m numbers ≡ sum_by (new_pages m) numbers
newly_by_number m numbers told different = newly_told m numbers told ∙ added numbers different
  where
    added : (ns : List ℕ) → are_different ns ≡ true → objects.new_pages m.objects ns ≡ sum_by (new_pages m) ns
    added [] all = no_numbers m.objects
    added (n ∷ ns) all =
        let parts = and_parts (not (list_any (λ k. eqb k n) ns)) (are_different ns) all in
        let first = not-true (list_any (λ k. eqb k n) ns) parts.0 in
        let rest = added ns parts.1 in
        let sum = sum_by-cons (new_pages m) n ns in
        let more = one_number_more ns n m.objects told.memory.rising in
        let one = ap (λ b. cond b 0 (new_count_in (object_at m.objects n))) first in
        let moved = number_moved n ns m.objects in
        omega (arith, rest, sum, more, one, moved)

-- ---- which lack

is_no : (f : Option FrameNo) → is_none f ≡ not (is_some f)
is_no None = refl
is_no (Some f) = refl

any_same : (q : ObjectPage → Bool) (r : ℕ → Bool) (number from count : ℕ)
    → ((i : ℕ) → from ≤ i → i < from + count → q (record { memory = number; index = i }) ≡ r i)
    → list_any q (map (λ i. record { memory = number; index = i }) (range_with_len from count)) ≡ list_any r
    (range_with_len from count)
any_same q r number from zero each = refl
any_same q r number from (suc count) each =
    let here = each from (omega arith) (omega arith) in
    let rest = any_same q r number (from + 1) count (λ i low high. each i (omega (arith, low)) (omega (arith, high))) in
    rw (here, rest) refl

any_false : (ns : List ℕ) → list_any (λ i. false) ns ≡ false
any_false [] = refl
any_false (n ∷ ns) = any_false ns

not_all : (p : ℕ → Bool) (ns : List ℕ) → list_any (λ i. not (p i)) ns ≡ not (list_all p ns)
not_all p [] = refl
not_all p (n ∷ ns) = let rest = not_all p ns in by_test (p n) (list_all p ns) rest
  where
    by_test : (a b : Bool) → list_any (λ i. not (p i)) ns ≡ not b
        → (not a || list_any (λ i. not (p i)) ns) ≡ not (a && b)
    by_test true b rest = rest
    by_test false b rest = refl

any_filtered : (q p : ObjectPage → Bool) (pages : List ObjectPage)
    → list_any q (filter p pages) ≡ list_any (λ page. p page && q page) pages
any_filtered q p [] = refl
any_filtered q p (page ∷ pages) = let rest = any_filtered q p pages in by_test (p page) rest
  where
    by_test : (b : Bool) → list_any q (filter p pages) ≡ list_any (λ x. p x && q x) pages
        → list_any q (cond b (page ∷ filter p pages) (filter p pages)) ≡ ((b && q page)
        || list_any (λ x. p x && q x) pages)
    by_test true rest = rw rest refl
    by_test false rest = rest

-- the pages of all objects whose rows pass a test
any_of_rows : (q : ObjectPage → Bool) (t : MemoryObject → Bool) (f : MemoryEntry → Bool) (entries : List MemoryEntry)
    → AllByRecursion (λ o. list_any q (pages_of (row_of o)) ≡ f o) entries
    → list_any q (flat_map pages_of (filter t (rows_of entries))) ≡ list_any (λ o. t (row_of o) && f o) entries
any_of_rows q t f [] each = refl
any_of_rows q t f (o ∷ entries) each = by_test (t (row_of o)) each.0 (any_of_rows q t f entries each.1)
  where
    by_test : (b : Bool) → list_any q (pages_of (row_of o)) ≡ f o
        → list_any q (flat_map pages_of (filter t (rows_of entries))) ≡ list_any (λ x. t (row_of x) && f x) entries
        → list_any q (flat_map pages_of (cond b (row_of o ∷ filter t (rows_of entries)) (filter t (rows_of entries))))
        ≡ ((b && f o) || list_any (λ x. t (row_of x) && f x) entries)
    by_test true here rest =
        ap (list_any q) (flat_map-cons pages_of (row_of o) (filter t (rows_of entries)))
        ∙ list_any-append q (pages_of (row_of o)) (flat_map pages_of (filter t (rows_of entries)))
        ∙ rw (here, rest) refl
    by_test false here rest = rest

-- an object that isn't pinned, and a page of which isn't there
abbrev pub lacks : List UserPage → MemoryEntry → Bool
lacks rows o = not (can_pin rows o)

-- of which objects it is asked
any_behind : (f : MemoryEntry → Bool) (x : MemoryEntry) (entries : List MemoryEntry) (n : ℕ)
    → list_all (λ next. ltb x.number next.number) entries ≡ true → x.number ≡ n
    → list_any (λ (o : MemoryEntry). eqb n o.number && f o) entries ≡ false
any_behind f x [] n after same = refl
any_behind f x (o ∷ entries) n after same =
    let parts = and_parts (ltb x.number o.number) (list_all (λ next. ltb x.number next.number) entries) after in
    let low = ltb-true x.number o.number parts.0 in
    let other : eqb n o.number ≡ false = ne_eqb n o.number (λ e. omega (arith, low, same, e)) in
    rw other (any_behind f x entries n parts.1 same)

or_none : (b : Bool) → (b || false) ≡ b
or_none true = refl
or_none false = refl

any_numbered : (test : MemoryEntry → Bool) (entries : List MemoryEntry) (n : ℕ) → are_rising entries ≡ true
    → list_any (λ (o : MemoryEntry). eqb n o.number && not (test o)) entries ≡ not (passes test (object_at entries n))
any_numbered test [] n rising = refl
any_numbered test (o ∷ entries) n rising =
    let parts = rising_parts o entries rising in
    ⊎_elim
    (λ (here : eqb o.number n ≡ true).
    let same = eqb-true o.number n here in
    let flipped : eqb n o.number ≡ true = eq-eqb n o.number (sym same) in
    let none = any_behind (λ x. not (test x)) o entries n parts.0 same in
    rw (here, flipped, none) (or_none (not (test o))))
    (λ (other : eqb o.number n ≡ false).
    let flipped : eqb n o.number ≡ false = ne_eqb n o.number (λ e. eqb-false o.number n other (sym e)) in
    rw (other, flipped) (any_numbered test entries n parts.1))
    (cases_Bool (eqb o.number n))

any_none : (entries : List MemoryEntry) (f : MemoryEntry → Bool) → list_any (λ o. false && f o) entries ≡ false
any_none [] f = refl
any_none (o ∷ entries) f = any_none entries f

any_either : (a b f : MemoryEntry → Bool) (entries : List MemoryEntry)
    → list_any (λ o. (a o || b o) && f o) entries ≡ (list_any (λ o. a o && f o) entries
    || list_any (λ o. b o && f o) entries)
any_either a b f [] = refl
any_either a b f (o ∷ entries) = let rest =
    any_either a b f entries in rw rest (by_tests (a o) (b o) (f o) (list_any (λ x. a x && f x) entries)
    (list_any (λ x. b x && f x) entries))
  where
    by_tests : (p q r x y : Bool) → (((p || q) && r) || (x || y)) ≡ (((p && r) || x) || ((q && r) || y))
    by_tests true q true x y = refl
    by_tests true true false true y = refl
    by_tests true true false false y = refl
    by_tests true false false true y = refl
    by_tests true false false false y = refl
    by_tests false true true true y = refl
    by_tests false true true false y = refl
    by_tests false true false x y = refl
    by_tests false false r x y = refl

any_by_number : (test : MemoryEntry → Bool) (entries : List MemoryEntry) → are_rising entries ≡ true → (ns : List ℕ)
    → list_any (λ n. not (passes test (object_at entries n))) ns ≡ list_any (λ o. list_any (λ n. eqb n o.number) ns
    && not (test o)) entries
any_by_number test entries rising [] = sym (any_none entries (λ o. not (test o)))
any_by_number test entries rising (n ∷ ns) =
    let here = any_numbered test entries n rising in
    let rest = any_by_number test entries rising ns in
    sym (any_either (λ o. eqb n o.number) (λ o. list_any (λ m. eqb m o.number) ns) (λ o. not (test o)) entries
    ∙ rw (here, rest) refl)

-- ---- the pages that lack are those that aren't pinned

module _ (m : Memory) where
  its_lacking : (o : MemoryEntry) → object_at m.objects o.number ≡ Some o → is_kept o ≡ true
      → list_any (λ page. is_none (pinned_frame m page) && is_none (memory.frame_now m page))
      (pages_of (row_of o)) ≡ lacks m.pages o
  its_lacking o own kept = by_pins (eqb o.pages.pages.table_pins 0) (kept_frames o kept)
    where
      pinned_there : (i : ℕ) → frame_in (object_at m.objects o.number) i ≡ frame_of o.pages.pages i
      pinned_there i = ap (λ x. frame_in x i) own

      now_there : (i : ℕ) → memory.frame_now m (record { memory = o.number; index = i })
          ≡ frame_now o.pages.pages m.pages i
      now_there i = now_found m.objects m.pages o.number i ∙ ap (λ x. now_in m.pages x i) own

      both_none : (a b : Option FrameNo) → (is_none a && is_none b) ≡ not (is_some (or_else a b))
      both_none None b = is_no b
      both_none (Some f) b = refl

      by_pins : (b : Bool) → length o.pages.pages.frames ≡ cond b 0 o.pages.pages.count
          → list_any (λ page. is_none (pinned_frame m page) && is_none (memory.frame_now m page)) (pages_of (row_of o))
          ≡ not (not b || are_present o.pages.pages m.pages)
      by_pins true count =
          any_same (λ page. is_none (pinned_frame m page) && is_none (memory.frame_now m page))
          (λ i. not (is_some (own_frame_now o.pages.pages m.pages i))) o.number 0 o.pages.pages.count
          (λ i low high.
          let free : frame_in (object_at m.objects o.number) i ≡ access_frame o.pages.pages i =
          pinned_there i ∙ ap (or_else (access_frame o.pages.pages i))
          (slice_get_past o.pages.pages.frames i (omega (arith, count))) ∙ runs.or_none (access_frame o.pages.pages i)
          in
          ap (λ f. is_none f && is_none (memory.frame_now m (record { memory = o.number; index = i }))) free
          ∙ ap (λ f. is_none (access_frame o.pages.pages i) && is_none f) (now_there i)
          ∙ both_none (access_frame o.pages.pages i) (frame_now o.pages.pages m.pages i))
          ∙ not_all (λ i. is_some (own_frame_now o.pages.pages m.pages i)) (range_with_len 0 o.pages.pages.count)
      by_pins false count =
          any_same (λ page. is_none (pinned_frame m page) && is_none (memory.frame_now m page)) (λ i. false)
          o.number 0 o.pages.pages.count
          (λ i low high.
          let there = some_or (access_frame o.pages.pages i) (slice_get o.pages.pages.frames i)
          (some_within o.pages.pages.frames i (omega (arith, count, high))) in
          let held = ap is_none (pinned_there i) ∙ none_from_some (frame_of o.pages.pages i) there in
          none_of (is_none (frame_in (object_at m.objects o.number) i))
          (is_none (memory.frame_now m (record { memory = o.number; index = i }))) held)
          ∙ any_false (range_with_len 0 o.pages.pages.count)
        where
          none_of : (a b : Bool) → a ≡ false → (a && b) ≡ false
          none_of true b is = cc
          none_of false b is = refl

  each_lacking : (entries : List MemoryEntry) → AreOwn m.objects entries → list_all is_kept entries ≡ true
      → AllByRecursion (λ o. list_any (λ page. is_none (pinned_frame m page) && is_none (memory.frame_now m page))
      (pages_of (row_of o)) ≡ lacks m.pages o) entries
  each_lacking [] own kept = tt
  each_lacking (o ∷ entries) own kept =
      let parts = and_parts (is_kept o) (list_all is_kept entries) kept in
      (its_lacking o own.0 parts.0, each_lacking entries own.1 parts.1)

  -- an object of these numbers lacks a page where one of their pages that aren't pinned isn't there
  pub lacking_pages : (numbers : List ℕ) → ObjectsTell m.objects
      → list_any (lacks_page m) numbers ≡ list_any (λ page. is_none (memory.frame_now m page))
      (unpinned_pages (pinned_frame m) (rows_at m numbers))
  lacking_pages numbers told =
      any_by_number (can_pin m.pages) m.objects told.memory.rising numbers
      ∙ sym (any_filtered (λ page. is_none (memory.frame_now m page)) (λ page. is_none (pinned_frame m page))
      (flat_map pages_of (rows_at m numbers))
      ∙ any_of_rows (λ page. is_none (pinned_frame m page) && is_none (memory.frame_now m page))
      (λ row. list_any (λ n. eqb n row.number) numbers) (lacks m.pages) m.objects
      (each_lacking m.objects (own_numbers m.objects told.memory.rising) told.kept))
