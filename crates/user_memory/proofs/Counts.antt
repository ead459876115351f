-- How many pages of memory objects are pinned, and how many aren't.
use Rattle.std.proofs.Common.{◌≡◌, ℕ, ◌+◌, Bool, true, false, cond, eqb, Option, Some, None, List}
use Rattle.std.proofs.Common.{[], ◌∷◌, length, refl, sym, ap, ◌∙◌, arith}
use Rattle.std.specs.Prelude.{is_some, is_none}
use Rattle.std.specs.List.{count_by, filter, flat_map, list_all, list_any, range_with_len, slice_get, sum_by}
use Rattle.std.specs.List.{AllByRecursion}
use Rattle.std.proofs.lemmas.Bool.{and_parts}
use Rattle.std.proofs.lemmas.List.Concat.{flat_map-cons}
use Rattle.std.proofs.lemmas.List.Sums.{length-filter, sum_by-append, sum_by-cons}
use Rattle.std.proofs.lemmas.Option.{slice_get_past}
use Rattle.iofd_words.specs.Pins.{ObjectPage, pages_from, pages_of}
use Rattle.iofd_words.specs.declared.numbers.FrameNo.{FrameNo}
use Rattle.iofd_words.specs.declared.numbers.UserNo.{UserNo}
use Rattle.iofd_words.specs.declared.rows.MemoryObject.{MemoryObject}
use Rattle.memory_objects.specs.Objects.{MemoryEntry, frame_in, object_at, pinned_by, row_of, rows_of}
use Rattle.memory_objects.specs.Objects as objects
use Rattle.memory_objects.proofs.OneObject.{sum_by-map}
use Rattle.pinned_pages.specs.Pages.{access_frame, count_of_others, frame_of, new_count, or_else, pinned_count}
use Rattle.pinned_pages.proofs.AccessRows.{none_counted}
use Rattle.pinned_pages.proofs.Runs.{length_mapped, or_none, same_counted, some_or, some_within}
use Rattle.user_memory.specs.Invariant.{ObjectsTell, is_kept}
use Rattle.user_memory.specs.Memory.{Memory, held_by, newly_pinned, pinned_frame}
use Rattle.user_memory.proofs.Found.{AreOwn, kept_frames, own_numbers}

-- ---- a frame

pub none_from_some : (f : Option FrameNo) → is_some f ≡ true → is_none f ≡ false
none_from_some (Some f) some = refl
none_from_some None some = cc

-- ---- the pages of one object

module _ (all : List MemoryEntry) (o : MemoryEntry) (own : object_at all o.number ≡ Some o) (kept : is_kept o ≡ true)
  where
    frame_at : (i : ℕ) → frame_in (object_at all o.number) i ≡ frame_of o.pages.pages i
    frame_at i = ap (λ x. frame_in x i) own

    of_pages : (q : Option FrameNo → Bool)
        → count_by (λ (page : ObjectPage). q (frame_in (object_at all page.memory) page.index))
        (pages_from o.number o.pages.pages.count)
        ≡ count_by (λ i. q (frame_of o.pages.pages i)) (range_with_len 0 o.pages.pages.count)
    of_pages q =
        sum_by-map (λ (page : ObjectPage). cond (q (frame_in (object_at all page.memory) page.index)) 1 0)
        (λ i. record { memory = o.number; index = i }) (range_with_len 0 o.pages.pages.count)
        ∙ same_counted (λ i. q (frame_in (object_at all o.number) i)) (λ i. q (frame_of o.pages.pages i)) 0
        o.pages.pages.count (λ i low high. ap q (frame_at i))

    its_pinned : count_by (λ (page : ObjectPage). is_some (frame_in (object_at all page.memory) page.index))
        (pages_from o.number o.pages.pages.count) ≡ pinned_count o.pages.pages
    its_pinned = of_pages is_some
        ∙ sym (length_mapped (frame_of o.pages.pages) (range_with_len 0 o.pages.pages.count))

    its_new : count_by (λ (page : ObjectPage). is_none (frame_in (object_at all page.memory) page.index))
        (pages_from o.number o.pages.pages.count) ≡ new_count o.pages.pages
    its_new = of_pages is_none ∙ by_pins (eqb o.pages.pages.table_pins 0) refl (kept_frames o kept)
      where
        by_pins : (b : Bool) → eqb o.pages.pages.table_pins 0 ≡ b
            → length o.pages.pages.frames ≡ cond b 0 o.pages.pages.count
            → count_by (λ i. is_none (frame_of o.pages.pages i)) (range_with_len 0 o.pages.pages.count)
            ≡ cond b (count_of_others o.pages.pages) 0
        by_pins true is count =
            same_counted (λ i. is_none (frame_of o.pages.pages i)) (λ i. is_none (access_frame o.pages.pages i)) 0
            o.pages.pages.count
            (λ i low high. ap is_none (ap (or_else (access_frame o.pages.pages i))
            (slice_get_past o.pages.pages.frames i (omega (arith, count))) ∙ or_none (access_frame o.pages.pages i)))
        by_pins false is count =
            same_counted (λ i. is_none (frame_of o.pages.pages i)) (λ i. false) 0 o.pages.pages.count
            (λ i low high. none_from_some (frame_of o.pages.pages i) (some_or (access_frame o.pages.pages i)
            (slice_get o.pages.pages.frames i) (some_within o.pages.pages.frames i (omega (arith, count, high)))))
            ∙ none_counted 0 o.pages.pages.count

-- ---- the pages of all objects whose rows pass a test

counted_sum : (q : ObjectPage → Bool) (t : MemoryObject → Bool) (f : MemoryEntry → ℕ) (objects : List MemoryEntry)
    → AllByRecursion (λ o. count_by q (pages_of (row_of o)) ≡ f o) objects
    → count_by q (flat_map pages_of (filter t (rows_of objects))) ≡ sum_by (λ o. cond (t (row_of o)) (f o) 0) objects
counted_sum q t f [] each = refl
counted_sum q t f (o ∷ objects) each =
    let rest = counted_sum q t f objects each.1 in
    let sum = sum_by-cons (λ (x : MemoryEntry). cond (t (row_of x)) (f x) 0) o objects in
    by_test (t (row_of o)) each.0 rest ∙ sym sum
  where
    by_test : (b : Bool) → count_by q (pages_of (row_of o)) ≡ f o
        → count_by q (flat_map pages_of (filter t (rows_of objects))) ≡ sum_by
        (λ x. cond (t (row_of x)) (f x) 0) objects
        → count_by q (flat_map pages_of (cond b (row_of o ∷ filter t (rows_of objects)) (filter t (rows_of objects))))
        ≡ cond b (f o) 0 + sum_by (λ x. cond (t (row_of x)) (f x) 0) objects
    by_test true here rest =
        ap (count_by q) (flat_map-cons pages_of (row_of o) (filter t (rows_of objects)))
        ∙ sum_by-append (λ (p : ObjectPage). cond (q p) 1 0) (pages_of (row_of o))
        (flat_map pages_of (filter t (rows_of objects)))
        ∙ rw (here, rest) refl
    by_test false here rest = rest ∙ omega arith

module _ (all : List MemoryEntry) where
  each_pinned : (objects : List MemoryEntry) → AreOwn all objects → list_all is_kept objects ≡ true
      → AllByRecursion (λ o. count_by (λ (page : ObjectPage). is_some (frame_in (object_at all page.memory) page.index))
      (pages_of (row_of o)) ≡ pinned_count o.pages.pages) objects
  each_pinned [] own kept = tt
  each_pinned (o ∷ objects) own kept =
      let parts = and_parts (is_kept o) (list_all is_kept objects) kept in
      (its_pinned all o own.0 parts.0, each_pinned objects own.1 parts.1)

  each_new : (objects : List MemoryEntry) → AreOwn all objects → list_all is_kept objects ≡ true
      → AllByRecursion (λ o. count_by (λ (page : ObjectPage). is_none (frame_in (object_at all page.memory) page.index))
      (pages_of (row_of o)) ≡ new_count o.pages.pages) objects
  each_new [] own kept = tt
  each_new (o ∷ objects) own kept =
      let parts = and_parts (is_kept o) (list_all is_kept objects) kept in
      (its_new all o own.0 parts.0, each_new objects own.1 parts.1)

-- ---- what is said of the users' memory

-- the user holds the pages that are pinned of the user's objects
pub held_told : (m : Memory) (user : UserNo) → ObjectsTell m.objects → held_by m user ≡ pinned_by m.objects user.0
held_told m user told =
    counted_sum (λ page. is_some (pinned_frame m page)) (λ row. eqb row.user.0 user.0)
    (λ o. pinned_count o.pages.pages) m.objects
    (each_pinned m.objects m.objects (own_numbers m.objects told.memory.rising) told.kept)

-- what pinning objects pins anew are the pages of those that aren't pinned
pub newly_told : (m : Memory) (numbers : List ℕ) → ObjectsTell m.objects
    → newly_pinned m numbers ≡ objects.new_pages m.objects numbers
newly_told m numbers told =
    length-filter (λ page. is_none (pinned_frame m page))
    (flat_map pages_of (filter (λ (row : MemoryObject). list_any (λ n. eqb n row.number) numbers)
    (rows_of m.objects)))
    ∙ counted_sum (λ page. is_none (pinned_frame m page)) (λ row. list_any (λ n. eqb n row.number) numbers)
    (λ o. new_count o.pages.pages) m.objects
    (each_new m.objects m.objects (own_numbers m.objects told.memory.rising) told.kept)
