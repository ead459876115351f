-- The pages of a run that aren't pinned: which, how many, and whether each of them is in its user's memory.
use Rattle.std.proofs.Common.{◌≡◌, ℕ, zero, suc, ◌+◌, ◌-◌, ◌<◌, ◌≤◌, Bool, true, false, ◌&&◌, ◌||◌, cond, eqb, leb, not}
use Rattle.std.proofs.Common.{Option, Some, None, List, [], ◌∷◌, ◌++◌, map, length, refl, sym, ap, ◌∙◌, arith, ⊎_elim}
use Rattle.std.specs.Prelude.{is_none, is_some}
use Rattle.std.specs.List.{count_by, filter, flat_map, list_all, list_any, range_with_len}
use Rattle.std.proofs.lemmas.Bool.{cases_Bool, eqb-true, eqb-false, eq-eqb, leb-true, ne_eqb}
use Rattle.std.proofs.lemmas.List.{append-nil, length-map}
use Rattle.std.proofs.lemmas.List.Concat.{flat_map-cons}
use Rattle.std.proofs.lemmas.List.Elements.{filter-append}
use Rattle.std.proofs.lemmas.List.Sums.{length-filter}
use Rattle.iofd_words.specs.Pins.{ObjectPage, pages_of}
use Rattle.iofd_words.specs.declared.numbers.FrameNo.{FrameNo}
use Rattle.iofd_words.specs.declared.rows.MemoryObject.{MemoryObject}
use Rattle.memory_objects.specs.Objects.{MemoryEntry, are_rising, frame_in, object_at, passes, row_of, rows_of}
use Rattle.memory_objects.specs.Runs.{covers, lies_within, run_count_in, run_is_there}
use Rattle.memory_objects.specs.declared.run.PageRun.{PageRun}
use Rattle.memory_objects.proofs.Numbered.{none_after, rising_parts}
use Rattle.pinned_pages.specs.Access.{is_in}
use Rattle.pinned_pages.specs.Pages.{or_else}
use Rattle.pinned_pages.proofs.Runs.{above_run, below_run, in_run, range_split}
use Rattle.user_memory.specs.Memory as memory
use Rattle.user_memory.specs.Memory.{Memory, is_in_runs, new_in_runs, pinned_frame}
use Rattle.user_memory.proofs.Found.{now_found, now_in, or_none}

-- ---- the object in which the run lies

pub lies_told : (run : PageRun) (objects : List MemoryEntry) → are_rising objects ≡ true
    → list_any (λ (row : MemoryObject). eqb row.number run.number && leb (run.first + run.count) row.count)
    (rows_of objects) ≡ lies_within run (object_at objects run.number)
lies_told run [] rising = refl
lies_told run (o ∷ objects) rising =
    let parts = rising_parts o objects rising in
    let rest = lies_told run objects parts.1 in
    ⊎_elim
    (λ (here : eqb o.number run.number ≡ true).
    let same = eqb-true o.number run.number here in
    let none = rest ∙ ap (lies_within run) (none_after run.number o objects parts.0 (omega (arith, same))) in
    rw (here, none) (or_none (leb (run.first + run.count) o.pages.pages.count)))
    (λ (other : eqb o.number run.number ≡ false). rw other rest)
    (cases_Bool (eqb o.number run.number))

pub covered : (run : PageRun) (i : ℕ) → is_in run.first run.count i ≡ true → covers run run.number i ≡ true
covered run i within = let here : eqb run.number run.number ≡ true = eq-eqb run.number run.number refl in rw here within

-- ---- frames and filters

both_none : (a b : Option FrameNo) → (is_none a && is_none b) ≡ not (is_some (or_else a b))
both_none None None = refl
both_none None (Some f) = refl
both_none (Some f) b = refl

filter_twice : (t p : ObjectPage → Bool) (pages : List ObjectPage)
    → filter t (filter p pages) ≡ filter (λ page. t page && p page) pages
filter_twice t p [] = refl
filter_twice t p (page ∷ pages) = by_tests (p page) (t page) refl (filter_twice t p pages)
  where
    by_tests : (a b : Bool) → t page ≡ b → filter t (filter p pages) ≡ filter (λ x. t x && p x) pages
        → filter t (cond a (page ∷ filter p pages) (filter p pages))
        ≡ cond (b && a) (page ∷ filter (λ x. t x && p x) pages) (filter (λ x. t x && p x) pages)
    by_tests true true is rest = rw is (ap (λ xs. page ∷ xs) rest)
    by_tests true false is rest = rw is rest
    by_tests false true is rest = rest
    by_tests false false is rest = rest

filter_mapped : (q : ObjectPage → Bool) (f : ℕ → ObjectPage) (is : List ℕ)
    → filter q (map f is) ≡ map f (filter (λ i. q (f i)) is)
filter_mapped q f [] = refl
filter_mapped q f (i ∷ is) = by_test (q (f i)) (filter_mapped q f is)
  where
    by_test : (b : Bool) → filter q (map f is) ≡ map f (filter (λ k. q (f k)) is)
        → cond b (f i ∷ filter q (map f is)) (filter q (map f is))
        ≡ map f (cond b (i ∷ filter (λ k. q (f k)) is) (filter (λ k. q (f k)) is))
    by_test true rest = ap (λ pages. f i ∷ pages) rest
    by_test false rest = rest

same_filtered : (p q : ℕ → Bool) (from n : ℕ) → ((i : ℕ) → from ≤ i → i < from + n → p i ≡ q i)
    → filter p (range_with_len from n) ≡ filter q (range_with_len from n)
same_filtered p q from zero each = refl
same_filtered p q from (suc n) each =
    let rest = same_filtered p q (from + 1) n (λ i low high. each i (omega (arith, low)) (omega (arith, high))) in
    let here = each from (omega arith) (omega arith) in
    rw (here, rest) refl

none_filtered : (p : ℕ → Bool) (from n : ℕ) → ((i : ℕ) → from ≤ i → i < from + n → p i ≡ false)
    → filter p (range_with_len from n) ≡ []
none_filtered p from zero each = refl
none_filtered p from (suc n) each =
    let rest = none_filtered p (from + 1) n (λ i low high. each i (omega (arith, low)) (omega (arith, high))) in
    let here = each from (omega arith) (omega arith) in
    rw here rest

-- those of a run among all
run_filtered : (p : ℕ → Bool) (first count n : ℕ) → first + count ≤ n
    → filter (λ i. (is_in first count i || false) && p i) (range_with_len 0 n) ≡ filter p (range_with_len first count)
run_filtered p first count n fits =
    let r = λ (i : ℕ). (is_in first count i || false) && p i in
    let split : n ≡ first + (count + (n - first - count)) = omega (arith, fits) in
    let same : 0 + first ≡ first = omega arith in
    let low = none_filtered r 0 first (λ i l high. rw (below_run first count i (omega (arith, high))) refl) in
    let here = same_filtered r p first count (λ i l high. rw (in_run first count i l high) refl) in
    let up = none_filtered r (first + count) (n - first - count) (λ i l high. rw (above_run first count i l) refl) in
    ap (λ m. filter r (range_with_len 0 m)) split
    ∙ ap (filter r) (range_split 0 first (count + (n - first - count)))
    ∙ filter-append r (range_with_len 0 first) (range_with_len (0 + first) (count + (n - first - count)))
    ∙ ap (λ xs. xs ++ filter r (range_with_len (0 + first) (count + (n - first - count)))) low
    ∙ ap (λ k. filter r (range_with_len k (count + (n - first - count)))) same
    ∙ ap (filter r) (range_split first count (n - first - count))
    ∙ filter-append r (range_with_len first count) (range_with_len (first + count) (n - first - count))
    ∙ ap (λ xs. filter r (range_with_len first count) ++ xs) up
    ∙ append-nil (filter r (range_with_len first count))
    ∙ here

-- ---- the run's pages among those of all objects

module _ (run : PageRun) (q : ObjectPage → Bool) where
  abbrev page_at : ℕ → ObjectPage
  page_at i = record { memory = run.number; index = i }

  abbrev chosen : ObjectPage → Bool
  chosen page = is_in_runs (run ∷ []) page && q page

  abbrev pages_in : Option MemoryEntry → List ObjectPage
  pages_in None = []
  pages_in (Some o) = map page_at (filter (λ i. q (page_at i)) (range_with_len run.first run.count))

  own_pages : (o : MemoryEntry) → o.number ≡ run.number → run.first + run.count ≤ o.pages.pages.count
      → filter chosen (pages_of (row_of o)) ≡ map page_at (filter (λ i. q (page_at i))
      (range_with_len run.first run.count))
  own_pages o same fits =
      let here : eqb run.number run.number ≡ true = eq-eqb run.number run.number refl in
      ap (λ k. filter chosen (map (λ i. record { memory = k; index = i }) (range_with_len 0 o.pages.pages.count))) same
      ∙ filter_mapped chosen page_at (range_with_len 0 o.pages.pages.count)
      ∙ ap (map page_at) (rw here (run_filtered (λ i. q (page_at i)) run.first run.count o.pages.pages.count fits))

  other_pages : (o : MemoryEntry) → eqb run.number o.number ≡ false → filter chosen (pages_of (row_of o)) ≡ []
  other_pages o other =
      filter_mapped chosen (λ i. record { memory = o.number; index = i }) (range_with_len 0 o.pages.pages.count)
      ∙ ap (map (λ i. record { memory = o.number; index = i }))
      (none_filtered (λ i. chosen (record { memory = o.number; index = i })) 0 o.pages.pages.count
      (λ i low high. rw other refl))

  all_pages : (objects : List MemoryEntry) → are_rising objects ≡ true
      → passes (λ o. leb (run.first + run.count) o.pages.pages.count) (object_at objects run.number) ≡ true
      → filter chosen (flat_map pages_of (rows_of objects)) ≡ pages_in (object_at objects run.number)
  all_pages [] rising fits = refl
  all_pages (o ∷ objects) rising fits =
      let parts = rising_parts o objects rising in
      let split = ap (filter chosen) (flat_map-cons pages_of (row_of o) (rows_of objects))
      ∙ filter-append chosen (pages_of (row_of o)) (flat_map pages_of (rows_of objects)) in
      ⊎_elim
      (λ (here : eqb o.number run.number ≡ true).
      let same = eqb-true o.number run.number here in
      let none = none_after run.number o objects parts.0 (omega (arith, same)) in
      let low : leb (run.first + run.count) o.pages.pages.count ≡ true = rw here at fits in
      let own = own_pages o same (leb-true (run.first + run.count) o.pages.pages.count low) in
      let rest = all_pages objects parts.1 (ap (passes (λ x. leb (run.first + run.count) x.pages.pages.count)) none)
      ∙ ap pages_in none in
      split ∙ rw (here, rest) (append-nil (filter chosen (pages_of (row_of o))) ∙ own))
      (λ (other : eqb o.number run.number ≡ false).
      let flipped : eqb run.number o.number ≡ false = ne_eqb run.number o.number
      (λ e. eqb-false o.number run.number other (sym e)) in
      let rest = all_pages objects parts.1 (rw other at fits) in
      split ∙ rw other (ap (λ xs. xs ++ filter chosen (flat_map pages_of (rows_of objects))) (other_pages o flipped)
      ∙ rest))
      (cases_Bool (eqb o.number run.number))

-- ---- what is said of the users' memory

module _ (m : Memory) (run : PageRun) (rising : are_rising m.objects ≡ true)
    (lies : lies_within run (object_at m.objects run.number) ≡ true) where
  abbrev page : ℕ → ObjectPage
  page i = record { memory = run.number; index = i }

  -- they are the run's pages at which nothing is pinned, in order
  pub new_told : new_in_runs m (run ∷ [])
      ≡ map page (filter (λ i. is_none (pinned_frame m (page i))) (range_with_len run.first run.count))
  new_told =
      filter_twice (is_in_runs (run ∷ [])) (λ p. is_none (pinned_frame m p)) (flat_map pages_of (rows_of m.objects))
      ∙ all_pages run (λ p. is_none (pinned_frame m p)) m.objects rising (fits (object_at m.objects run.number) lies)
      ∙ by_object (object_at m.objects run.number) lies
    where
      fits : (a : Option MemoryEntry) → lies_within run a ≡ true
          → passes (λ o. leb (run.first + run.count) o.pages.pages.count) a ≡ true
      fits None within = refl
      fits (Some o) within = within

      by_object : (a : Option MemoryEntry) → lies_within run a ≡ true
          → pages_in run (λ p. is_none (pinned_frame m p)) a
          ≡ map page (filter (λ i. is_none (pinned_frame m (page i))) (range_with_len run.first run.count))
      by_object None within = cc
      by_object (Some o) within = refl

  pub run_count_told : run_count_in run (object_at m.objects run.number) ≡ length (new_in_runs m (run ∷ []))
  run_count_told =
      by_object (object_at m.objects run.number) lies
      ∙ sym (ap length new_told
      ∙ length-map (filter (λ i. is_none (pinned_frame m (page i))) (range_with_len run.first run.count)) page
      ∙ length-filter (λ i. is_none (pinned_frame m (page i))) (range_with_len run.first run.count))
    where
      by_object : (a : Option MemoryEntry) → lies_within run a ≡ true
          → run_count_in run a ≡ count_by (λ i. is_none (frame_in a i)) (range_with_len run.first run.count)
      by_object None within = cc
      by_object (Some o) within = refl

  -- a page of the run lacks where one of these isn't there
  pub lacking_told : list_any (λ p. is_none (memory.frame_now m p)) (new_in_runs m (run ∷ []))
      ≡ not (passes (run_is_there m.pages run) (object_at m.objects run.number))
  lacking_told =
      ap (list_any (λ p. is_none (memory.frame_now m p))) new_told
      ∙ any_mapped (range_with_len run.first run.count)
      ∙ not_there (range_with_len run.first run.count)
      ∙ by_object (object_at m.objects run.number) lies
    where
      any_mapped : (is : List ℕ) → list_any (λ p. is_none (memory.frame_now m p))
          (map page (filter (λ i. is_none (pinned_frame m (page i))) is))
          ≡ list_any (λ i. is_none (pinned_frame m (page i)) && is_none (memory.frame_now m (page i))) is
      any_mapped [] = refl
      any_mapped (i ∷ is) = by_test (is_none (pinned_frame m (page i))) (any_mapped is)
        where
          by_test : (b : Bool) → list_any (λ p. is_none (memory.frame_now m p))
              (map page (filter (λ k. is_none (pinned_frame m (page k))) is))
              ≡ list_any (λ k. is_none (pinned_frame m (page k)) && is_none (memory.frame_now m (page k))) is
              → list_any (λ p. is_none (memory.frame_now m p))
              (map page (cond b (i ∷ filter (λ k. is_none (pinned_frame m (page k))) is)
              (filter (λ k. is_none (pinned_frame m (page k))) is)))
              ≡ ((b && is_none (memory.frame_now m (page i)))
              || list_any (λ k. is_none (pinned_frame m (page k)) && is_none (memory.frame_now m (page k))) is)
          by_test true rest = ap (λ b. is_none (memory.frame_now m (page i)) || b) rest
          by_test false rest = rest

      not_there : (is : List ℕ)
          → list_any (λ i. is_none (pinned_frame m (page i)) && is_none (memory.frame_now m (page i))) is
          ≡ not (list_all (λ i. is_some (or_else (frame_in (object_at m.objects run.number) i)
          (now_in m.pages (object_at m.objects run.number) i))) is)
      not_there [] = refl
      not_there (i ∷ is) =
          let now = now_found m.objects m.pages run.number i in
          let here = both_none (pinned_frame m (page i)) (memory.frame_now m (page i))
          ∙ ap (λ f. not (is_some (or_else (pinned_frame m (page i)) f))) now in
          by_tests (is_some (or_else (frame_in (object_at m.objects run.number) i)
          (now_in m.pages (object_at m.objects run.number) i))) here (not_there is)
        where
          by_tests : (b : Bool) → (is_none (pinned_frame m (page i)) && is_none (memory.frame_now m (page i))) ≡ not b
              → list_any (λ k. is_none (pinned_frame m (page k)) && is_none (memory.frame_now m (page k))) is
              ≡ not (list_all (λ k. is_some (or_else (frame_in (object_at m.objects run.number) k)
              (now_in m.pages (object_at m.objects run.number) k))) is)
              → ((is_none (pinned_frame m (page i)) && is_none (memory.frame_now m (page i)))
              || list_any (λ k. is_none (pinned_frame m (page k)) && is_none (memory.frame_now m (page k))) is)
              ≡ not (b && list_all (λ k. is_some (or_else (frame_in (object_at m.objects run.number) k)
              (now_in m.pages (object_at m.objects run.number) k))) is)
          by_tests true here rest = rw here rest
          by_tests false here rest = rw here refl

      by_object : (a : Option MemoryEntry) → lies_within run a ≡ true
          → not (list_all (λ i. is_some (or_else (frame_in a i) (now_in m.pages a i)))
          (range_with_len run.first run.count)) ≡ not (passes (run_is_there m.pages run) a)
      by_object None within = cc
      by_object (Some o) within = refl
