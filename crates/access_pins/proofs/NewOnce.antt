-- How many pages several runs have that aren't pinned, where each counts once: for the last run that has it.
use Rattle.std.proofs.Common.{◌≡◌, ℕ, ◌+◌, ◌-◌, ◌^◌, ◌≤◌, ◌<◌, Bool, true, false, cond, ◌&&◌, ◌||◌, not, eqb, leb, ltb}
use Rattle.std.proofs.Common.{List, [], ◌∷◌, length, suc, refl, sym, ap, ◌∙◌, arith}
use Rattle.std.specs.List.{count_by, filter, list_all, range_with_len}
use Rattle.std.specs.Prelude.{is_none}
use Rattle.std.proofs.lemmas.Bool.{eqb-true}
use Rattle.std.proofs.lemmas.Bool.Decides.{nat_tests}
use Rattle.std.proofs.lemmas.List.{length-map}
use Rattle.std.proofs.lemmas.List.FromFn.{length-range_with_len}
use Rattle.std.proofs.lemmas.List.Sums.{count_by-le-length, length-filter}
use Rattle.access_pages.specs.Runs.{run_in, runs_in}
use Rattle.iofd_rows.proofs.Bools.{and_true, both_true}
use Rattle.iofd_rows.proofs.Each.{in_map, of_each}
use Rattle.iofd_rows.proofs.ListTests.{any_weaker}
use Rattle.iofd_rows.proofs.PageCounts.{count_none}
use Rattle.iofd_runs.proofs.Accessed.{some_in}
use Rattle.iofd_words.specs.Bounds.{Bounds}
use Rattle.iofd_words.specs.Pins.{ObjectPage, unpinned_pages}
use Rattle.iofd_words.specs.declared.rows.Area.{Area}
use Rattle.iofd_words.specs.declared.rows.MemoryObject.{MemoryObject}
use Rattle.memory_objects.specs.Objects.{are_rising, row_of}
use Rattle.memory_objects.specs.Runs.{covers}
use Rattle.memory_objects.specs.declared.run.PageRun.{PageRun}
use Rattle.user_memory.proofs.Found.{kept_count}
use Rattle.user_memory.proofs.RunPages.{lies_told, new_told}
use Rattle.user_memory.specs.Invariant.{ObjectsTell, is_kept}
use Rattle.user_memory.specs.Memory.{Memory, is_in_runs, new_in_runs, pinned_frame, rows_of, run_lies}
use Rattle.user_memory_rows.proofs.Counts.{count_alike, count_fewer, count_split, count_within}

-- ---- how many may be pinned

-- ---- runs of pages

-- so many of the run's pages, from its first on
abbrev pub first_pages : PageRun → ℕ → PageRun
first_pages run n = record { number = run.number; first = run.first; count = n }

-- a page as a run
abbrev pub page_run : ℕ → ℕ → PageRun
page_run number index = record { number = number; first = index; count = 1 }

-- the page is in none of the runs
abbrev pub is_in_none : List PageRun → ObjectPage → Bool
is_in_none runs page = not (is_in_runs runs page)

-- how many of the run's pages aren't pinned, and are in none of the others
abbrev pub new_beside : Memory → List PageRun → PageRun → ℕ
new_beside m others run = count_by (is_in_none others) (new_in_runs m (run ∷ []))

-- where a page passes a test just as any other does, all do or none does
count_alike_all : {X : Type 0} (p q : X → Bool) (b : Bool) (xs : List X) → ((x : X) → q x ≡ true → p x ≡ b)
    → count_by p (filter q xs) ≡ cond b (length (filter q xs)) 0
count_alike_all p q true xs same =
    count_within p q xs ∙ count_alike (λ x. q x && p x) q xs (λ x. both (q x) (p x) (same x)) ∙ sym (length-filter q xs)
  where
    both : (a b : Bool) → (a ≡ true → b ≡ true) → (a && b) ≡ a
    both true b is = is refl
    both false b is = refl
count_alike_all p q false xs same =
    count_within p q xs ∙ count_none (λ x. q x && p x) xs (λ x within. neither (q x) (p x) (same x))
  where
    neither : (a b : Bool) → (a ≡ true → b ≡ false) → (a && b) ≡ false
    neither true b is = is refl
    neither false b is = refl

module _ (m : Memory) where
  abbrev unpinned : List ObjectPage
  unpinned = unpinned_pages (pinned_frame m) (rows_of m)

  -- ---- run by run

  pub no_runs : length (new_in_runs m []) ≡ 0
  no_runs = by_pages unpinned
    where
      by_pages : (pages : List ObjectPage) → length (filter (is_in_runs []) pages) ≡ 0
      by_pages [] = refl
      by_pages (page ∷ pages) = by_pages pages

  -- one run more adds those of its pages that the others don't have
  pub run_more : (run : PageRun) (others : List PageRun)
      → length (new_in_runs m (run ∷ others)) ≡ new_beside m others run + length (new_in_runs m others)
  run_more run others =
      let all = length-filter (is_in_runs (run ∷ others)) unpinned in
      let rest = length-filter (is_in_runs others) unpinned in
      let own = count_within (is_in_none others) (is_in_runs (run ∷ [])) unpinned in
      let parts = count_split (is_in_runs (run ∷ others)) (is_in_runs others)
      (λ page. is_in_runs (run ∷ []) page && is_in_none others page) unpinned
      (λ page. either (covers run page.memory page.index) (is_in_runs others page))
      (λ page. apart (covers run page.memory page.index) (is_in_runs others page)) in
      omega (arith, all, rest, own, parts)
    where
      either : (own other : Bool) → (own || other) ≡ (other || ((own || false) && not other))
      either true true = refl
      either true false = refl
      either false true = refl
      either false false = refl

      apart : (own other : Bool) → (other && ((own || false) && not other)) ≡ false
      apart true true = refl
      apart true false = refl
      apart false true = refl
      apart false false = refl

  -- ---- page by page

  module _ (others : List PageRun) where
    beside_is : (run : PageRun) → new_beside m others run
        ≡ count_by (λ page. is_in_runs (run ∷ []) page && is_in_none others page) unpinned
    beside_is run = count_within (is_in_none others) (is_in_runs (run ∷ [])) unpinned

    pub none_first : (run : PageRun) → new_beside m others (first_pages run 0) ≡ 0
    none_first run =
        beside_is (first_pages run 0)
        ∙ count_none (λ page. is_in_runs (first_pages run 0 ∷ []) page && is_in_none others page) unpinned
        (λ page within. outside (eqb run.number page.memory) _ (is_in_none others page) (behind run.first page.index))
      where
        behind : (first i : ℕ) → (leb first i && ltb i (first + 0)) ≡ false
        behind first i = grind (arith, nat_tests)

        outside : (a b c : Bool) → b ≡ false → (((a && b) || false) && c) ≡ false
        outside true b c is = rw is refl
        outside false b c is = refl

    -- one page more
    pub page_more : (run : PageRun) (n : ℕ) → new_beside m others (first_pages run (n + 1))
        ≡ new_beside m others (first_pages run n) + new_beside m others (page_run run.number (run.first + n))
    page_more run n =
        let all = beside_is (first_pages run (n + 1)) in
        let before = beside_is (first_pages run n) in
        let one = beside_is (page_run run.number (run.first + n)) in
        let parts = count_split (λ page. is_in_runs (first_pages run (n + 1) ∷ []) page && is_in_none others page)
        (λ page. is_in_runs (first_pages run n ∷ []) page && is_in_none others page)
        (λ page. is_in_runs (page_run run.number (run.first + n) ∷ []) page && is_in_none others page) unpinned
        (λ page. either (eqb run.number page.memory) _ _ _ (is_in_none others page) (next run.first page.index))
        (λ page. apart (eqb run.number page.memory) _ _ (is_in_none others page) (once run.first page.index)) in
        omega (arith, all, before, one, parts)
      where
        next : (first i : ℕ) → (leb first i && ltb i (first + (n + 1)))
            ≡ ((leb first i && ltb i (first + n)) || (leb (first + n) i && ltb i (first + n + 1)))
        next first i = grind (arith, nat_tests)

        once : (first i : ℕ)
            → ((leb first i && ltb i (first + n)) && (leb (first + n) i && ltb i (first + n + 1))) ≡ false
        once first i = grind (arith, nat_tests)

        either : (own all before one new : Bool) → all ≡ (before || one) → (((own && all) || false) && new)
            ≡ ((((own && before) || false) && new) || (((own && one) || false) && new))
        either false all before one new is = refl
        either true all true one true is = rw is refl
        either true all true true false is = rw is refl
        either true all true false false is = rw is refl
        either true all false true new is = rw is refl
        either true all false false new is = rw is refl

        apart : (own before one new : Bool) → (before && one) ≡ false
            → ((((own && before) || false) && new) && (((own && one) || false) && new)) ≡ false
        apart false before one new is = refl
        apart true true true new is = cc
        apart true true false true is = refl
        apart true true false false is = refl
        apart true false one new is = refl

    -- so a count of them goes on
    pub page_next : (run : PageRun) (index count new : ℕ) → run.first ≤ index
        → count ≡ new_beside m others (first_pages run (index - run.first))
        → new ≡ new_beside m others (page_run run.number index)
        → count + new ≡ new_beside m others (first_pages run (index + 1 - run.first))
    page_next run index count new low before now =
        let place : run.first + (index - run.first) ≡ index = omega (arith, low) in
        let next : index + 1 - run.first ≡ index - run.first + 1 = omega (arith, low) in
        let here : new ≡ new_beside m others (page_run run.number (run.first + (index - run.first))) =
        now ∙ ap (λ (n : ℕ). new_beside m others (page_run run.number n)) (sym place) in
        let all : new_beside m others (first_pages run (index + 1 - run.first))
        ≡ new_beside m others (first_pages run (index - run.first + 1)) =
        ap (λ (n : ℕ). new_beside m others (first_pages run n)) next in
        let more = page_more run (index - run.first) in
        omega (arith, before, here, all, more)

    -- the page counts unless the others have it
    page_beside : (number index : ℕ) → new_beside m others (page_run number index)
        ≡ cond (is_in_none others (record { memory = number; index = index }))
        (length (new_in_runs m (page_run number index ∷ []))) 0
    page_beside number index =
        count_alike_all (is_in_none others) (is_in_runs (page_run number index ∷ []))
        (is_in_none others (record { memory = number; index = index })) unpinned
        (λ page has. named page.memory page.index (only _ has))
      where
        only : (b : Bool) → (b || false) ≡ true → b ≡ true
        only true is = refl
        only false is = is

        named : (memory i : ℕ) → (eqb number memory && (leb index i && ltb i (index + 1))) ≡ true
            → is_in_none others (record { memory = memory; index = i })
            ≡ is_in_none others (record { memory = number; index = index })
        named memory i has =
            let parts = and_true (eqb number memory) (leb index i && ltb i (index + 1)) has in
            let object : number ≡ memory = eqb-true number memory parts.0 in
            let here : index ≡ i = same i parts.1 in
            rw (object, here) refl
          where
            same : (i : ℕ) → (leb index i && ltb i (index + 1)) ≡ true → index ≡ i
            same i is =
                let ends = and_true (leb index i) (ltb i (index + 1)) is in
                let low : index ≤ i = let b = ends.0 in search (b, arith, nat_tests) in
                let high : i < index + 1 = let b = ends.1 in search (b, arith, nat_tests) in
                omega (arith, low, high)

    -- so does a run that has one page
    pub one_beside : (run : PageRun) → run.count ≡ 1 → (other : Bool)
        → is_in_runs others (record { memory = run.number; index = run.first }) ≡ other
        → new_beside m others run ≡ cond other 0 (length (new_in_runs m (run ∷ [])))
    one_beside run one other is =
        let page : run ≡ page_run run.number run.first = ap (first_pages run) one in
        ap (new_beside m others) page ∙ page_beside run.number run.first
        ∙ ap (λ (b : Bool). cond (not b) (length (new_in_runs m (page_run run.number run.first ∷ []))) 0) is
        ∙ turned other
        ∙ ap (λ (r : PageRun). cond other 0 (length (new_in_runs m (r ∷ [])))) (sym page)
      where
        turned : (b : Bool) → cond (not b) (length (new_in_runs m (page_run run.number run.first ∷ []))) 0
            ≡ cond b 0 (length (new_in_runs m (page_run run.number run.first ∷ [])))
        turned true = refl
        turned false = refl

    -- the first of them are no more than all
    pub few_beside : (run : PageRun) (n : ℕ) → n ≤ run.count
        → new_beside m others (first_pages run n) ≤ length (new_in_runs m (run ∷ []))
    few_beside run n few =
        let some = beside_is (first_pages run n) in
        let all = length-filter (is_in_runs (run ∷ [])) unpinned in
        let less = count_fewer (λ page. is_in_runs (first_pages run n ∷ []) page && is_in_none others page)
        (is_in_runs (run ∷ [])) unpinned
        (λ page is. within (eqb run.number page.memory) _ _ (is_in_none others page)
        (longer run.first page.index) is) in
        omega (arith, some, all, less)
      where
        longer : (first i : ℕ) → (leb first i && ltb i (first + n)) ≡ true
            → (leb first i && ltb i (first + run.count)) ≡ true
        longer first i is =
            let ends = and_true (leb first i) (ltb i (first + n)) is in
            let high : i < first + n = let b = ends.1 in search (b, arith, nat_tests) in
            let below : i < first + run.count = omega (arith, high, few) in
            both_true _ _ ends.0 (search (below, arith, nat_tests))

        within : (own some all new : Bool) → (some ≡ true → all ≡ true) → (((own && some) || false) && new) ≡ true
            → ((own && all) || false) ≡ true
        within true true all new more is = rw (more refl) refl
        within true false all new more is = cc
        within false some all new more is = cc

  -- ---- where a run lies

  -- each of its pages is one of the object's
  pub page_lies : (run : PageRun) (index : ℕ) → run_lies m run ≡ true → index < run.first + run.count
      → run_lies m (page_run run.number index) ≡ true
  page_lies run index lies below =
      any_weaker (λ (row : MemoryObject). eqb row.number run.number && leb (run.first + run.count) row.count)
      (λ (row : MemoryObject). eqb row.number run.number && leb (index + 1) row.count) (rows_of m)
      (λ row is.
      let parts = and_true (eqb row.number run.number) (leb (run.first + run.count) row.count) is in
      both_true _ _ parts.0 (shorter row.count parts.1)) lies
    where
      shorter : (count : ℕ) → leb (run.first + run.count) count ≡ true → leb (index + 1) count ≡ true
      shorter count is =
          let all : run.first + run.count ≤ count = search (is, arith, nat_tests) in
          let one : index + 1 ≤ count = omega (arith, all, below) in
          search (one, arith, nat_tests)

  -- an object has few pages
  pub run_few : (run : PageRun) → run_lies m run ≡ true → ObjectsTell m.objects → run.first + run.count ≤ 2 ^ 36
  run_few run lies told =
      let (row, among, both) = some_in (λ (row : MemoryObject). eqb row.number run.number
      && leb (run.first + run.count) row.count) (rows_of m) lies in
      let (object, within, is) = in_map row_of m.objects row among in
      let few = kept_count object (of_each is_kept m.objects object told.kept within) in
      let count : object.pages.pages.count ≡ row.count = ap (λ (row : MemoryObject). row.count) is in
      let high : run.first + run.count ≤ row.count =
      let b = (and_true (eqb row.number run.number) (leb (run.first + run.count) row.count) both).1 in
      search (b, arith, nat_tests) in
      omega (arith, few, count, high)

  -- a run has no more pages than it says
  pub run_most : (run : PageRun) → run_lies m run ≡ true → are_rising m.objects ≡ true
      → length (new_in_runs m (run ∷ [])) ≤ run.count
  run_most run lies rising =
      let page : ℕ → ObjectPage = λ i. record { memory = run.number; index = i } in
      let own = λ (i : ℕ). is_none (pinned_frame m (page i)) in
      let all = range_with_len run.first run.count in
      let is = ap length (new_told m run rising (sym (lies_told run m.objects rising) ∙ lies))
      ∙ length-map (filter own all) page
      ∙ length-filter own all in
      let most = count_by-le-length own all in
      let long = length-range_with_len run.first run.count in
      omega (arith, is, most, long)

  -- what the first of some areas has in the span lies in its object, where all do
  pub first_lies : (span : Bounds) (all rest : List Area) (area : Area) → all ≡ area ∷ rest
      → list_all (run_lies m) (runs_in span all) ≡ true → (run : PageRun) → run ≡ run_in span area
      → run_lies m run ≡ true
  first_lies span all rest area steps lies run same =
      ap (run_lies m) same
      ∙ (and_true (run_lies m (run_in span area)) (list_all (run_lies m) (runs_in span rest))
      (ap (λ (l : List Area). list_all (run_lies m) (runs_in span l)) (sym steps) ∙ lies)).0

  -- ---- area by area

  -- one area after the other
  pub area_more : (span : Bounds) (all rest : List Area) (area : Area) → all ≡ area ∷ rest → (run : PageRun)
      → run ≡ run_in span area → length (new_in_runs m (runs_in span all))
      ≡ new_beside m (runs_in span rest) run + length (new_in_runs m (runs_in span rest))
  area_more span all rest area steps run same =
      ap (λ (l : List Area). length (new_in_runs m (runs_in span l))) steps
      ∙ run_more (run_in span area) (runs_in span rest)
      ∙ ap (λ (r : PageRun). new_beside m (runs_in span rest) r + length (new_in_runs m (runs_in span rest))) (sym same)

  pub area_most : (span : Bounds) (all rest : List Area) (area : Area) → all ≡ area ∷ rest → (run : PageRun)
      → run ≡ run_in span area → length (new_in_runs m (runs_in span all))
      ≤ length (new_in_runs m (run ∷ [])) + length (new_in_runs m (runs_in span rest))
  area_most span all rest area steps run same =
      let more = area_more span all rest area steps run same in
      let most = count_by-le-length (is_in_none (runs_in span rest)) (new_in_runs m (run ∷ [])) in
      omega (arith, more, most)

-- a step of an iterator leaves less
pub shorter : (all rest : List Area) (area : Area) → all ≡ area ∷ rest → length rest < length all
shorter all rest area is =
    let longer : length (area ∷ rest) ≡ suc (length rest) = refl in
    let same = ap (λ (l : List Area). length l) is in
    omega (arith, longer, same)
