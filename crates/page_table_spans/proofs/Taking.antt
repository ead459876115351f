-- What spans still need, once a page of them is mapped.
use Rattle.std.proofs.Common.{◌≡◌, ◌≢◌, ℕ, zero, suc, ◌+◌, ◌-◌, ◌*◌, ◌^◌, ◌<◌, ◌≤◌, Bool, true, false, not, cond, eqb}
use Rattle.std.proofs.Common.{ltb, leb, ◌&&◌, ◌||◌, Option, Some, None, List, [], ◌∷◌, ◌++◌, length, min, set, refl}
use Rattle.std.proofs.Common.{sym, ◌∙◌, ap, arith, ⊎_elim}
use Rattle.std.specs.Prelude.{is_none}
use Rattle.std.specs.List.{count_by, list_any, range_with_len, sum_by}
use Rattle.std.specs.Option.{option_or}
use Rattle.std.proofs.lemmas.Bool.{and_from, and_parts, cases_eq, cases_lt, eq-eqb, leb-true, le-leb, le-ltb, lt-ltb}
use Rattle.std.proofs.lemmas.Bool.{ne_eqb, or_cases, or_left, or_right}
use Rattle.std.proofs.lemmas.Bool.Decides.{nat_tests}
use Rattle.std.proofs.lemmas.List.Sums.{sum_by-cons}
use Rattle.iofd_words.specs.Bounds.{Bounds}
use Rattle.iofd_words.specs.Pages.{page_of}
use Rattle.iofd_words.specs.declared.numbers.FrameNo.{FrameNo}
use Rattle.frame_memory.specs.Pool.{FramePool, free_count}
use Rattle.iofd_words.specs.Levels.{first_address, levels_of, number_at}
use Rattle.page_table_words.specs.Needed.{first_page, goes_through, is_absent, needed, needed_at}
use Rattle.page_table_words.specs.Mapped.{IsBelow}
use Rattle.page_table_words.specs.Reached.{IsLowest}
use Rattle.page_table_words.specs.Rows.{MappedPage, TableRow, table_at}
use Rattle.page_table_words.specs.Stands.{Stands, TableRoot, TableStands}
use Rattle.page_table_words.specs.Taken.{least_frames, missing, rows_below, with_tables}
use Rattle.page_table_words.proofs.Frames.{free_taken, least_frames_more, no_frames, some_least}
use Rattle.page_table_words.proofs.Lookups.{cases_Option, one_is, row_for, table_at-append, table_at-same}
use Rattle.page_table_words.proofs.Missing.{count_below, missing_is}
use Rattle.page_table_words.proofs.Needs.{count_split, count_window, in_window, number_below, pages_grow}
use Rattle.page_table_words.proofs.Numbers.{number-page, same_first}
use Rattle.page_table_words.proofs.Tables.{none_below}
use Rattle.page_table_words.proofs.Tops.{at_top, some_levels}

-- ---- the tables that are made

length_least : (holds : List ℕ) (n : ℕ) → n ≤ free_count holds → length (least_frames holds n) ≡ n
length_least holds zero few = ap (λ (fs : List FrameNo). length fs) (no_frames holds 0 refl)
length_least holds (suc n) few =
    let found = some_least holds (omega (arith, few)) in
    let frame : FrameNo = record { 0 = found.0 } in
    let fewer = free_taken holds found.0 found.1 in
    let less : suc n - 1 ≡ n = omega arith in
    ap (λ (fs : List FrameNo). length fs) (least_frames_more holds (suc n) frame (omega arith) found.1)
    ∙ ap (λ (k : ℕ). suc (length (least_frames (set holds found.0 1) k))) less
    ∙ ap suc (length_least (set holds found.0 1) n (omega (arith, fewer, few)))

no_rows : (level page : ℕ) → is_none (table_at [] level page) ≡ true
unfolding table_at
no_rows level page = refl

none-or : {X : Type 0} (a b : Option X) → is_none (option_or a b) ≡ (is_none a && is_none b)
none-or None b = refl
none-or (Some x) b = refl

none-cond : {X : Type 0} (b : Bool) (x : X) → is_none (cond b (Some x) None) ≡ not b
none-cond true x = refl
none-cond false x = refl

same_test : (level p q : ℕ) → eqb (first_address level p) (first_address level q) ≡ eqb
    (number_at level q) (number_at level p)
same_test level p q =
    ⊎_elim (λ (same : number_at level q ≡ number_at level p). eq-eqb _ _
    (ap (λ (n : ℕ). n * 2 ^ (9 * level + 12)) (sym same)) ∙ sym (eq-eqb _ _ same))
    (λ (differ : number_at level q ≢ number_at level p). ne_eqb _ _ (λ first. differ (sym (same_first level p q first)))
    ∙ sym (ne_eqb _ _ differ))
    (cases_eq (number_at level q) (number_at level p))

below_none : (frames : List FrameNo) (level page k q : ℕ) → length frames < level
    → is_none (table_at (rows_below level page frames) k q) ≡ not ((ltb k level && leb level (k + length frames))
    && eqb (number_at k q) (number_at k page))
below_none [] level page k q few = no_rows k q ∙ by_test (eqb (number_at k q) (number_at k page))
  where
    by_test : (e : Bool) → true ≡ not ((ltb k level && leb level (k + 0)) && e)
    by_test e = grind (arith, nat_tests)
below_none (f ∷ fs) level page k q few =
    ap is_none (table_at-append (row_for (level - 1) page f ∷ []) (rows_below (level - 1) page fs) k q)
    ∙ none-or (table_at (row_for (level - 1) page f ∷ []) k q) (table_at (rows_below (level - 1) page fs) k q)
    ∙ ap (λ (b : Bool). b && is_none (table_at (rows_below (level - 1) page fs) k q))
    (ap is_none (one_is [] (level - 1) page f k q) ∙ none-cond _ f)
    ∙ ap (λ (b : Bool). not (eqb (level - 1) k && eqb (first_address (level - 1) page) (first_address k q)) && b)
    (below_none fs (level - 1) page k q (omega (arith, few)))
    ∙ ⊎_elim
    (λ (same : level - 1 ≡ k).
    ap (λ (b : Bool). not (eqb (level - 1) k && b)
    && not ((ltb k (level - 1) && leb (level - 1) (k + length fs)) && eqb (number_at k q) (number_at k page)))
    (ap (λ (n : ℕ). eqb (first_address n page) (first_address k q)) same ∙ same_test k page q)
    ∙ at_level (eqb (number_at k q) (number_at k page)) same)
    (λ (differ : level - 1 ≢ k). elsewhere (eqb (first_address (level - 1) page) (first_address k q))
    (eqb (number_at k q) (number_at k page)) differ)
    (cases_eq (level - 1) k)
  where
    at_level : (e : Bool) → level - 1 ≡ k → (not (eqb (level - 1) k && e)
        && not ((ltb k (level - 1) && leb (level - 1) (k + length fs)) && e)) ≡ not ((ltb k level
        && leb level (k + suc (length fs))) && e)
    at_level e same = grind (arith, nat_tests)

    elsewhere : (d e : Bool) → level - 1 ≢ k
        → (not (eqb (level - 1) k && d) && not ((ltb k (level - 1) && leb (level - 1) (k + length fs)) && e)) ≡ not
        ((ltb k level && leb level (k + suc (length fs))) && e)
    elsewhere d e differ = grind (arith, nat_tests)

-- ---- one page of the spans

any_then : (p q : Bounds → Bool) (spans : List Bounds) → ((span : Bounds) → p span ≡ true → q span ≡ true)
    → list_any p spans ≡ true → list_any q spans ≡ true
any_then p q [] then any = any
any_then p q (span ∷ spans) then any =
    ⊎_elim (λ (here : p span ≡ true). or_left _ _ (then span here))
    (λ (later : list_any p spans ≡ true). or_right _ _ (any_then p q spans then later))
    (or_cases (p span) (list_any p spans) any)

count_alike : (p q : ℕ → Bool) (xs : List ℕ) → ((x : ℕ) → p x ≡ q x) → count_by p xs ≡ count_by q xs
count_alike p q [] each = refl
count_alike p q (x ∷ xs) each =
    sum_by-cons (λ (y : ℕ). cond (p y) 1 0) x xs ∙ ap {B = ℕ} (λ (b : Bool). cond b 1 0 + count_by p xs) (each x)
    ∙ ap (λ (c : ℕ). cond (q x) 1 0 + c) (count_alike p q xs each)
    ∙ sym (sum_by-cons (λ (y : ℕ). cond (q y) 1 0) x xs)

sum_shift : (f g : ℕ → ℕ) (p : ℕ → Bool) (from n : ℕ) → ((i : ℕ) → from ≤ i → i < from + n → f i ≡ g i + cond (p i) 1 0)
    → sum_by f (range_with_len from n) ≡ sum_by g (range_with_len from n) + count_by p (range_with_len from n)
sum_shift f g p from zero each = refl
sum_shift f g p from (suc n) each =
    let rest = sum_shift f g p (from + 1) n (λ i low high. each i (omega (arith, low)) (omega (arith, high))) in
    let here = each from (omega arith) (omega arith) in
    omega (
      arith,
      rest,
      here,
      sum_by-cons f from (range_with_len (from + 1) n),
      sum_by-cons g from (range_with_len (from + 1) n),
      sum_by-cons (λ i. cond (p i) 1 0) from (range_with_len (from + 1) n),
    )

module _ (pool : FramePool) (levels : ℕ) (root : FrameNo) (rows : List TableRow) (pages : List MappedPage)
    (stands : Stands pool levels root rows pages) (page lacks : ℕ) (spans : List Bounds)
    (is : missing rows levels page ≡ lacks) (free : lacks ≤ free_count pool.holds) (absent : (k : ℕ) → 0 < k → k ≤ lacks
    → is_none (table_at rows k page) ≡ true)
    (small : (k : ℕ) → k ≤ levels → number_at k page < 2 ^ (9 * (levels - k)))
    (in_spans : list_any (λ span. leb (page_of span.first) page && leb page (page_of span.last)) spans ≡ true) where
  pub after : List TableRow
  after = rows ++ rows_below (lacks + 1) page (least_frames pool.holds lacks)

  long : length (least_frames pool.holds lacks) ≡ lacks
  long = length_least pool.holds lacks free

  -- whether a table is still absent
  absent_after : (k number : ℕ) → is_absent after k number ≡ (is_absent rows k number
      && not ((ltb k (lacks + 1) && leb (lacks + 1) (k + lacks)) && eqb number (number_at k page)))
  unfolding after
  absent_after k number =
      let q = first_page k number in
      let below = below_none (least_frames pool.holds lacks) (lacks + 1) page k q (omega (arith, long)) in
      ap is_none (table_at-append rows (rows_below (lacks + 1) page (least_frames pool.holds lacks)) k q)
      ∙ none-or (table_at rows k q) (table_at (rows_below (lacks + 1) page (least_frames pool.holds lacks)) k q)
      ∙ ap (λ (b : Bool). is_absent rows k number && b) below
      ∙ ap (λ (n : ℕ). is_absent rows k number
      && not ((ltb k (lacks + 1) && leb (lacks + 1) (k + n)) && eqb (number_at k q) (number_at k page))) long
      ∙ ap (λ (n : ℕ). is_absent rows k number
      && not ((ltb k (lacks + 1) && leb (lacks + 1) (k + lacks))
      && eqb n (number_at k page))) (number-page k number)

  -- at a level of which the page had no table, one fewer is needed
  module _ (k : ℕ) (some : 0 < k) (low : k ≤ lacks) (few : k ≤ levels) where
    through : list_any (goes_through k (number_at k page)) spans ≡ true
    through =
        any_then (λ (span : Bounds). leb (page_of span.first) page && leb page (page_of span.last))
        (goes_through k (number_at k page)) spans
        (λ span inside. let parts = and_parts (leb (page_of span.first) page) (leb page (page_of span.last)) inside in
        and_from _ _ (le-leb _ _ (pages_grow k (page_of span.first) page (leb-true _ _ parts.0)))
        (le-leb _ _ (pages_grow k page (page_of span.last) (leb-true _ _ parts.1)))) in_spans

    was_absent : is_absent rows k (number_at k page) ≡ true
    was_absent = ap is_none (table_at-same rows k (first_page k (number_at k page)) page
        (number-page k (number_at k page))) ∙ absent k some low

    step : (t : ℕ) → ((list_any (goes_through k t) spans
        && is_absent rows k t) ≡ ((list_any (goes_through k t) spans && is_absent after k t)
        || in_window (λ _. true) (number_at k page) (number_at k page + 1) t))
        × (((list_any (goes_through k t) spans && is_absent after k t)
        && in_window (λ _. true) (number_at k page) (number_at k page + 1) t) ≡ false)
    unfolding in_window
    step t =
        rw (absent_after k t)
        (⊎_elim
        (λ (same : t ≡ number_at k page).
        let any = ap (λ (m : ℕ). list_any (goes_through k m) spans) same ∙ through in
        let none = ap (is_absent rows k) same ∙ was_absent in
        rw (any, none) (at_it t (number_at k page) same))
        (λ (differ : t ≢ number_at k page). elsewhere (list_any (goes_through k t) spans) (is_absent rows k t) t
        (number_at k page) differ)
        (cases_eq t (number_at k page)))
      where
        at_it : (t m : ℕ) → t ≡ m
            → (true ≡ ((true && not ((ltb k (lacks + 1) && leb (lacks + 1) (k + lacks)) && eqb t m))
            || ((leb m t && ltb t (m + 1)) && true)))
            × ((((true && not ((ltb k (lacks + 1) && leb (lacks + 1) (k + lacks)) && eqb t m)))
            && ((leb m t && ltb t (m + 1)) && true)) ≡ false)
        at_it t m same = (grind (arith, nat_tests), grind (arith, nat_tests))

        elsewhere : (a b : Bool) (t m : ℕ) → t ≢ m
            → ((a && b) ≡ ((a && (b && not ((ltb k (lacks + 1) && leb (lacks + 1) (k + lacks)) && eqb t m)))
            || ((leb m t && ltb t (m + 1)) && true)))
            × (((a && (b && not ((ltb k (lacks + 1) && leb (lacks + 1) (k + lacks)) && eqb t m)))
            && ((leb m t && ltb t (m + 1)) && true)) ≡ false)
        elsewhere a b t m differ = (grind (arith, nat_tests), grind (arith, nat_tests))

    one_fewer : needed_at rows levels k spans ≡ needed_at after levels k spans + 1
    unfolding needed_at
    one_fewer =
        let size = 2 ^ (9 * (levels - k)) in
        let m = number_at k page in
        let one : min size (m + 1) - m ≡ 1 = omega (arith, small k few) in
        let counted : count_by (in_window (λ _. true) m (m + 1)) (range_with_len 0 size) ≡ 1 =
        count_window (λ _. true) m (m + 1) size (omega arith)
        ∙ ap (λ (d : ℕ). count_by (λ _. true) (range_with_len m d)) one in
        omega (arith, count_split _ _ (in_window (λ _. true) m (m + 1)) (range_with_len 0 size) step, counted)

  -- at the others as many
  as_many : (k : ℕ) → lacks < k → needed_at rows levels k spans ≡ needed_at after levels k spans
  unfolding needed_at
  as_many k high = count_alike _ _ (range_with_len 0 (2 ^ (9 * (levels - k))))
      (λ t. sym (ap (λ (b : Bool). list_any (goes_through k t) spans && b) (absent_after k t
      ∙ unchanged (is_absent rows k t) (eqb t (number_at k page)))))
    where
      unchanged : (a e : Bool) → (a && not ((ltb k (lacks + 1) && leb (lacks + 1) (k + lacks)) && e)) ≡ a
      unchanged a e = grind (arith, nat_tests)

  pub needed_fewer : lacks ≤ levels - 1 → needed after levels spans + lacks ≡ needed rows levels spans
  needed_fewer few =
      let shifted = sum_shift (λ k. needed_at rows levels k spans) (λ k. needed_at after levels k spans)
      (λ k. ltb k (lacks + 1)) 1 (levels - 1) (λ k low high. each k low high) in
      let counted = count_below (λ k. ltb k (lacks + 1)) 1 (levels - 1) (lacks + 1) (λ k low high. refl)
      (omega arith) (omega (arith, few)) in
      omega (arith, shifted, counted)
    where
      each : (k : ℕ) → 1 ≤ k → k < 1 + (levels - 1)
          → needed_at rows levels k spans ≡ needed_at after levels k spans + cond (ltb k (lacks + 1)) 1 0
      each k low high =
          ⊎_elim
          (λ (within : k < lacks + 1). let one = ap {B = ℕ} (λ (b : Bool). cond b 1 0) (lt-ltb k (lacks + 1) within) in
          omega (arith, one_fewer k low (omega (arith, within)) (omega (arith, high)), one))
          (λ (past : lacks + 1 ≤ k). let none = ap {B = ℕ} (λ (b : Bool). cond b 1 0) (le-ltb k (lacks + 1) past) in
          omega (arith, as_many k (omega (arith, past)), none))
          (cases_lt k (lacks + 1))

-- ---- a page has a lowest table

lowest_from : (rows : List TableRow) (page n level : ℕ) (table : FrameNo) → level ≡ n + 1
    → table_at rows level page ≡ Some table → (low : ℕ) × (lowest : FrameNo) × IsLowest rows low page lowest
lowest_from rows page zero level table is at =
    (level, table, record { at = at; last = λ low. absurd (omega (arith, is, low)) })
lowest_from rows page (suc n) level table is at =
    ⊎_elim (λ (none : table_at rows (level - 1) page ≡ None). (level, table, record { at = at; last = λ low. none }))
    (λ (some : (f : FrameNo) × (table_at rows (level - 1) page ≡ Some f)). lowest_from rows page n (level - 1) some.0
    (omega (arith, is)) some.1)
    (cases_Option (table_at rows (level - 1) page))

pub takes_needed : (pool : FramePool) (table : TableRoot) (rows : List TableRow) (pages : List MappedPage) (page : ℕ)
    (spans : List Bounds) → TableStands pool table rows pages → IsBelow table.width page
    → list_any (λ span. leb (page_of span.first) page && leb page (page_of span.last)) spans ≡ true
    → missing rows (levels_of table.width) page ≤ free_count pool.holds
    → needed (with_tables rows (levels_of table.width) page pool.holds) (levels_of table.width) spans
    + missing rows (levels_of table.width) page ≡ needed rows (levels_of table.width) spans
unfolding after
takes_needed pool table rows pages page spans stands below inside free =
    let levels = levels_of table.width in
    let some = some_levels table.width in
    let low = lowest_from rows page (levels - 1) levels table.root (omega (arith, some))
    (at_top pool table rows pages page stands below) in
    let lacks = missing_is pool levels table.root rows pages low.0 page low.1 stands low.2 in
    let range = stands.level low.0 page low.1 low.2.at in
    let page_is : page_of (page * 4096) ≡ page = omega arith in
    needed_fewer pool levels table.root rows pages stands page (missing rows levels page) spans refl free
    (λ k some_level few. ap is_none (none_below pool levels table.root rows pages stands (low.0 - 1) page k
    (low.2.last (omega (arith, lacks, some_level, few))) (omega (arith, range.1))
    (omega (arith, lacks, few))))
    (λ k few. rw page_is at (number_below table.width k (page * 4096) few below))
    inside (omega (arith, lacks, range.1))
