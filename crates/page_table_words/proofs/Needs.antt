-- Tables that spans need, counted one after another.
use Rattle.std.proofs.Common.{◌≡◌, ℕ, zero, suc, ◌+◌, ◌-◌, ◌*◌, ◌/◌, ◌^◌, ◌<◌, ◌≤◌, Bool, true, false, cond, ltb, leb}
use Rattle.std.proofs.Common.{◌&&◌, ◌||◌, List, [], ◌∷◌, ◌++◌, length, get_or, take, min, max, refl, sym, ◌∙◌, ap}
use Rattle.std.proofs.Common.{arith, inl, inr, ◌⊎◌, ⊎_elim}
use Rattle.std.specs.Prelude.{is_none}
use Rattle.std.specs.List.{count_by, filter, list_any, range_with_len, sum_by}
use Rattle.std.proofs.Math.Nat.{div-le_self, div-mul-le_self}
use Rattle.std.proofs.lemmas.Bool.{and_from, and_left, and_right, cases_lt, false≢true, le-leb, leb-true, le-ltb}
use Rattle.std.proofs.lemmas.Bool.{lt-leb, lt-ltb, and_parts, or_cases, or_right}
use Rattle.std.proofs.lemmas.List.{get_or_default, length-append}
use Rattle.std.proofs.lemmas.List.Folds.{list_any_more}
use Rattle.std.proofs.lemmas.List.Sorted.{length_permutation}
use Rattle.std.proofs.lemmas.List.Sums.{length-filter, sum_by_push}
use Rattle.std.proofs.lemmas.Nat.{le-div, pow_pos, shl_below, shr_below}
use Rattle.iofd_words.specs.Bounds.{Bounds}
use Rattle.iofd_words.specs.Pages.{page_of}
use Rattle.iofd_words.specs.Width.{bits_of}
use Rattle.iofd_words.specs.declared.numbers.FrameNo.{FrameNo}
use Rattle.iofd_words.specs.declared.width.Width.{Width}
use Rattle.iofd_words.specs.declared.width.Width.TheVariants.{Bits39, Bits48, Bits57}
use Rattle.frame_memory.specs.Pool.{FramePool}
use Rattle.iofd_words.specs.Levels.{levels_of, number_at}
use Rattle.page_table_words.specs.Mapped.{IsBelow}
use Rattle.page_table_words.specs.Needed.{AreOrdered, first_page, goes_through, is_absent, needed_at}
use Rattle.page_table_words.specs.Reached.{IsLowest}
use Rattle.page_table_words.specs.Rows.{MappedPage, TableRow, table_at}
use Rattle.page_table_words.specs.Stands.{Stands}
use Rattle.page_table_words.proofs.FramesUnder.{range_more}
use Rattle.page_table_words.proofs.Lookups.{some_is, the_some}
use Rattle.page_table_words.proofs.Members.{filter_split}
use Rattle.page_table_words.proofs.Tables.{none_below, tables_above}

-- ---- numbers of tables

width_end : (width : Width) → 2 ^ bits_of width ≡ 2 ^ (9 * levels_of width) * 4096
width_end Bits39 = refl
width_end Bits48 = refl
width_end Bits57 = refl

pub first_below : (width : Width) (level number : ℕ) → level ≤ levels_of width
    → number < 2 ^ (9 * (levels_of width - level)) → IsBelow width (first_page level number)
first_below width level number few below =
    let all : 9 * (levels_of width - level) + 9 * level ≡ 9 * levels_of width = omega (arith, few) in
    let small = shl_below number (9 * (levels_of width - level)) (9 * level) below in
    let end = ap (λ (k : ℕ). 2 ^ k) all in
    omega (arith, small, end, width_end width)

pub number_below : (width : Width) (level address : ℕ) → level ≤ levels_of width → address < 2 ^ bits_of width
    → number_at level (page_of address) < 2 ^ (9 * (levels_of width - level))
unfolding number_at
number_below width level address few below =
    let all : 9 * (levels_of width - level) + 9 * level ≡ 9 * levels_of width = omega (arith, few) in
    let end = ap (λ (k : ℕ). 2 ^ k) all in
    shr_below (page_of address) (9 * (levels_of width - level)) (9 * level) (omega (arith, below, end, width_end width))

pub number_small : (level address : ℕ) → address < 2 ^ 64 → number_at level (page_of address) < 2 ^ 52
unfolding number_at
number_small level address below = let less = div-mul-le_self (page_of address) (2 ^ (9 * level)) in let pos =
    pow_pos (9 * level) in small_quotient (page_of address) (2 ^ (9 * level)) pos (omega (arith, below))
  where
    small_quotient : (n k : ℕ) → 0 < k → n < 2 ^ 52 → n / k < 2 ^ 52
    small_quotient n k pos small = let less = div-le_self n k in omega (arith, less, small)

pub pages_grow : (level p q : ℕ) → p ≤ q → number_at level p ≤ number_at level q
unfolding number_at
pages_grow level p q less = let front = div-mul-le_self p (2 ^ (9 * level)) in le-div (p / 2 ^ (9 * level)) q
    (2 ^ (9 * level)) (pow_pos (9 * level)) (omega (arith, front, less))

pub number_grows : (level a b : ℕ) → a ≤ b → number_at level (page_of a) ≤ number_at level (page_of b)
number_grows level a b less = pages_grow level (page_of a) (page_of b) (omega (arith, less))

-- ---- whether a table is there

module _ (pool : FramePool) (levels : ℕ) (root : FrameNo) (rows : List TableRow) (pages : List MappedPage)
    (stands : Stands pool levels root rows pages) (level lowest_level number : ℕ) (table : FrameNo)
    (lowest : IsLowest rows lowest_level (first_page level number) table) (some : 0 < level) where
  pub absent_above : level < lowest_level → is_absent rows level number ≡ true
  absent_above above =
      let range = stands.level lowest_level (first_page level number) table lowest.at in
      ap is_none (none_below pool levels root rows pages stands (lowest_level - 1) (first_page level number) level
      (lowest.last (omega (arith, above, some))) (omega (arith, range.1)) (omega (arith, above)))

  pub present_from : lowest_level ≤ level → level ≤ levels → is_absent rows level number ≡ false
  present_from from few =
      let sum : lowest_level + (level - lowest_level) ≡ level = omega (arith, from) in
      let there = rw sum at (tables_above pool levels root rows pages stands (level - lowest_level) lowest_level
      (first_page level number) (some_is _ table lowest.at) (omega (arith, from, few))) in
      ap is_none (the_some (table_at rows level (first_page level number)) there).1

-- one number more
pub count_range_more : (p : ℕ → Bool) (from n : ℕ)
    → count_by p (range_with_len from (n + 1)) ≡ count_by p (range_with_len from n) + cond (p (from + n)) 1 0
count_range_more p from n =
    ap (count_by p) (range_more from n) ∙ sum_by_push (λ (i : ℕ). cond (p i) 1 0) (range_with_len from n) (from + n)

pub absent_more : (p : ℕ → Bool) (from number total : ℕ) → from ≤ number
    → total ≡ count_by p (range_with_len from (number - from)) → (b : Bool) → p number ≡ b
    → total + cond b 1 0 ≡ count_by p (range_with_len from (number + 1 - from))
absent_more p from number total low counted b is =
    let one_more : number + 1 - from ≡ number - from + 1 = omega (arith, low) in
    let last : from + (number - from) ≡ number = omega (arith, low) in
    let next = count_range_more p from (number - from) in
    let here : cond (p (from + (number - from))) 1 0 ≡ cond b 1 0 =
    ap {B = ℕ} (λ (i : ℕ). cond (p i) 1 0) last ∙ ap {B = ℕ} (λ (c : Bool). cond c 1 0) is in
    omega (arith, ap (λ (n : ℕ). count_by p (range_with_len from n)) one_more, next, here, counted)

-- ---- one span more

pub count_split : (p q r : ℕ → Bool) (xs : List ℕ) → ((x : ℕ) → (p x ≡ (q x || r x)) × ((q x && r x) ≡ false))
    → count_by p xs ≡ count_by q xs + count_by r xs
count_split p q r xs each =
    let same = length_permutation (filter q xs ++ filter r xs) (filter p xs) (filter_split p q r xs each) in
    omega (
      arith,
      same,
      length-append (filter q xs) (filter r xs),
      length-filter p xs,
      length-filter q xs,
      length-filter r xs,
    )

-- from lo on, and before hi
unfoldable pub in_window : (ℕ → Bool) → ℕ → ℕ → ℕ → Bool
in_window p lo hi t = (leb lo t && ltb t hi) && p t

pub count_window : (p : ℕ → Bool) (lo hi n : ℕ) → lo ≤ hi
    → count_by (in_window p lo hi) (range_with_len 0 n) ≡ count_by p (range_with_len lo (min n hi - lo))
unfolding in_window
count_window p lo hi zero order =
    let none : min 0 hi - lo ≡ 0 = omega arith in ap (λ (k : ℕ). count_by p (range_with_len lo k)) (sym none)
count_window p lo hi (suc n) order =
    let one_more : suc n ≡ n + 1 = omega arith in
    let next = count_range_more (in_window p lo hi) 0 n in
    let rest = count_window p lo hi n order in
    let here : 0 + n ≡ n = omega arith in
    let counted : count_by (in_window p lo hi) (range_with_len 0 (suc n)) ≡ count_by p
    (range_with_len lo (min n hi - lo)) + cond (in_window p lo hi n) 1 0 =
    ap (λ (k : ℕ). count_by (in_window p lo hi) (range_with_len 0 k)) one_more ∙ next
    ∙ ap (λ (k : ℕ). k + cond (in_window p lo hi (0 + n)) 1 0) rest
    ∙ ap (λ (k : ℕ). count_by p (range_with_len lo (min n hi - lo)) + cond (in_window p lo hi k) 1 0) here in
    ⊎_elim
    (λ (before : n < lo).
    let out : in_window p lo hi n ≡ false = and_left _ _ (and_left _ _ (lt-leb lo n before)) in
    let same : min n hi - lo ≡ min (suc n) hi - lo = omega (arith, before, order) in
    counted ∙ ap {B = ℕ} (λ (b : Bool). count_by p (range_with_len lo (min n hi - lo)) + cond b 1 0) out
    ∙ (let nothing : count_by p (range_with_len lo (min n hi - lo))
    + 0 ≡ count_by p (range_with_len lo (min n hi - lo)) = omega arith in nothing)
    ∙ ap (λ (k : ℕ). count_by p (range_with_len lo k)) same)
    (λ (from : lo ≤ n).
    ⊎_elim
    (λ (inside : n < hi).
    let it : in_window p lo hi n ≡ p n =
    ap (λ (b : Bool). b && p n) (and_from _ _ (le-leb lo n from) (lt-ltb n hi inside)) in
    let grown : min (suc n) hi - lo ≡ min n hi - lo + 1 = omega (arith, from, inside) in
    let last : lo + (min n hi - lo) ≡ n = omega (arith, from, inside) in
    counted ∙ ap {B = ℕ} (λ (b : Bool). count_by p (range_with_len lo (min n hi - lo)) + cond b 1 0) (it
    ∙ ap p (sym last)) ∙ sym (count_range_more p lo (min n hi - lo))
    ∙ ap (λ (k : ℕ). count_by p (range_with_len lo k)) (sym grown))
    (λ (past : hi ≤ n).
    let out : in_window p lo hi n ≡ false = and_left _ _ (and_right _ _ (le-ltb n hi past)) in
    let same : min n hi - lo ≡ min (suc n) hi - lo = omega (arith, past) in
    counted ∙ ap {B = ℕ} (λ (b : Bool). count_by p (range_with_len lo (min n hi - lo)) + cond b 1 0) out
    ∙ (let nothing : count_by p (range_with_len lo (min n hi - lo))
    + 0 ≡ count_by p (range_with_len lo (min n hi - lo)) = omega arith in nothing)
    ∙ ap (λ (k : ℕ). count_by p (range_with_len lo k)) same)
    (cases_lt n hi))
    (cases_lt n lo)

or_false : (b : Bool) → (b || false) ≡ b
or_false true = refl
or_false false = refl

place : (lo hi n : ℕ) → ((lo ≤ n) × (n < hi)) ⊎ ((n < lo) ⊎ (hi ≤ n))
place lo hi n =
    ⊎_elim (λ (below : n < lo). inr (inl below))
    (λ (from : lo ≤ n). ⊎_elim (λ (inside : n < hi). inl (from, inside))
    (λ (past : hi ≤ n). inr (inr past)) (cases_lt n hi))
    (cases_lt n lo)

module _ (rows : List TableRow) (levels level : ℕ) (spans : List Bounds) (index next lo hi : ℕ) (span : Bounds)
    (within : index < length spans) (is : span ≡ get_or spans index span)
    (before : (number : ℕ) → list_any (goes_through level number) (take index spans) ≡ true → number < next)
    (overlap : (number : ℕ) → number_at level (page_of span.first) ≤ number → number < next
    → list_any (goes_through level number) (take index spans) ≡ true)
    (low : lo ≡ max (number_at level (page_of span.first)) next) (high : hi ≡ number_at level (page_of span.last) + 1)
    (order : lo ≤ hi) (end : hi ≤ 2 ^ (9 * (levels - level))) where
  more_any : (number : ℕ) → list_any (goes_through level number)
      (take (index + 1) spans) ≡ (list_any (goes_through level number) (take index spans)
      || goes_through level number span)
  more_any number = list_any_more (goes_through level number) spans index span within
      ∙ ap (λ (s : Bounds). list_any (goes_through level number) (take index spans)
      || goes_through level number s) (sym is)

  step : (number : ℕ) → ((list_any (goes_through level number) (take (index + 1) spans) && is_absent rows level number)
      ≡ ((list_any (goes_through level number) (take index spans) && is_absent rows level number)
      || in_window (is_absent rows level) lo hi number))
      × (((list_any (goes_through level number) (take index spans) && is_absent rows level number)
      && in_window (is_absent rows level) lo hi number) ≡ false)
  unfolding in_window
  step number =
      rw (more_any number)
      (by_tests (list_any (goes_through level number) (take index spans)) refl)
    where
      window : Bool
      window = leb lo number && ltb number hi

      by_tests : (a : Bool) → list_any (goes_through level number) (take index spans) ≡ a
          → (((a || goes_through level number span) && is_absent rows level number)
          ≡ ((a && is_absent rows level number) || (window && is_absent rows level number)))
          × (((a && is_absent rows level number) && (window && is_absent rows level number)) ≡ false)
      by_tests true any =
          let out : window ≡ false = and_left _ _ (lt-leb lo number (omega (arith, before number any, low))) in
          let nothing : (window && is_absent rows level number) ≡ false = and_left _ _ out in (
            sym (ap (λ (b : Bool). is_absent rows level number || b) nothing ∙ or_false (is_absent rows level number)),
            and_right _ _ nothing,
          )
      by_tests false none = (ap (λ (b : Bool). b && is_absent rows level number) same, refl)
        where
          same : goes_through level number span ≡ window
          same =
              ⊎_elim
              (λ (inside : (number_at level (page_of span.first) ≤ number) × (number < hi)).
              let after : next ≤ number = ⊎_elim (λ (earlier : number < next). absurd
              (false≢true (sym none ∙ overlap number inside.0 earlier))) (λ (later : next ≤ number). later)
              (cases_lt number next) in
              and_from _ _ (le-leb _ _ inside.0) (le-leb number _ (omega (arith, inside.1, high)))
              ∙ sym (and_from _ _ (le-leb lo number (omega (arith, low, after, inside.0)))
              (lt-ltb number hi inside.1)))
              (λ (outside : (number < number_at level (page_of span.first)) ⊎ (hi ≤ number)).
              ⊎_elim
              (λ (below : number < number_at level (page_of span.first)). and_left _ _ (lt-leb _ number below)
              ∙ sym (and_left _ _ (lt-leb lo number (omega (arith, low, below)))))
              (λ (past : hi ≤ number). and_right _ _ (lt-leb number _ (omega (arith, high, past)))
              ∙ sym (and_right _ _ (le-ltb number hi past)))
              outside)
              (place (number_at level (page_of span.first)) hi number)

  pub needed_more : needed_at rows levels level (take (index + 1) spans) ≡ needed_at rows levels level
      (take index spans) + count_by (is_absent rows level) (range_with_len lo (hi - lo))
  unfolding needed_at
  needed_more =
      let end_is : min (2 ^ (9 * (levels - level))) hi ≡ hi = omega (arith, end) in
      count_split _ _ (in_window (is_absent rows level) lo hi) (range_with_len 0 (2 ^ (9 * (levels - level)))) step
      ∙ ap (λ (n : ℕ). needed_at rows levels level (take index spans) + n)
      (count_window (is_absent rows level) lo hi (2 ^ (9 * (levels - level))) order
      ∙ ap (λ (n : ℕ). count_by (is_absent rows level) (range_with_len lo (n - lo))) end_is)

pub nothing_needed : (rows : List TableRow) (levels level : ℕ) → needed_at rows levels level [] ≡ 0
unfolding needed_at
nothing_needed rows levels level = none (range_with_len 0 (2 ^ (9 * (levels - level))))
  where
    none : (xs : List ℕ) → count_by (λ number. false && is_absent rows level number) xs ≡ 0
    none [] = refl
    none (x ∷ xs) = none xs

pub sum_range_more : (f : ℕ → ℕ) (level total more : ℕ) → 1 ≤ level → total ≡ sum_by f (range_with_len 1 (level - 1))
    → more ≡ f level → total + more ≡ sum_by f (range_with_len 1 (level + 1 - 1))
sum_range_more f level total more some counted is =
    let one_more : level + 1 - 1 ≡ level - 1 + 1 = omega (arith, some) in
    let last : 1 + (level - 1) ≡ level = omega (arith, some) in
    let next =
    ap (sum_by f) (range_more 1 (level - 1)) ∙ sum_by_push f (range_with_len 1 (level - 1)) (1 + (level - 1)) in
    omega (arith, ap (λ (n : ℕ). sum_by f (range_with_len 1 n)) one_more, next, ap f last, counted, is)

-- ---- how far the spans so far go

module _ (level : ℕ) (spans : List Bounds) (index next : ℕ) (span : Bounds) (within : index < length spans)
    (is : span ≡ get_or spans index span)
    (rising : (k : ℕ) (d : Bounds) → k + 1 < length spans → (get_or spans k d).last < (get_or spans (k + 1) d).first)
    (first : index ≡ 0 → next ≡ 0) (last : (k : ℕ) (d : Bounds) → k + 1 ≡ index
    → next ≡ number_at level (page_of (get_or spans k d).last) + 1) where
  -- the next span begins no lower than the last one ended
  pub first_within : next ≤ number_at level (page_of span.first) + 1
  first_within = by_index index refl
    where
      by_index : (i : ℕ) → i ≡ index → next ≤ number_at level (page_of span.first) + 1
      by_index zero same = omega (arith, first (sym same))
      by_index (suc k) same =
          let one_more : k + 1 ≡ index = omega (arith, same) in
          let ended = last k span one_more in
          let begins : (get_or spans (k + 1) span).first ≡ span.first =
          ap (λ (s : Bounds). s.first) (ap (λ (i : ℕ). get_or spans i span) one_more ∙ sym is) in
          let apart = rising k span (omega (arith, one_more, within)) in
          let grows = number_grows level (get_or spans k span).last span.first (omega (arith, apart, begins)) in
          omega (arith, ended, grows)

  -- so the two share at most one table
  pub overlaps : (0 < next → list_any (goes_through level (next - 1)) (take index spans) ≡ true) → (number : ℕ)
      → number_at level (page_of span.first) ≤ number → number < next
      → list_any (goes_through level number) (take index spans) ≡ true
  overlaps reached number from below =
      let same : next - 1 ≡ number = omega (arith, first_within, from, below) in
      ap (λ (n : ℕ). list_any (goes_through level n) (take index spans)) (sym same) ∙ reached (omega (arith, below))

  pub reached_more : span.first ≤ span.last
      → list_any (goes_through level (number_at level (page_of span.last))) (take (index + 1) spans) ≡ true
  reached_more ordered =
      list_any_more (goes_through level (number_at level (page_of span.last))) spans index span within
      ∙ or_right _ _ (ap (goes_through level (number_at level (page_of span.last))) (sym is)
      ∙ and_from _ _ (le-leb _ _ (number_grows level span.first span.last ordered))
      (le-leb (number_at level (page_of span.last)) _ (omega arith)))

  pub before_more : span.first ≤ span.last
      → ((number : ℕ) → list_any (goes_through level number) (take index spans) ≡ true → number < next) → (number : ℕ)
      → list_any (goes_through level number) (take (index + 1) spans) ≡ true
      → number < number_at level (page_of span.last) + 1
  before_more ordered before number any =
      let either = or_cases (list_any (goes_through level number) (take index spans))
      (goes_through level number (get_or spans index span))
      (sym (list_any_more (goes_through level number) spans index span within) ∙ any) in
      ⊎_elim
      (λ (earlier : list_any (goes_through level number) (take index spans) ≡ true).
      omega (arith, before number earlier, first_within, number_grows level span.first span.last ordered))
      (λ (here : goes_through level number (get_or spans index span) ≡ true).
      let through : goes_through level number span ≡ true = ap (goes_through level number) is ∙ here in
      omega (arith, leb-true number (number_at level (page_of span.last)) (and_parts _ _ through).1))
      either

  pub next_is : (k : ℕ) (d : Bounds) → k + 1 ≡ index + 1
      → number_at level (page_of span.last) + 1 ≡ number_at level (page_of (get_or spans k d).last) + 1
  next_is k d same =
      let at : k ≡ index = omega (arith, same) in
      let here : get_or spans k d ≡ span =
      ap (λ (i : ℕ). get_or spans i d) at ∙ get_or_default spans index d span within ∙ sym is in
      ap (λ (s : Bounds). number_at level (page_of s.last) + 1) (sym here)

-- ---- the bounds of a span

pub next_number : (level number address of : ℕ) → number ≡ number_at level (address / 4096) → address ≡ of
    → number ≡ number_at level (page_of of)
next_number level number address of is same = is ∙ ap (λ (a : ℕ). number_at level (page_of a)) same

pub span_below : (width : Width) (spans : List Bounds) (index : ℕ) (span : Bounds) → AreOrdered width spans
    → index < length spans → span ≡ get_or spans index span → span.last < 2 ^ bits_of width
span_below width spans index span ordered within is =
    let last = ap (λ (s : Bounds). s.last) is in omega (arith, last, ordered.below index span within)

pub bound : (width : Width) (level : ℕ) (spans : List Bounds) (index : ℕ) (span : Bounds) → AreOrdered width spans
    → index < length spans → span ≡ get_or spans index span → number_at level (page_of span.last) < 2 ^ 52
bound width level spans index span ordered within is =
    number_small level span.last (small width (span_below width spans index span ordered within is))
  where
    small : (w : Width) → span.last < 2 ^ bits_of w → span.last < 2 ^ 64
    small Bits39 below = omega (arith, below)
    small Bits48 below = omega (arith, below)
    small Bits57 below = omega (arith, below)
