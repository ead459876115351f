-- What becomes of the rows of counts.
use Rattle.std.proofs.Common.{◌≡◌, ℕ, ◌+◌, ◌*◌, ◌<◌, Bool, true, false, cond, Option, None, Some, List, [], ◌∷◌}
use Rattle.std.proofs.Common.{refl, sym, ap, ◌∙◌, arith}
use Rattle.std.specs.BTreeMap.{is_at}
use Rattle.std.specs.Cmp.{IsTotalOrder}
use Rattle.std.specs.List.Sorted.{IsPermutation}
use Rattle.std.specs.Map.{lookup, remove_entry, set_value}
use Rattle.std.specs.Option.{MatchOption, unwrap_or}
use Rattle.std.specs.Ordering.{is_eq}
use Rattle.std.specs.declared.cmp.Ordering.{Ordering}
use Rattle.std.specs.declared.cmp.Ordering.TheVariants.{Less, Equal, Greater}
use Rattle.std.proofs.lemmas.List.Elements.{All-from_recursion, recursion_from_All}
use Rattle.std.proofs.lemmas.List.Sorted.{All-permutation, sum_by_pushed}
use Rattle.std.proofs.lemmas.List.Sums.{sum_by-cons}
use Rattle.held_pins.specs.Counts.{ArePositive, count_in, weighed}

-- ---- each row's count stays positive

pub positive_set : {K : Type 0} (test : K → Bool) (rows : List (K × ℕ)) (n : ℕ) → 0 < n → ArePositive rows
    → ArePositive (set_value test rows n)
positive_set test [] n some all = tt
positive_set test (row ∷ rows) n some all = by_test (test row.0) (positive_set test rows n some all.1)
  where
    by_test : (b : Bool) → ArePositive (set_value test rows n)
        → ArePositive (cond b ((row.0, n) ∷ rows) (row ∷ set_value test rows n))
    by_test true rest = (some, all.1)
    by_test false rest = (all.0, rest)

positive_removed : {K : Type 0} (test : K → Bool) (rows : List (K × ℕ)) → ArePositive rows
    → ArePositive (remove_entry test rows)
positive_removed test [] all = tt
positive_removed test (row ∷ rows) all = by_test (test row.0) (positive_removed test rows all.1)
  where
    by_test : (b : Bool) → ArePositive (remove_entry test rows)
        → ArePositive (cond b rows (row ∷ remove_entry test rows))
    by_test true rest = all.1
    by_test false rest = (all.0, rest)

positive_permuted : {K : Type 0} (xs ys : List (K × ℕ)) → IsPermutation xs ys → ArePositive xs → ArePositive ys
positive_permuted {K} xs ys moved all =
    let P : K × ℕ → Type 0 = λ row. 0 < row.1 in
    recursion_from_All P ys (All-permutation P xs ys moved (All-from_recursion P xs all))

pub positive_more : {K : Type 0} (rows new : List (K × ℕ)) (key : K) → IsPermutation ((key, 1) ∷ rows) new
    → ArePositive rows → ArePositive new
positive_more rows new key moved all =
    let one : 0 < 1 = omega arith in
    positive_permuted ((key, 1) ∷ rows) new moved (one, all)

pub positive_less : {K : Type 0} (test : K → Bool) (rows new : List (K × ℕ))
    → IsPermutation (remove_entry test rows) new → ArePositive rows → ArePositive new
positive_less test rows new moved all =
    positive_permuted (remove_entry test rows) new moved (positive_removed test rows all)

-- a key that isn't counted has no row
pub absent_row : {K : Type 0} (test : K → Bool) (rows : List (K × ℕ)) → ArePositive rows
    → unwrap_or (lookup test rows) 0 ≡ 0 → lookup test rows ≡ None
absent_row test [] all none = refl
absent_row test (row ∷ rows) all none = by_test (test row.0) none (absent_row test rows all.1)
  where
    by_test : (b : Bool) → unwrap_or (cond b (Some row.1) (lookup test rows)) 0 ≡ 0
        → (unwrap_or (lookup test rows) 0 ≡ 0 → lookup test rows ≡ None)
        → cond b (Some row.1) (lookup test rows) ≡ None
    by_test true zero rest = absurd (omega (arith, all.0, zero))
    by_test false zero rest = rest zero

-- one that is counted once has a row that says so
pub once_found : {K : Type 0} (test : K → Bool) (rows : List (K × ℕ)) → unwrap_or (lookup test rows) 0 ≡ 1
    → lookup test rows ≡ Some 1
once_found test rows once = by_found (lookup test rows) once
  where
    by_found : (o : Option ℕ) → unwrap_or o 0 ≡ 1 → o ≡ Some 1
    by_found None is = cc
    by_found (Some n) is = ap Some is

-- and one that has is counted
pub found_positive : {K : Type 0} (test : K → Bool) (rows : List (K × ℕ)) (n : ℕ) → ArePositive rows
    → lookup test rows ≡ Some n → 0 < n
found_positive test [] n all found = cc
found_positive test (row ∷ rows) n all found = by_test (test row.0) found (found_positive test rows n all.1)
  where
    by_test : (b : Bool) → cond b (Some row.1) (lookup test rows) ≡ Some n → (lookup test rows ≡ Some n → 0 < n)
        → 0 < n
    by_test true here rest = let same : row.1 ≡ n = cc in omega (arith, same, all.0)
    by_test false later rest = rest later

-- its count written once more changes nothing
pub set_same : {K : Type 0} (test : K → Bool) (rows : List (K × ℕ)) (n : ℕ) → lookup test rows ≡ Some n
    → set_value test rows n ≡ rows
set_same test [] n found = cc
set_same test (row ∷ rows) n found = by_test (test row.0) found (set_same test rows n)
  where
    by_test : (b : Bool) → cond b (Some row.1) (lookup test rows) ≡ Some n
        → (lookup test rows ≡ Some n → set_value test rows n ≡ rows)
        → cond b ((row.0, n) ∷ rows) (row ∷ set_value test rows n) ≡ row ∷ rows
    by_test true here rest =
        let same : row.1 ≡ n = cc in
        ap (λ m. (row.0, m) ∷ rows) (sym same)
    by_test false later rest = ap (λ others. row ∷ others) (rest later)

-- a new key's row comes to the others
pub first_put : {K : Type 0} (test : K → Bool) (rows new : List (K × ℕ)) (key : K) (old : Option ℕ) → old ≡ None
    → MatchOption old (IsPermutation ((key, 1) ∷ rows) new) (λ _. new ≡ set_value test rows 1)
    → IsPermutation ((key, 1) ∷ rows) new
first_put test rows new key None is put = put
first_put test rows new key (Some n) is put = cc

-- ---- what the keys weigh

pub once_more : (n w : ℕ) → (n + 1) * w ≡ n * w + w
once_more n w = grind arith

module _ {K : Type 0} (weight : K → ℕ) where
  abbrev term : K × ℕ → ℕ
  term row = row.1 * weight row.0

  pub weighed_row : (row : K × ℕ) (rows : List (K × ℕ))
      → weighed weight (row ∷ rows) ≡ row.1 * weight row.0 + weighed weight rows
  weighed_row row rows = sum_by-cons term row rows

  -- with a key that is counted once and wasn't counted
  pub weighed_first : (rows new : List (K × ℕ)) (key : K) → IsPermutation ((key, 1) ∷ rows) new
      → weighed weight new ≡ weighed weight rows + weight key
  weighed_first rows new key moved =
      let more : weighed weight new ≡ 1 * weight key + weighed weight rows =
      sum_by_pushed term (key, 1) rows new moved in
      omega (arith, more)

  module _ (test : K → Bool) (w : ℕ) (alike : (other : K) → test other ≡ true → weight other ≡ w) where
    -- with another count of a key
    pub weighed_set : (rows : List (K × ℕ)) (n m : ℕ) → lookup test rows ≡ Some n
        → weighed weight (set_value test rows m) + n * w ≡ weighed weight rows + m * w
    weighed_set [] n m found = cc
    weighed_set (row ∷ rows) n m found = by_test (test row.0) refl found (weighed_set rows n m)
      where
        by_test : (b : Bool) → test row.0 ≡ b → cond b (Some row.1) (lookup test rows) ≡ Some n
            → (lookup test rows ≡ Some n
            → weighed weight (set_value test rows m) + n * w ≡ weighed weight rows + m * w)
            → weighed weight (cond b ((row.0, m) ∷ rows) (row ∷ set_value test rows m)) + n * w
            ≡ weighed weight (row ∷ rows) + m * w
        by_test true is here rest =
            let same : row.1 ≡ n = cc in
            let heavy = alike row.0 is in
            let before : row.1 * weight row.0 ≡ n * w = λ i. same i * heavy i in
            let after : m * weight row.0 ≡ m * w = ap (λ x. m * x) heavy in
            omega (arith, weighed_row (row.0, m) rows, weighed_row row rows, before, after)
        by_test false is later rest =
            omega (arith, weighed_row row (set_value test rows m), weighed_row row rows, rest later)

    -- without a key
    pub weighed_removed : (rows : List (K × ℕ)) (n : ℕ) → lookup test rows ≡ Some n
        → weighed weight (remove_entry test rows) + n * w ≡ weighed weight rows
    weighed_removed [] n found = cc
    weighed_removed (row ∷ rows) n found = by_test (test row.0) refl found (weighed_removed rows n)
      where
        by_test : (b : Bool) → test row.0 ≡ b → cond b (Some row.1) (lookup test rows) ≡ Some n
            → (lookup test rows ≡ Some n → weighed weight (remove_entry test rows) + n * w ≡ weighed weight rows)
            → weighed weight (cond b rows (row ∷ remove_entry test rows)) + n * w ≡ weighed weight (row ∷ rows)
        by_test true is here rest =
            let same : row.1 ≡ n = cc in
            let heavy = alike row.0 is in
            let before : row.1 * weight row.0 ≡ n * w = λ i. same i * heavy i in
            omega (arith, weighed_row row rows, before)
        by_test false is later rest =
            omega (arith, weighed_row row (remove_entry test rows), weighed_row row rows, rest later)

-- ---- how often each key is counted

module _ {K : Type 0} (cmp : K → K → Ordering) where
  -- a hash map finds keys by their equality, which is that of the order
  pub by_order : (eq : K → K → Bool) → ((x y : K) → eq x y ≡ is_eq (cmp x y)) → eq ≡ (λ x y. is_at (cmp x) y)
  by_order eq same = λ i x y. same x y i

  -- keys that compare alike are counted alike
  alike_counted : IsTotalOrder cmp → (rows : List (K × ℕ)) (key other : K) → cmp key other ≡ Equal
      → count_in cmp rows key ≡ count_in cmp rows other
  alike_counted order rows key other is =
      ap (λ (compare : K → Ordering). unwrap_or (lookup (is_at compare) rows) 0)
      (λ i z. order.congr key other z is i)

  pub counted_more : IsTotalOrder cmp → (rows new : List (K × ℕ)) (key : K) (n : ℕ) → n ≡ count_in cmp rows key
      → ((q : K) → lookup (is_at (cmp q)) new
      ≡ cond (is_at (cmp key) q) (Some (n + 1)) (lookup (is_at (cmp q)) rows))
      → (other : K) → count_in cmp new other ≡ count_in cmp rows other + cond (is_at (cmp key) other) 1 0
  counted_more order rows new key n counts found other =
      ap (λ (o : Option ℕ). unwrap_or o 0) (found other) ∙ by_place (cmp key other) refl
    where
      by_place : (o : Ordering) → cmp key other ≡ o
          → unwrap_or (cond (is_eq o) (Some (n + 1)) (lookup (is_at (cmp other)) rows)) 0
          ≡ count_in cmp rows other + cond (is_eq o) 1 0
      by_place Less is = omega arith
      by_place Equal is =
          let same = alike_counted order rows key other is in
          omega (arith, counts, same)
      by_place Greater is = omega arith

  pub counted_less : IsTotalOrder cmp → (rows new : List (K × ℕ)) (key : K) (left : Option ℕ)
      → unwrap_or left 0 + 1 ≡ count_in cmp rows key
      → ((q : K) → lookup (is_at (cmp q)) new ≡ cond (is_at (cmp key) q) left (lookup (is_at (cmp q)) rows))
      → (other : K) → count_in cmp new other + cond (is_at (cmp key) other) 1 0 ≡ count_in cmp rows other
  counted_less order rows new key left counts found other =
      ap (λ (o : Option ℕ). unwrap_or o 0 + cond (is_at (cmp key) other) 1 0) (found other)
      ∙ by_place (cmp key other) refl
    where
      by_place : (o : Ordering) → cmp key other ≡ o
          → unwrap_or (cond (is_eq o) left (lookup (is_at (cmp other)) rows)) 0 + cond (is_eq o) 1 0
          ≡ count_in cmp rows other
      by_place Less is = omega arith
      by_place Equal is = counts ∙ alike_counted order rows key other is
      by_place Greater is = omega arith
