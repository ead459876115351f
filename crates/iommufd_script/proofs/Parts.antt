-- The first of the parts of a list between separators.
use Rattle.std.proofs.Common.{◌≡◌, inl, inr, ℕ, ◌+◌, ◌-◌, ◌<◌, ◌≤◌, Bool, true, false, not, cond, suc, eqb, get_or}
use Rattle.std.proofs.Common.{List, [], ◌∷◌, length, take, drop, refl, sym, ap, ◌∙◌, eq-eqb, arith}
use Rattle.std.proofs.lemmas.Bool.Decides.{nat_tests}
use Rattle.std.proofs.lemmas.Bool.{cases_lt, eqb-true, ne_eqb}
use Rattle.std.proofs.lemmas.List.{drop-drop, get_or-drop, length-drop, take_all}
use Rattle.std.proofs.lemmas.Simd.{run_in_chunk_fails, run_in_chunk_le, run_in_chunk_stops}
use Rattle.std.specs.Simd.Lanes.{chunk}
use Rattle.std.proofs.lemmas.List.Sums.{fails_before_first, passes_at_first, position_or_len_is}
use Rattle.std.proofs.lemmas.List.Splits.{slice_split_first, length-slice_split}
use Rattle.std.specs.List.{position_or_len, prefix_len, slice_split, onto_first}
use Rattle.iommufd_script.specs.Fields.{fields}
use Rattle.iommufd_script.specs.Lines.{lines}

-- where nothing passes, all is one part
pub one_part : (p : ℕ → Bool) (xs : List ℕ) → position_or_len p xs ≡ length xs → slice_split p xs ≡ xs ∷ []
one_part p [] e = refl
one_part p (x ∷ xs) e = grind (arith, nat_tests, one_part p xs)

-- the part before the first that passes, and those of what is behind it
pub first_part : (p : ℕ → Bool) (xs : List ℕ) → position_or_len p xs < length xs
    → slice_split p xs ≡ take (position_or_len p xs) xs ∷ slice_split p (drop 1 (drop (position_or_len p xs) xs))
first_part p xs within = slice_split_first p xs 0 within
    ∙ ap (λ (rest : List ℕ). take (position_or_len p xs) xs ∷ slice_split p rest)
    (ap (λ (n : ℕ). drop n xs) (omega arith) ∙ sym (drop-drop 1 (position_or_len p xs) xs))

-- the first place of a number
pub first_place : (n : ℕ) (xs : List ℕ) (i : ℕ) → i < length xs → ((k : ℕ) → k < i → get_or xs k 0 ≡ n → ⊥)
    → get_or xs i 0 ≡ n → i ≡ position_or_len (λ x. eqb x n) xs
first_place n xs i within before here =
    sym (position_or_len_is (λ x. eqb x n) xs i 0 (omega arith) (λ k h. ne_eqb (get_or xs k 0) n (before k h))
    (λ h. eq-eqb (get_or xs i 0) n here))

pub no_place : (n : ℕ) (xs : List ℕ) (i : ℕ) → i ≡ length xs → ((k : ℕ) → k < i → get_or xs k 0 ≡ n → ⊥)
    → length xs ≡ position_or_len (λ x. eqb x n) xs
no_place n xs i end before =
    sym (position_or_len_is (λ x. eqb x n) xs (length xs) 0 (omega arith)
    (λ k h. ne_eqb (get_or xs k 0) n (before k (omega arith))) (λ h. absurd (omega arith)))

-- A stride from a place on, before which the number doesn't stand: of the stride, so many come before the first.
abbrev free_before : ℕ → List ℕ → ℕ → Type 0
free_before n xs end = (k : ℕ) → k < end → get_or xs k 0 ≡ n → ⊥

pub further : (n : ℕ) (xs : List ℕ) (i stride r : ℕ) → i + stride ≤ length xs
    → r ≡ prefix_len (λ x. not (eqb x n)) (chunk i stride xs) → free_before n xs i → free_before n xs (i + r)
further n xs i stride r room counted before k inside here = elim (cases_lt k i) [
  | inl under ↦ before k under here
  | inr past ↦
      let fails = run_in_chunk_fails (λ x. eqb x n) xs i stride r 0 room counted k past inside in
      let equal = eq-eqb (get_or xs k 0) n here in absurd cc
]

pub at_most_stride : (n : ℕ) (xs : List ℕ) (i stride r : ℕ) → i + stride ≤ length xs
    → r ≡ prefix_len (λ x. not (eqb x n)) (chunk i stride xs) → r ≤ stride
at_most_stride n xs i stride r room counted = run_in_chunk_le (λ x. eqb x n) xs i stride r 0 room counted

pub past_stride : (n : ℕ) (xs : List ℕ) (i r : ℕ) → i + 16 ≤ length xs
    → r ≡ prefix_len (λ x. not (eqb x n)) (chunk i 16 xs) → 16 ≤ r → free_before n xs i → free_before n xs (i + 16)
past_stride n xs i r room counted long before =
    let most = at_most_stride n xs i 16 r room counted in
    let all : 16 ≡ prefix_len (λ x. not (eqb x n)) (chunk i 16 xs) = omega (arith, most, counted) in
    further n xs i 16 16 room all before

pub at_hit : (n : ℕ) (xs : List ℕ) (i stride r : ℕ) → i + stride ≤ length xs
    → r ≡ prefix_len (λ x. not (eqb x n)) (chunk i stride xs) → r < stride → get_or xs (i + r) 0 ≡ n
at_hit n xs i stride r room counted short =
    eqb-true (get_or xs (i + r) 0) n (run_in_chunk_stops (λ x. eqb x n) xs i stride r 0 room counted short)

-- what is left behind such a place tells the first one of all
pub of_rest : (n : ℕ) (xs : List ℕ) (i r : ℕ) → i ≤ length xs → free_before n xs i
    → r ≡ position_or_len (λ x. eqb x n) (take (length xs - i) (drop i xs))
    → r ≤ length (take (length xs - i) (drop i xs))
    → i + r ≡ position_or_len (λ x. eqb x n) xs
of_rest n xs i r within before place most =
    let p = λ (x : ℕ). eqb x n in
    let rest : take (length xs - i) (drop i xs) ≡ drop i xs =
    take_all (length xs - i) (drop i xs) (omega (arith, length-drop i xs)) in
    let here : r ≡ position_or_len p (drop i xs) = place ∙ ap (position_or_len p) rest in
    let long : length (take (length xs - i) (drop i xs)) ≡ length xs - i = ap length rest ∙ length-drop i xs in
    sym (position_or_len_is p xs (i + r) 0 (omega (arith, long))
    (λ k h. elim (cases_lt k i) [
      | inl under ↦ ne_eqb (get_or xs k 0) n (before k under)
      | inr past ↦
          sym (ap p (get_or-drop i xs (k - i) 0 ∙ ap (λ (j : ℕ). get_or xs j 0) (omega arith)))
          ∙ fails_before_first p (drop i xs) (k - i) 0 (omega (arith, here))
    ])
    (λ h. sym (ap p (get_or-drop i xs r 0))
    ∙ ap (λ (j : ℕ). p (get_or (drop i xs) j 0)) here
    ∙ passes_at_first p (drop i xs) 0 (omega (arith, here, length-drop i xs))))

-- there is always a part
pub some_left : (line : List ℕ) → false ≡ eqb (length (fields line)) 0
some_left line = let some = length-slice_split (λ c. eqb c 32) line in grind (arith, nat_tests)

-- the text's last line, and its first one
pub last_line : (text : List ℕ) → 0 < length text → position_or_len (λ c. eqb c 10) text ≡ length text
    → lines text ≡ text ∷ []
last_line [] some e = absurd (omega arith)
last_line (c ∷ []) some e = grind (arith, nat_tests)
last_line (c ∷ d ∷ text) some e = grind (arith, nat_tests, last_line (d ∷ text))

first_step : (c : ℕ) (text : List ℕ) (at : ℕ) (b : Bool)
    → (at < length text → lines text ≡ take at text ∷ lines (drop 1 (drop at text)))
    → cond (not b) (1 + at) 0 < length (c ∷ text)
    → cond b ([] ∷ lines text) (onto_first c (lines text)) ≡ take (cond (not b) (1 + at) 0) (c ∷ text)
    ∷ lines (drop 1 (drop (cond (not b) (1 + at) 0) (c ∷ text)))
first_step c text at true rest within = refl
first_step c text at false rest within =
    let inside : at < length text = omega arith in
    let past : 1 + at ≡ suc at = omega arith in
    ap (onto_first c) (rest inside) ∙ sym (ap (λ (k : ℕ). take k (c ∷ text) ∷ lines (drop 1 (drop k (c ∷ text)))) past)

pub first_line : (text : List ℕ) → position_or_len (λ c. eqb c 10) text < length text
    → lines text ≡ take (position_or_len (λ c. eqb c 10) text) text
    ∷ lines (drop 1 (drop (position_or_len (λ c. eqb c 10) text) text))
first_line [] within = absurd (omega arith)
first_line (c ∷ text) within =
    first_step c text (position_or_len (λ c. eqb c 10) text) (eqb c 10) (first_line text) within
