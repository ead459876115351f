-- Merged spans of the same numbers are the same spans.
use Rattle.std.proofs.Common.{◌≡◌, ℕ, ◌+◌, ◌<◌, ◌≤◌, List, [], ◌∷◌, refl, ap, ◌∙◌, arith, ⊎_elim}
use Rattle.std.proofs.lemmas.Bool.{cases_lt}
use Rattle.std.proofs.lemmas.Bool.Decides.{nat_tests}
use Rattle.iofd_words.specs.Bounds.{Bounds}
use Rattle.iofd_words.specs.Ranges.{AreMergedFrom, in_spans}
use Rattle.iova_ranges.proofs.Merged.{below-out}

abbrev pub SameNumbers : List Bounds → List Bounds → Type 0
SameNumbers xs ys = (n : ℕ) → in_spans xs n ≡ in_spans ys n

-- neither begins below the other
first-same : (a b : ℕ) (x y : Bounds) (xs ys : List Bounds) → AreMergedFrom a (x ∷ xs) → AreMergedFrom b (y ∷ ys)
    → SameNumbers (x ∷ xs) (y ∷ ys) → y.first ≤ x.first
first-same a b x y xs ys x_merged y_merged same =
    ⊎_elim
    (λ (below : x.first < y.first).
    let is = same x.first in
    let own = x_merged.1 in
    let y_own = y_merged.1 in
    let out = below-out (y.last + 2) ys y_merged.2 x.first (omega arith) in
    absurd (grind (arith, nat_tests)))
    (λ (at : y.first ≤ x.first). at)
    (cases_lt x.first y.first)

-- nor ends below it
last-same : (a b : ℕ) (x y : Bounds) (xs ys : List Bounds) → AreMergedFrom a (x ∷ xs) → AreMergedFrom b (y ∷ ys)
    → SameNumbers (x ∷ xs) (y ∷ ys) → y.first ≤ x.first → y.last ≤ x.last
last-same a b x y xs ys x_merged y_merged same begins =
    ⊎_elim
    (λ (below : x.last < y.last).
    let is = same (x.last + 1) in
    let own = x_merged.1 in
    let out = below-out (x.last + 2) xs x_merged.2 (x.last + 1) (omega arith) in
    absurd (grind (arith, nat_tests)))
    (λ (at : y.last ≤ x.last). at)
    (cases_lt x.last y.last)

rest-same : (a b : ℕ) (x y : Bounds) (xs ys : List Bounds) → AreMergedFrom a (x ∷ xs) → AreMergedFrom b (y ∷ ys)
    → SameNumbers (x ∷ xs) (y ∷ ys) → x.first ≡ y.first → x.last ≡ y.last → SameNumbers xs ys
rest-same a b x y xs ys x_merged y_merged same first last n =
    let is = same n in
    ⊎_elim
    (λ (low : n < x.last + 2).
    let x_out = below-out (x.last + 2) xs x_merged.2 n low in
    let y_out = below-out (y.last + 2) ys y_merged.2 n (omega arith) in
    cc)
    (λ (high : x.last + 2 ≤ n). grind (arith, nat_tests))
    (cases_lt n (x.last + 2))

mirrored : (xs ys : List Bounds) → SameNumbers xs ys → SameNumbers ys xs
mirrored xs ys same n = let is = same n in cc

ends-same : (x y : Bounds) → x.first ≡ y.first → x.last ≡ y.last → x ≡ y
ends-same x y first last =
    let start : ℕ → Bounds = λ n. record { first = n; last = x.last } in
    let end : ℕ → Bounds = λ n. record { first = y.first; last = n } in
    ap start first ∙ ap end last

pub spans-same : (a b : ℕ) (xs ys : List Bounds) → AreMergedFrom a xs → AreMergedFrom b ys → SameNumbers xs ys → xs ≡ ys
spans-same a b [] [] x_merged y_merged same = refl
spans-same a b [] (y ∷ ys) x_merged y_merged same =
    let is = same y.first in let own = y_merged.1 in absurd (grind (arith, nat_tests))
spans-same a b (x ∷ xs) [] x_merged y_merged same =
    let is = same x.first in let own = x_merged.1 in absurd (grind (arith, nat_tests))
spans-same a b (x ∷ xs) (y ∷ ys) x_merged y_merged same =
    let back = mirrored (x ∷ xs) (y ∷ ys) same in
    let low = first-same a b x y xs ys x_merged y_merged same in
    let high = first-same b a y x ys xs y_merged x_merged back in
    let first : x.first ≡ y.first = omega arith in
    let above = last-same a b x y xs ys x_merged y_merged same low in
    let under = last-same b a y x ys xs y_merged x_merged back high in
    let last : x.last ≡ y.last = omega arith in
    let rest = spans-same (x.last + 2) (y.last + 2) xs ys x_merged.2 y_merged.2
    (rest-same a b x y xs ys x_merged y_merged same first last) in
    ap (λ (z : Bounds). z ∷ xs) (ends-same x y first last) ∙ ap (λ zs. y ∷ zs) rest
