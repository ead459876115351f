-- The number that digits spell never falls as more digits come.
use Rattle.std.proofs.Common.{◌&&◌, ◌⊎◌, Bool, inl, inr, ◌≡◌, ℕ, ◌+◌, ◌*◌, ◌^◌, ◌<◌, ◌≤◌, eqb, nat_lt, nat_le, cond}
use Rattle.std.proofs.Common.{true, false, get_or, List, [], ◌∷◌, ◌++◌, length, take, drop, Option, Some, None, refl}
use Rattle.std.proofs.Common.{sym, ap, ◌∙◌, arith}
use Rattle.std.proofs.lemmas.Bool.{eqb-true, le-leb, le-ltb, lt-ltb}
use Rattle.std.proofs.lemmas.Grind.{pow_more}
use Rattle.std.proofs.Math.Nat.{pow-le-pow_right}
use Rattle.std.proofs.lemmas.Bool.Decides.{nat_tests}
use Rattle.std.proofs.lemmas.List.{take-append-drop, take_all}
use Rattle.std.proofs.lemmas.List.Folds.{list_all_at, list_all_more}
use Rattle.std.proofs.lemmas.Int.Digits.{digits_value_more}
use Rattle.std.specs.Char.{digit_value}
use Rattle.std.specs.Str.Parse.{digits_value, digits_value_after}
use Rattle.iommufd_script.specs.Digits.{are_digits, number_of, hexadecimal}
use Rattle.iommufd_script.proofs.Bools.{and-both}

le-mul : (n base : ℕ) → 0 < base → n ≤ n * base
le-mul n base h = grind arith

after-ge : (base n : ℕ) (text : List ℕ) → 0 < base → n ≤ digits_value_after base n text
after-ge base n [] h = omega arith
after-ge base n (c ∷ text) h =
    let step = le-mul n base h in let rest = after-ge base (n * base + digit_value c) text h in omega arith

after-append : (base n : ℕ) (front back : List ℕ)
    → digits_value_after base n (front ++ back) ≡ digits_value_after base (digits_value_after base n front) back
after-append base n [] back = refl
after-append base n (c ∷ front) back = after-append base (n * base + digit_value c) front back

pub front-le : (base i : ℕ) (text : List ℕ) → 0 < base → digits_value base (take i text) ≤ digits_value base text
front-le base i text h =
    let whole = after-append base 0 (take i text) (drop i text) in
    let more = after-ge base (digits_value base (take i text)) (drop i text) h in
    let joined : digits_value base (take i text ++ drop i text) ≡ digits_value base text =
    ap (digits_value base) (take-append-drop i text) in
    omega (arith, whole, more, joined)

-- the number with one more digit, where the byte is one and the number stays below 2^64
abbrev pub with_next : ℕ → ℕ → ℕ → Option ℕ
with_next base n c = cond (nat_lt (digit_value c) base && nat_lt (n * base + digit_value c) (2 ^ 64))
    (Some (n * base + digit_value c)) None

refused_for : (base n c : ℕ) → with_next base n c ≡ None → (base ≤ digit_value c) ⊎ (2 ^ 64 ≤ n * base + digit_value c)
refused_for base n c e = grind (arith, nat_tests)

taken_as : (base n c next : ℕ) → with_next base n c ≡ Some next
    → (digit_value c < base) × (next ≡ n * base + digit_value c) × (next < 2 ^ 64)
taken_as base n c next e = grind (arith, nat_tests)

none_for : (b c d : Bool) (n : ℕ) → (c ≡ false) ⊎ (d ≡ false) → cond (b && c && d) (Some n) None ≡ None
none_for b c d n h = grind arith

-- a byte that is no digit
pub no_digit : (base i : ℕ) (text : List ℕ) → i < length text → base ≤ digit_value (get_or text i 0)
    → number_of base 64 text ≡ None
unfolding number_of
no_digit base i text within large =
    let here : nat_lt (digit_value (get_or text i 0)) base ≡ false =
    le-ltb (digit_value (get_or text i 0)) base large in
    none_for (nat_lt 0 (length text)) (are_digits base text) (nat_lt (digits_value base text) (2 ^ 64))
    (digits_value base text)
    (inl (list_all_at (λ c. nat_lt (digit_value c) base) text i 0 within here))

-- digits whose first ones spell too much spell too much
too_large : (base i n : ℕ) (text : List ℕ) → 0 < base → i < length text → n ≡ digits_value base (take i text)
    → 2 ^ 64 ≤ n * base + digit_value (get_or text i 0) → number_of base 64 text ≡ None
unfolding number_of
too_large base i n text positive within so_far large =
    let more = digits_value_more base text i within in
    let front = front-le base (i + 1) text positive in
    let product : n * base ≡ digits_value base (take i text) * base = ap (λ (m : ℕ). m * base) so_far in
    let past : nat_lt (digits_value base text) (2 ^ 64) ≡ false =
    le-ltb (digits_value base text) (2 ^ 64) (omega (arith, more, front, product, large)) in
    none_for (nat_lt 0 (length text)) (are_digits base text) (nat_lt (digits_value base text) (2 ^ 64))
    (digits_value base text) (inr past)

pub refused : (base i n : ℕ) (text : List ℕ) → 0 < base → i < length text → n ≡ digits_value base (take i text)
    → with_next base n (get_or text i 0) ≡ None → number_of base 64 text ≡ None
refused base i n text positive within so_far none = elim (refused_for base n (get_or text i 0) none) [
  | inl large ↦ no_digit base i text within large
  | inr large ↦ too_large base i n text positive within so_far large
]

-- what is known of the digits so far, with one more
pub one_more : (base i n : ℕ) (text : List ℕ) → i < length text → are_digits base (take i text) ≡ true
    → n ≡ digits_value base (take i text)
    → digit_value (get_or text i 0) < base
    → (are_digits base (take (i + 1) text) ≡ true)
    × (n * base + digit_value (get_or text i 0) ≡ digits_value base (take (i + 1) text))
one_more base i n text within digits so_far small =
    let more = digits_value_more base text i within in
    let product : n * base ≡ digits_value base (take i text) * base = ap (λ (m : ℕ). m * base) so_far in
    let here : nat_lt (digit_value (get_or text i 0)) base ≡ true =
    lt-ltb (digit_value (get_or text i 0)) base small in (
      list_all_more (λ c. nat_lt (digit_value c) base) text i 0 within
          ∙ and-both (are_digits base (take i text)) (nat_lt (digit_value (get_or text i 0)) base) digits here,
      omega (arith, more, product),
    )

pub taken : (base i n next : ℕ) (text : List ℕ) → i < length text → are_digits base (take i text) ≡ true
    → n ≡ digits_value base (take i text)
    → with_next base n (get_or text i 0) ≡ Some next
    → (are_digits base (take (i + 1) text) ≡ true) × (next ≡ digits_value base (take (i + 1) text)) × (next < 2 ^ 64)
taken base i n next text within digits so_far some =
    let sum = taken_as base n (get_or text i 0) next some in
    let both = one_more base i n text within digits so_far sum.0 in
    (both.0, sum.1 ∙ both.1, sum.2)

something : (text : List ℕ) → eqb (length text) 0 ≡ false → nat_lt 0 (length text) ≡ true
something [] some = absurd cc
something (c ∷ text) some = lt-ltb 0 (length (c ∷ text)) (omega arith)

pub whole : (base i n : ℕ) (text : List ℕ) → eqb (length text) 0 ≡ false → length text ≤ i
    → are_digits base (take i text) ≡ true → n ≡ digits_value base (take i text)
    → n < 2 ^ 64 → Some n ≡ number_of base 64 text
unfolding number_of
whole base i n text some past digits so_far small =
    let all : take i text ≡ text = take_all i text past in
    let is-n : digits_value base text ≡ n = sym (so_far ∙ ap (digits_value base) all) in
    let are : are_digits base text ≡ true = sym (ap (are_digits base) all) ∙ digits in
    let fits : nat_lt n (2 ^ 64) ≡ true = lt-ltb n (2 ^ 64) small in
    let any = something text some in
    rw (is-n, are, fits, any) refl

-- a text of at most 16 digits
pub hexadecimal_is : (text : List ℕ) → length text ≤ 16 → number_of 16 64 text ≡ hexadecimal 64 text
hexadecimal_is text few = let short : nat_le (length text) 16 ≡ true = le-leb (length text) 16 few in rw short refl

pub nothing : (base : ℕ) (text : List ℕ) → eqb (length text) 0 ≡ true → number_of base 64 text ≡ None
unfolding number_of
nothing base [] none = refl
nothing base (c ∷ text) none = let zero = eqb-true (length (c ∷ text)) 0 none in absurd (omega (arith, zero))

-- fewer than 16 hexadecimal digits leave room for one more
pub room : (i n : ℕ) → i < 16 → n < 16 ^ i → n < 2 ^ 60
room i n few small = let most : 16 ^ i ≤ 16 ^ 15 =
    pow-le-pow_right {n = 16} (omega arith) {i = i} {j = 15} (omega arith) in omega (arith, small, most)

pub stays_small : (i n d : ℕ) → n < 16 ^ i → d < 16 → n * 16 + d < 16 ^ (i + 1)
stays_small i n d small digit = let more = pow_more 16 i in omega (arith, small, digit, more)

pub at_last : (i n : ℕ) → i ≤ 16 → n < 16 ^ i → n < 2 ^ 64
at_last i n few small = let most : 16 ^ i ≤ 16 ^ 16 =
    pow-le-pow_right {n = 16} (omega arith) {i = i} {j = 16} few in omega (arith, small, most)
