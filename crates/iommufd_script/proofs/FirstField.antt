-- The first field of a line, which is looked at byte by byte.
use Rattle.std.proofs.Common.{◌≡◌, ◌⊎◌, inl, inr, ℕ, zero, suc, ◌+◌, ◌-◌, ◌^◌, ◌<◌, ◌≤◌, Bool, true, false, not}
use Rattle.std.proofs.Common.{eqb, nat_le, cond, get_or, List, [], ◌∷◌, length, take, drop, Option, Some, None, refl}
use Rattle.std.proofs.Common.{option_map, sym, ap, ◌∙◌, eq-eqb, arith}
use Rattle.std.proofs.lemmas.Bool.{cases_lt, eqb-true, ne_eqb}
use Rattle.std.proofs.lemmas.Bool.Decides.{nat_tests}
use Rattle.std.proofs.lemmas.List.{drop-drop, get_or-take, length-drop, length-take-le, take_all}
use Rattle.std.proofs.lemmas.List.Sums.{passes_at_first, position_or_len_is}
use Rattle.std.specs.Char.{digit_value}
use Rattle.std.specs.Str.Parse.{digits_value}
use Rattle.iommufd_script.specs.Digits.{are_digits, decimal, hexadecimal, number_of}
use Rattle.iommufd_script.specs.Fields.{field_end, field_value, fields, first_value}
use Rattle.iommufd_script.proofs.Numerals.{hexadecimal_is, no_digit, nothing, refused, whole, with_next}
use Rattle.iommufd_script.proofs.Parts.{first_part, one_part}

take_twice : (n m : ℕ) (xs : List ℕ) → n ≤ m → take n (take m xs) ≡ take n xs
take_twice zero m xs h = refl
take_twice (suc n) zero xs h = absurd (omega arith)
take_twice (suc n) (suc m) [] h = refl
take_twice (suc n) (suc m) (x ∷ xs) h = ap (λ (ys : List ℕ). x ∷ ys) (take_twice n m xs (omega arith))

at_most : (b : Bool) (n m : ℕ) → n ≤ m → cond (not b) (1 + n) 0 ≤ suc m
at_most true n m h = omega arith
at_most false n m h = omega arith

pub ends_within : (line : List ℕ) → field_end line ≤ length line
ends_within [] = omega arith
ends_within (c ∷ line) = at_most (eqb c 32) (field_end line) (length line) (ends_within line)

none_of : (line : List ℕ) (value : List ℕ → Option ℕ) → value (take (field_end line) line) ≡ None
    → None ≡ field_value value line
none_of line value none = sym (ap (option_map (λ (n : ℕ). (n, field_end line))) none)

-- a number of more digits than 16
too_long : (text : List ℕ) → 16 < length text → hexadecimal 64 text ≡ None
too_long text long =
    let over : nat_le (length text) 16 ≡ false = grind (arith, nat_tests) in
    ap (λ (b : Bool). cond b (number_of 16 64 text) None) over

no_number : (b : Bool) (n : Option ℕ) → n ≡ None → cond b n None ≡ None
no_number true n none = none
no_number false n none = refl

pub digit_no_space : (base c : ℕ) → base ≤ 16 → digit_value c < base → c ≡ 32 → ⊥
digit_no_space base c few digit space = let none = ap digit_value space in absurd (omega (arith, few, digit, none))

space_or_not : (c : ℕ) (b : Bool) → eqb c 32 ≡ b → (c ≡ 32) ⊎ (c ≡ 32 → ⊥)
space_or_not c true is = inl (eqb-true c 32 is)
space_or_not c false is = inr (λ same. let space = eq-eqb c 32 same in absurd cc)

-- where no byte before this place is a space
module _ (line : List ℕ) (end : ℕ) (within : end ≤ length line)
    (before : (k : ℕ) → k < end → get_or line k 0 ≡ 32 → ⊥) where
  pub before_next : end < length line → (get_or line end 0 ≡ 32 → ⊥) → (k : ℕ) → k < end + 1 → get_or line k 0 ≡ 32
      → ⊥
  before_next inside other k under space = elim (cases_lt k end) [
    | inl lower ↦ before k lower space
    | inr here ↦
        let same : k ≡ end = omega (arith, here, under) in
        other (sym (ap (λ (i : ℕ). get_or line i 0) same) ∙ space)
  ]

  -- it ends there where a space stands, or the line ends
  ends : (end < length line → get_or line end 0 ≡ 32) → field_end line ≡ end
  ends space = position_or_len_is (λ c. eqb c 32) line end 0 within (λ k h. ne_eqb (get_or line k 0) 32 (before k h))
      (λ h. eq-eqb (get_or line end 0) 32 (space h))

  -- and goes on else
  goes_on : end < length line → (get_or line end 0 ≡ 32 → ⊥) → end < field_end line
  goes_on inside other = elim (cases_lt end (field_end line)) [
    | inl on ↦ on
    | inr over ↦
        let space = eqb-true (get_or line (field_end line) 0) 32
        (passes_at_first (λ c. eqb c 32) line 0 (omega (arith, over, inside))) in
        absurd (before_next inside other (field_end line) (omega (arith, over)) space)
  ]

  module _ (inside : end < length line) (other : get_or line end 0 ≡ 32 → ⊥) where
    longer : end < length (take (field_end line) line)
    longer =
        let long = length-take-le (field_end line) line (ends_within line) in
        omega (arith, long, goes_on inside other)

    byte_is : get_or (take (field_end line) line) end 0 ≡ get_or line end 0
    byte_is = get_or-take (field_end line) line end 0 (goes_on inside other)

    front_is : take end (take (field_end line) line) ≡ take end line
    front_is = take_twice end (field_end line) line (omega (arith, goes_on inside other))

    -- a number that grows too large
    pub no_decimal : (n : ℕ) → n ≡ digits_value 10 (take end line) → with_next 10 n (get_or line end 0) ≡ None
        → None ≡ field_value (decimal 64) line
    no_decimal n value none =
        none_of line (decimal 64) (refused 10 end n (take (field_end line) line) (omega arith) longer
        (value ∙ sym (ap (digits_value 10) front_is)) (ap (with_next 10 n) byte_is ∙ none))

    -- a byte that is no digit
    pub stops_decimal : 10 ≤ digit_value (get_or line end 0) → None ≡ field_value (decimal 64) line
    stops_decimal large =
        none_of line (decimal 64) (no_digit 10 end (take (field_end line) line) longer
        (omega (arith, large, ap digit_value byte_is)))

    pub stops_hexadecimal : 16 ≤ digit_value (get_or line end 0) → None ≡ field_value (hexadecimal 64) line
    stops_hexadecimal large =
        let text = take (field_end line) line in
        let none = no_digit 16 end text longer (omega (arith, large, ap digit_value byte_is)) in
        none_of line (hexadecimal 64) (no_number (nat_le (length text) 16) (number_of 16 64 text) none)

    -- a byte too many
    pub one_too_many : end ≡ 16 → None ≡ field_value (hexadecimal 64) line
    one_too_many all =
        none_of line (hexadecimal 64) (too_long (take (field_end line) line) (omega (arith, longer, all)))

  module _ (space : end < length line → get_or line end 0 ≡ 32) where
    field_is : take (field_end line) line ≡ take end line
    field_is = ap (λ (k : ℕ). take k line) (ends space)

    long_so : length (take end line) ≡ end
    long_so = length-take-le end line within

    -- an empty field
    empty_decimal : end ≡ 0 → None ≡ field_value (decimal 64) line
    empty_decimal none =
        none_of line (decimal 64) (ap (decimal 64) field_is
        ∙ nothing 10 (take end line) (eq-eqb (length (take end line)) 0 (long_so ∙ none)))

    empty_hexadecimal : end ≡ 0 → None ≡ field_value (hexadecimal 64) line
    empty_hexadecimal none =
        none_of line (hexadecimal 64) (ap (hexadecimal 64) field_is
        ∙ sym (hexadecimal_is (take end line) (omega (arith, long_so, none)))
        ∙ nothing 16 (take end line) (eq-eqb (length (take end line)) 0 (long_so ∙ none)))

    some_of : (value : List ℕ → Option ℕ) (n : ℕ) → Some n ≡ value (take end line)
        → Some (n, end) ≡ field_value value line
    some_of value n is =
        ap (option_map (λ (m : ℕ). (m, end))) is
        ∙ ap (λ (k : ℕ). option_map (λ (m : ℕ). (m, k)) (value (take k line))) (sym (ends space))

    some_digits : (base n : ℕ) → eqb end 0 ≡ false → are_digits base (take end line) ≡ true
        → n ≡ digits_value base (take end line) → n < 2 ^ 64 → Some n ≡ number_of base 64 (take end line)
    some_digits base n some digits value small =
        let all = take_twice end end line (omega arith) in
        whole base end n (take end line) (ap (λ (k : ℕ). eqb k 0) long_so ∙ some) (omega (arith, long_so))
        (ap (are_digits base) all ∙ digits) (value ∙ sym (ap (digits_value base) all)) small

    pub is_decimal : (n : ℕ) → eqb end 0 ≡ false → are_digits 10 (take end line) ≡ true
        → n ≡ digits_value 10 (take end line) → n < 2 ^ 64 → Some (n, end) ≡ field_value (decimal 64) line
    is_decimal n some digits value small = some_of (decimal 64) n (some_digits 10 n some digits value small)

    pub is_hexadecimal : (n : ℕ) → end ≤ 16 → eqb end 0 ≡ false → are_digits 16 (take end line) ≡ true
        → n ≡ digits_value 16 (take end line) → n < 2 ^ 64 → Some (n, end) ≡ field_value (hexadecimal 64) line
    is_hexadecimal n few some digits value small =
        some_of (hexadecimal 64) n (some_digits 16 n some digits value small
        ∙ hexadecimal_is (take end line) (omega (arith, long_so, few)))

  -- a line that doesn't begin with a digit
  pub begins_no_decimal : end ≡ 0 → (end < length line → 10 ≤ digit_value (get_or line end 0))
      → None ≡ field_value (decimal 64) line
  begins_no_decimal none stops = elim (cases_lt end (length line)) [
    | inl inside ↦ elim (space_or_not (get_or line end 0) (eqb (get_or line end 0) 32) refl) [
      | inl space ↦ empty_decimal (λ _. space) none
      | inr other ↦ stops_decimal inside other (stops inside)
    ]
    | inr past ↦ empty_decimal (λ inside. absurd (omega (arith, inside, past))) none
  ]

  pub begins_no_hexadecimal : end ≡ 0 → (end < length line → 16 ≤ digit_value (get_or line end 0))
      → None ≡ field_value (hexadecimal 64) line
  begins_no_hexadecimal none stops = elim (cases_lt end (length line)) [
    | inl inside ↦ elim (space_or_not (get_or line end 0) (eqb (get_or line end 0) 32) refl) [
      | inl space ↦ empty_hexadecimal (λ _. space) none
      | inr other ↦ stops_hexadecimal inside other (stops inside)
    ]
    | inr past ↦ empty_hexadecimal (λ inside. absurd (omega (arith, inside, past))) none
  ]

-- a line of one field
pub all_one : (line : List ℕ) (end : ℕ) → end ≡ field_end line → end ≡ length line → fields line ≡ take end line ∷ []
all_one line end place all =
    one_part (λ c. eqb c 32) line (sym place ∙ all) ∙ ap (λ (text : List ℕ). text ∷ [])
    (sym (take_all end line (omega (arith, all))))

-- the first field of several, and those behind it
pub behind_first : (line : List ℕ) (end : ℕ) → end ≡ field_end line → (end ≡ length line → ⊥)
    → fields line ≡ take end line ∷ fields (take (length line - (end + 1)) (drop (end + 1) line))
behind_first line end place more =
    let inside : field_end line < length line = omega (arith, ends_within line, place, more) in
    let rest : take (length line - (end + 1)) (drop (end + 1) line) ≡ drop (end + 1) line =
    take_all (length line - (end + 1)) (drop (end + 1) line) (omega (arith, length-drop (end + 1) line)) in
    let here : drop (end + 1) line ≡ drop 1 (drop end line) =
    ap (λ (k : ℕ). drop k line) (omega arith) ∙ sym (drop-drop 1 end line) in
    first_part (λ c. eqb c 32) line inside
    ∙ ap (λ (k : ℕ). take k line ∷ fields (drop 1 (drop k line))) (sym place)
    ∙ ap (λ (text : List ℕ). take end line ∷ fields text) (sym (rest ∙ here))

first_split : (line : List ℕ) → (others : List (List ℕ)) × (fields line ≡ take (field_end line) line ∷ others)
first_split line = elim (cases_lt (field_end line) (length line)) [
  | inl inside ↦ (fields (drop 1 (drop (field_end line) line)), first_part (λ c. eqb c 32) line inside)
  | inr past ↦
      let all : field_end line ≡ length line = omega (arith, ends_within line, past) in
      ([], all_one line (field_end line) refl all)
]

none_mapped : (n : Option ℕ) (end : ℕ) (others : List (List ℕ))
    → ◌≡◌ {A = Option (ℕ × ℕ)} None (option_map (λ (m : ℕ). (m, end)) n)
    → ◌≡◌ {A = Option (ℕ × List (List ℕ))} None (option_map (λ (m : ℕ). (m, others)) n)
none_mapped None end others none = refl
none_mapped (Some n) end others none = absurd cc

-- a first field that stands for nothing
pub no_value : (value : List ℕ → Option ℕ) (line : List ℕ) → None ≡ field_value value line
    → None ≡ first_value value (fields line)
no_value value line none =
    let split = first_split line in
    none_mapped (value (take (field_end line) line)) (field_end line) split.0 none
    ∙ sym (ap (first_value value) split.1)
