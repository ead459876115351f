-- The numbers of a range that pass a test: which they are, and what one more or one fewer does.
use Rattle.std.proofs.Common.{◌≡◌, ◌≢◌, ℕ, suc, zero, ◌+◌, ◌<◌, ◌≤◌, Bool, true, false, cond, List, [], ◌∷◌, refl}
use Rattle.std.proofs.Common.{arith, ap, sym, ◌∙◌, ⊎_elim, ◌⊎◌}
use Rattle.std.specs.List.{filter, range_with_len}
use Rattle.std.proofs.lemmas.Bool.{cases_eq, cases_Bool}
use Rattle.std.proofs.lemmas.Bool.Decides.{nat_tests}
use Rattle.iofd_words.specs.DeviceSet.{has_device, with_device, without_device, most_devices}

-- tests that agree on the range keep the same numbers
pub filter_alike : (p q : ℕ → Bool) (from n : ℕ) → ((d : ℕ) → from ≤ d → d < from + n → p d ≡ q d)
    → filter p (range_with_len from n) ≡ filter q (range_with_len from n)
filter_alike p q from zero same = refl
filter_alike p q from (suc n) same =
    let here : p from ≡ q from = same from (omega arith) (omega arith) in
    let rest = filter_alike p q (from + 1) n (λ d low high. same d (omega arith) (omega arith)) in
    cc

-- no number below the range is kept
pub has_device-below : (p : ℕ → Bool) (d from n : ℕ) → d < from
    → has_device (filter p (range_with_len from n)) d ≡ false
has_device-below p d from zero below = refl
has_device-below p d from (suc n) below =
    let rest = has_device-below p d (from + 1) n (omega arith) in
    grind (arith, nat_tests)

pub has_device-above : (p : ℕ → Bool) (d from n : ℕ) → from + n ≤ d
    → has_device (filter p (range_with_len from n)) d ≡ false
has_device-above p d from zero above = refl
has_device-above p d from (suc n) above =
    let rest = has_device-above p d (from + 1) n (omega arith) in
    grind (arith, nat_tests)

-- a number of the range is kept if it passes
within_step : (p : ℕ → Bool) (d e : ℕ) (rest : List ℕ) → e ≤ d → (d ≡ e → has_device rest d ≡ false)
    → (e < d → has_device rest d ≡ p d) → has_device (cond (p e) (e ∷ rest) rest) d ≡ p d
within_step p d e rest low here later =
    ⊎_elim
    (λ (same : d ≡ e). let none = here same in let like = ap p same in ⊎_elim
    (λ (passes : p e ≡ true). grind (arith, nat_tests))
    (λ (fails : p e ≡ false). grind (arith, nat_tests)) (cases_Bool (p e)))
    (λ (differ : d ≢ e). let rest_is = later (omega arith) in ⊎_elim (λ (passes : p e ≡ true). grind (arith, nat_tests))
    (λ (fails : p e ≡ false). grind (arith, nat_tests)) (cases_Bool (p e)))
    (cases_eq d e)

pub has_device-within : (p : ℕ → Bool) (d from n : ℕ) → from ≤ d → d < from + n
    → has_device (filter p (range_with_len from n)) d ≡ p d
has_device-within p d from zero low high = absurd (omega arith)
has_device-within p d from (suc n) low high =
    within_step p d from (filter p (range_with_len (from + 1) n)) low
    (λ same. has_device-below p d (from + 1) n (omega arith))
    (λ less. has_device-within p d (from + 1) n (omega arith) (omega arith))

-- what is below all comes first
with_device-below : (p : ℕ → Bool) (d from n : ℕ) → d < from
    → with_device d (filter p (range_with_len from n)) ≡ d ∷ filter p (range_with_len from n)
with_device-below p d from zero below = refl
with_device-below p d from (suc n) below =
    let rest = with_device-below p d (from + 1) n (omega arith) in
    grind (arith, nat_tests)

-- one more number is kept
with_first : (a b : Bool) (d : ℕ) (rest : List ℕ) → a ≡ true → with_device d rest ≡ d ∷ rest
    → with_device d (cond b (d ∷ rest) rest) ≡ cond a (d ∷ rest) rest
with_first a true d rest passes below = grind (arith, nat_tests)
with_first a false d rest passes below = grind (arith, nat_tests)

with_later : (a b : Bool) (d e : ℕ) (rest new : List ℕ) → a ≡ b → e < d → with_device d rest ≡ new
    → with_device d (cond b (e ∷ rest) rest) ≡ cond a (e ∷ new) new
with_later a true d e rest new same below later = grind (arith, nat_tests)
with_later a false d e rest new same below later = grind (arith, nat_tests)

pub with_device-filter : (p q : ℕ → Bool) (d from n : ℕ) → from ≤ d → d < from + n → q d ≡ true
    → ((e : ℕ) → from ≤ e → e ≢ d → q e ≡ p e)
    → with_device d (filter p (range_with_len from n)) ≡ filter q (range_with_len from n)
with_device-filter p q d from zero low high here others = absurd (omega arith)
with_device-filter p q d from (suc n) low high here others =
    ⊎_elim
    (λ (same : d ≡ from).
    let alike = filter_alike p q (from + 1) n (λ e above below. sym (others e (omega arith) (λ is. omega arith))) in
    let first = with_first (q from) (p from) from (filter p (range_with_len (from + 1) n)) (rw same at here)
    (with_device-below p from (from + 1) n (omega arith)) in
    rw same (first ∙ ap (λ rest. cond (q from) (from ∷ rest) rest) alike))
    (λ (differ : d ≢ from).
    with_later (q from) (p from) d from (filter p (range_with_len (from + 1) n))
    (filter q (range_with_len (from + 1) n)) (others from (omega arith) (λ is. differ (sym is))) (omega arith)
    (with_device-filter p q d (from + 1) n (omega arith) (omega arith) here (λ e above is. others e (omega arith) is)))
    (cases_eq d from)

-- one fewer is kept
without_step : (a b : Bool) (d e : ℕ) (rest new : List ℕ) → (e ≡ d → a ≡ false) → (e ≢ d → a ≡ b)
    → without_device d rest ≡ new → without_device d (cond b (e ∷ rest) rest) ≡ cond a (e ∷ new) new
without_step a true d e rest new here others later = grind (arith, nat_tests)
without_step a false d e rest new here others later =
    ⊎_elim (λ (same : e ≡ d). let kept = here same in grind (arith, nat_tests))
    (λ (differ : e ≢ d). let kept = others differ in grind (arith, nat_tests)) (cases_eq e d)

pub without_device-filter : (p q : ℕ → Bool) (d from n : ℕ) → q d ≡ false
    → ((e : ℕ) → from ≤ e → e < from + n → e ≢ d → q e ≡ p e)
    → without_device d (filter p (range_with_len from n)) ≡ filter q (range_with_len from n)
without_device-filter p q d from zero here others = refl
without_device-filter p q d from (suc n) here others =
    without_step (q from) (p from) d from (filter p (range_with_len (from + 1) n))
    (filter q (range_with_len (from + 1) n)) (λ same. rw same here)
    (λ differ. others from (omega arith) (omega arith) differ)
    (without_device-filter p q d (from + 1) n here (λ e low high differ. others e (omega arith) (omega arith) differ))

absent_filter : (p : ℕ → Bool) (d from n : ℕ) → ((e : ℕ) → from ≤ e → e < from + n → e ≢ d)
    → without_device d (filter p (range_with_len from n)) ≡ filter p (range_with_len from n)
absent_filter p d from zero others = refl
absent_filter p d from (suc n) others =
    without_step (p from) (p from) d from (filter p (range_with_len (from + 1) n))
    (filter p (range_with_len (from + 1) n))
    (λ same. absurd (others from (omega arith) (omega arith) same)) (λ differ. refl)
    (absent_filter p d (from + 1) n (λ e low high. others e (omega arith) (omega arith)))

-- what is not there need not be taken away
pub without_device-absent : (p : ℕ → Bool) (d from n : ℕ) → (d < from) ⊎ (from + n ≤ d)
    → without_device d (filter p (range_with_len from n)) ≡ filter p (range_with_len from n)
without_device-absent p d from n absent =
    absent_filter p d from n (⊎_elim (λ (below : d < from). λ e low high. omega arith)
    (λ (above : from + n ≤ d). λ e low high. omega arith) absent)

pub most_devices-is : most_devices ≡ 256
unfolding most_devices
most_devices-is = refl

-- where no number passes none is kept
pub filter_none : (p : ℕ → Bool) (from n : ℕ) → ((d : ℕ) → from ≤ d → d < from + n → p d ≡ false)
    → filter p (range_with_len from n) ≡ []
filter_none p from zero none = refl
filter_none p from (suc n) none = rw (none from (omega arith) (omega arith))
    (filter_none p (from + 1) n (λ d low high. none d (omega arith) (omega arith)))
