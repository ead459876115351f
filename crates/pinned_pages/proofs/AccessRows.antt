-- The rows of a map by rising index, told by what the map finds.
use Rattle.std.proofs.Common.{◌≡◌, ◌≢◌, ℕ, zero, suc, ◌+◌, ◌<◌, ◌≤◌, ◌&&◌, Bool, true, false, cond, eqb, ltb, Option}
use Rattle.std.proofs.Common.{Some}
use Rattle.std.proofs.Common.{None, List, [], ◌∷◌, length, refl, sym, ap, ◌∙◌, arith, ⊎_elim, subst}
use Rattle.std.specs.Prelude.{is_some, Result, Ok, Err, T}
use Rattle.std.specs.Cmp.{nat_cmp_total, unsigned_ties}
use Rattle.std.specs.FinMap.{nat_cmp-IsAntisymmetric}
use Rattle.std.specs.FinMap.Entries.{find, find-put, is_sorted, is_sorted-put, same_entries, below_all}
use Rattle.std.specs.List.{AllByRecursion, IsDistinct, count_by, range_with_len}
use Rattle.std.specs.Map.{keys_of, lookup, set_value}
use Rattle.std.specs.Ordering.{nat_cmp, eq_by_cmp, is_lt}
use Rattle.std.specs.Result.{IsOk, OnOk}
use Rattle.std.proofs.lemmas.Bool.{and_parts, cases_Bool, cases_eq, eqb-true}
use Rattle.std.proofs.lemmas.Bool.Decides.{nat_tests}
use Rattle.std.proofs.lemmas.List.Sums.{sum_by-cons}
use Rattle.std.proofs.lemmas.Map.Keys.{IsDistinct-head, IsDistinct-tail}
use Rattle.pinned_pages.specs.Access.{AccessRows, are_counted, rising_rows, row_at}
use Rattle.pinned_pages.specs.declared.access_pins.AccessPin.{AccessPin}

abbrev pub Entries : Type 0
Entries = List (ℕ × AccessPin)

-- ---- what is found

as_find : (q : ℕ) (es : Entries) → row_at es q ≡ find nat_cmp q es
as_find q [] = refl
as_find q (e ∷ es) = λ i. cond (unsigned_ties q e.0 i) (Some e.1) (as_find q es i)

pub sorted : (es : Entries) → T (is_sorted nat_cmp (rising_rows es))
sorted [] = tt
sorted (e ∷ es) = is_sorted-put nat_cmp nat_cmp_total e.0 e.1 (rising_rows es) (sorted es)

found_as : (q : ℕ) (es : Entries) → find nat_cmp q (rising_rows es) ≡ find nat_cmp q es
found_as q [] = refl
found_as q (e ∷ es) = find-put nat_cmp nat_cmp_total q e.0 e.1 (rising_rows es)
    ∙ ap (λ rest. cond (eq_by_cmp nat_cmp q e.0) (Some e.1) rest) (found_as q es)

-- a map finds what its rows tell
pub row_found : (es : Entries) (q : ℕ) → row_at (rising_rows es) q ≡ row_at es q
row_found es q = as_find q (rising_rows es) ∙ found_as q es ∙ sym (as_find q es)

pub same_rows : (es fs : Entries) → ((q : ℕ) → row_at fs q ≡ row_at es q) → rising_rows fs ≡ rising_rows es
same_rows es fs same =
    same_entries nat_cmp nat_cmp_total nat_cmp-IsAntisymmetric (rising_rows fs) (rising_rows es) (sorted fs) (sorted es)
    (λ q. found_as q fs ∙ sym (as_find q fs) ∙ same q ∙ as_find q es ∙ sym (found_as q es))

-- ---- how many there are

-- a key that differs from all isn't found
not_among : (k : ℕ) (es : Entries) → AllByRecursion (λ q. eqb k q ≡ false) (keys_of es) → row_at es k ≡ None
not_among k [] all = refl
not_among k (e ∷ es) all = rw all.0 (not_among k es all.1)

-- one index more passes
one_past : (p q : ℕ → Bool) (k : ℕ) → ((i : ℕ) → q i ≡ cond (eqb i k) true (p i)) → (from n : ℕ) → k < from
    → count_by q (range_with_len from n) ≡ count_by p (range_with_len from n)
one_past p q k more from zero past = refl
one_past p q k more from (suc n) past =
    let rest = one_past p q k more (from + 1) n (omega arith) in
    let other : eqb from k ≡ false = grind (arith, nat_tests) in
    let here : q from ≡ p from = more from ∙ rw other refl in
    sum_by-cons (λ i. cond (q i) 1 0) from (range_with_len (from + 1) n)
    ∙ rw (here, rest) (sym (sum_by-cons (λ i. cond (p i) 1 0) from (range_with_len (from + 1) n)))

one_more : (p q : ℕ → Bool) (k : ℕ) → ((i : ℕ) → q i ≡ cond (eqb i k) true (p i)) → p k ≡ false → (from n : ℕ)
    → from ≤ k → k < from + n → count_by q (range_with_len from n) ≡ suc (count_by p (range_with_len from n))
one_more p q k more none from zero low high = absurd (omega (arith, low, high))
one_more p q k more none from (suc n) low high =
    let old = sum_by-cons (λ i. cond (p i) 1 0) from (range_with_len (from + 1) n) in
    let new = sum_by-cons (λ i. cond (q i) 1 0) from (range_with_len (from + 1) n) in
    ⊎_elim
    (λ (same : from ≡ k).
    let rest = one_past p q k more (from + 1) n (omega (arith, same)) in
    let this : eqb from k ≡ true = grind (arith, nat_tests) in
    let now : q from ≡ true = more from ∙ rw this refl in
    let then : p from ≡ false = rw same none in
    let first = ap {B = ℕ} (λ b. cond b 1 0) now in
    let none_first = ap {B = ℕ} (λ b. cond b 1 0) then in
    omega (arith, old, new, rest, first, none_first))
    (λ (differ : from ≢ k).
    let rest = one_more p q k more none (from + 1) n (omega (arith, low, differ)) (omega (arith, high)) in
    let other : eqb from k ≡ false = grind (arith, nat_tests) in
    let here : q from ≡ p from = more from ∙ rw other refl in
    let count = ap {B = ℕ} (λ b. cond b 1 0) here in
    omega (arith, old, new, rest, count))
    (cases_eq from k)

pub none_counted : (from n : ℕ) → count_by (λ (i : ℕ). false) (range_with_len from n) ≡ 0
none_counted from zero = refl
none_counted from (suc n) =
    omega (arith, sum_by-cons (λ (i : ℕ). 0) from (range_with_len (from + 1) n), none_counted (from + 1) n)

pub same_count : (p q : ℕ → Bool) → ((i : ℕ) → q i ≡ p i) → (is : List ℕ) → count_by q is ≡ count_by p is
same_count p q same [] = refl
same_count p q same (i ∷ is) =
    sum_by-cons (λ k. cond (q k) 1 0) i is
    ∙ rw (same i, same_count p q same is) (sym (sum_by-cons (λ k. cond (p k) 1 0) i is))

-- all keys are below n, and each is found once
pub found_once : (es : Entries) → IsDistinct (λ a b. eqb a b) (keys_of es) → (n : ℕ)
    → ((i : ℕ) → is_some (row_at es i) ≡ true → i < n)
    → count_by (λ i. is_some (row_at es i)) (range_with_len 0 n) ≡ length es
found_once [] distinct n below = none_counted 0 n
found_once (e ∷ es) distinct n below =
    let none = not_among e.0 es (IsDistinct-head (λ a b. eqb a b) e.0 (keys_of es) distinct) in
    let this : eqb e.0 e.0 ≡ true = grind (arith, nat_tests) in
    let low = below e.0 (rw this refl) in
    let rest = found_once es (IsDistinct-tail (λ a b. eqb a b) e.0 (keys_of es) distinct) n
    (λ i some. below i (by_key (eqb i e.0) (row_at es i) some)) in
    one_more (λ i. is_some (row_at es i)) (λ i. is_some (row_at (e ∷ es) i)) e.0
    (λ i. either (eqb i e.0) (row_at es i)) (ap is_some none) 0 n (omega arith) (omega (arith, low))
    ∙ ap suc rest
  where
    by_key : (b : Bool) (o : Option AccessPin) → is_some o ≡ true → is_some (cond b (Some e.1) o) ≡ true
    by_key true o some = refl
    by_key false o some = some

    either : (b : Bool) (o : Option AccessPin) → is_some (cond b (Some e.1) o) ≡ cond b true (is_some o)
    either true o = refl
    either false o = refl

-- ---- rows that are counted

-- each row that is found is
pub found_counted : (n : ℕ) (rows : AccessRows) → are_counted n rows ≡ true → (i : ℕ) (pin : AccessPin)
    → row_at rows i ≡ Some pin → (i < n) × (0 < pin.pins)
found_counted n [] all i pin is = cc
found_counted n (e ∷ es) all i pin is =
    let parts = and_parts (ltb e.0 n && ltb 0 e.1.pins) (are_counted n es) all in
    ⊎_elim
    (λ (here : eqb i e.0 ≡ true).
    let found : Some e.1 ≡ Some pin = rw here at is in
    let one : e.1 ≡ pin = cc in
    let key = eqb-true i e.0 here in
    let both = and_parts (ltb e.0 n) (ltb 0 e.1.pins) parts.0 in
    let low : e.0 < n = search (both.0, arith, nat_tests) in
    let some : 0 < e.1.pins = search (both.1, arith, nat_tests) in
    (omega (arith, low, key), subst (λ (p : AccessPin). 0 < p.pins) one some))
    (λ (other : eqb i e.0 ≡ false).
    let later : row_at es i ≡ Some pin = rw other at is in
    found_counted n es parts.1 i pin later)
    (cases_Bool (eqb i e.0))

less_than : (k i : ℕ) → T (is_lt (nat_cmp k i)) → eqb i k ≡ false
less_than k i below = search (below, arith, nat_tests)

both_parts : (a b : Bool) → T (a && b) → (T a) × (T b)
both_parts true b is = (tt, is)
both_parts false b is = absurd is

-- no row behind the first is of its page
behind : (k : ℕ) (v : AccessPin) (es : Entries) → T (below_all nat_cmp k es) → (i : ℕ) (pin : AccessPin)
    → row_at es i ≡ Some pin → eqb i k ≡ false
behind k v [] below i pin is = cc
behind k v (e ∷ es) below i pin is =
    let parts = both_parts (is_lt (nat_cmp k e.0)) (below_all nat_cmp k es) below in
    ⊎_elim
    (λ (here : eqb i e.0 ≡ true).
    let key = eqb-true i e.0 here in
    let apart = less_than k e.0 parts.0 in
    rw key apart)
    (λ (other : eqb i e.0 ≡ false).
    let later : row_at es i ≡ Some pin = rw other at is in
    behind k v es parts.1 i pin later)
    (cases_Bool (eqb i e.0))

pub all_counted : (n : ℕ) (rows : AccessRows) → T (is_sorted nat_cmp rows)
    → ((i : ℕ) (pin : AccessPin) → row_at rows i ≡ Some pin → (i < n) × (0 < pin.pins))
    → are_counted n rows ≡ true
all_counted n [] rising each = refl
all_counted n (e ∷ es) rising each =
    let parts = both_parts (below_all nat_cmp e.0 es) (is_sorted nat_cmp es) rising in
    let this : eqb e.0 e.0 ≡ true = grind (arith, nat_tests) in
    let own = each e.0 e.1 (rw this refl) in
    let low : ltb e.0 n ≡ true = grind (arith, nat_tests) in
    let some : ltb 0 e.1.pins ≡ true = grind (arith, nat_tests) in
    let rest = all_counted n es parts.1 (λ i pin is.
    let apart = behind e.0 e.1 es parts.0 i pin is in each i pin (rw apart is)) in
    rw (low, some) rest

-- so they are where a page that some pins stand on has others
pub changed_counted : (n index : ℕ) (old new : AccessRows) (was pin : AccessPin) → T (is_sorted nat_cmp new)
    → row_at old index ≡ Some was → 0 < pin.pins
    → ((i : ℕ) → row_at new i ≡ cond (eqb index i) (Some pin) (row_at old i))
    → are_counted n old ≡ true → are_counted n new ≡ true
changed_counted n index old new was pin rising there some rows all =
    all_counted n new rising
    (λ i one is. by_index i (eqb index i) refl one (sym (rows i) ∙ is) (found_counted n old all i one))
  where
    by_index : (i : ℕ) (b : Bool) → eqb index i ≡ b → (one : AccessPin) → cond b (Some pin) (row_at old i) ≡ Some one
        → (row_at old i ≡ Some one → (i < n) × (0 < one.pins)) → (i < n) × (0 < one.pins)
    by_index i true here one is later =
        let key = eqb-true index i here in
        let same : pin ≡ one = cc in
        let low = (found_counted n old all index was there).0 in
        (omega (arith, low, key), subst (λ (p : AccessPin). 0 < p.pins) same some)
    by_index i false other one is later = later is

-- a row that is written once more changes nothing
pub set_same : (test : ℕ → Bool) (es : Entries) (pin : AccessPin) → lookup test es ≡ Some pin
    → set_value test es pin ≡ es
set_same test [] pin found = cc
set_same test (e ∷ es) pin found = by_test (test e.0) found (set_same test es pin)
  where
    by_test : (b : Bool) → cond b (Some e.1) (lookup test es) ≡ Some pin
        → (lookup test es ≡ Some pin → set_value test es pin ≡ es)
        → cond b ((e.0, pin) ∷ es) (e ∷ set_value test es pin) ≡ e ∷ es
    by_test true here rest =
        let same : e.1 ≡ pin = cc in
        ap (λ (p : AccessPin). (e.0, p) ∷ es) (sym same)
    by_test false later rest = ap (λ others. e ∷ others) (rest later)

pub from_ok : {X Y : Type 0} (r : Result X Y) (P : Type 0) → IsOk r → OnOk r P → P
from_ok (Ok x) P ok said = said
from_ok (Err y) P ok said = cc
