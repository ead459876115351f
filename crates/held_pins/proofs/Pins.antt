-- The pins that rows of keys and counts stand for, by how they are counted.
use Rattle.std.proofs.Common.{◌≡◌, ℕ, zero, suc, ◌+◌, ◌*◌, ◌<◌, ◌≤◌, Bool, true, false, cond, ◌||◌, Some}
use Rattle.std.proofs.Common.{List, [], ◌∷◌, ◌++◌, replicate, refl, sym, ap, ◌∙◌, arith}
use Rattle.std.specs.BTreeMap.{is_at}
use Rattle.std.specs.List.{count_by, list_any}
use Rattle.std.specs.Map.{lookup}
use Rattle.std.specs.Option.{unwrap_or}
use Rattle.std.specs.Prelude.{nat_lt}
use Rattle.std.proofs.lemmas.Bool.Decides.{nat_tests}
use Rattle.std.proofs.lemmas.List.Folds.{sum_by-replicate}
use Rattle.std.proofs.lemmas.List.Sums.{sum_by-append}
use Rattle.held_pins.specs.Counts.{ArePositive, WeighsMore, count_in, weighed}
use Rattle.held_pins.specs.Held.{key_cmp, key_of, pin_of, pins_of}
use Rattle.held_pins.specs.HeldPins.{HasOneMore, is_held, is_pin}
use Rattle.held_pins.specs.declared.keys.PinKey.{PinKey}
use Rattle.held_pins.specs.declared.pin.HeldPin.{HeldPin}
use Rattle.held_pins.proofs.PinKeys.{same_keys, same_pins}
use Rattle.held_pins.proofs.Rows.{weighed_row}

abbrev pub Rows : Type 0
Rows = List (PinKey × ℕ)

-- how often a test counts a pin
abbrev weight : (HeldPin → Bool) → HeldPin → ℕ
weight test pin = cond (test pin) 1 0

-- the pins of a row, and those of the others
counted_row : (test : HeldPin → Bool) (row : PinKey × ℕ) (rows : Rows)
    → count_by test (pins_of (row ∷ rows)) ≡ row.1 * weight test (pin_of row.0) + count_by test (pins_of rows)
counted_row test row rows =
    sum_by-append (weight test) (replicate row.1 (pin_of row.0)) (pins_of rows)
    ∙ ap (λ n. n + count_by test (pins_of rows)) (sum_by-replicate (weight test) row.1 (pin_of row.0))

-- ---- one more, or one less

-- how often a test counts them is what the keys weigh, each as its pin is counted
weighed_pins : (test : HeldPin → Bool) (rows : Rows)
    → count_by test (pins_of rows) ≡ weighed (λ key. weight test (pin_of key)) rows
weighed_pins test [] = refl
weighed_pins test (row ∷ rows) =
    counted_row test row rows
    ∙ ap (λ n. row.1 * weight test (pin_of row.0) + n) (weighed_pins test rows)
    ∙ sym (weighed_row (λ key. weight test (pin_of key)) row rows)

pub pins_after : (less more : Rows) (key : PinKey) (pin : HeldPin) → key ≡ key_of pin
    → WeighsMore key_cmp less more key → HasOneMore (pins_of less) (pins_of more) pin
pins_after less more key pin same heavier test =
    let weigh : PinKey → ℕ = λ k. weight test (pin_of k) in
    let alike = λ (other : PinKey) (is : is_at (key_cmp key) other ≡ true). ap weigh (sym (same_keys key other is)) in
    weighed_pins test more
    ∙ heavier weigh alike
    ∙ ap (λ n. n + weigh key) (sym (weighed_pins test less))
    ∙ ap (λ k. count_by test (pins_of less) + weigh k) same

-- ---- which are held

any_same : (test : HeldPin → Bool) (n : ℕ) (pin : HeldPin) (rest : List HeldPin) → 0 < n
    → list_any test (replicate n pin ++ rest) ≡ (test pin || list_any test rest)
any_same test zero pin rest some = absurd (omega (arith, some))
any_same test (suc zero) pin rest some = refl
any_same test (suc (suc n)) pin rest some =
    ap (λ later. test pin || later) (any_same test (suc n) pin rest (omega arith))
    ∙ twice (test pin) (list_any test rest)
  where
    twice : (a b : Bool) → (a || (a || b)) ≡ (a || b)
    twice true b = refl
    twice false b = refl

pub held_pins : (rows : Rows) (key : PinKey) → ArePositive rows
    → nat_lt 0 (count_in key_cmp rows key) ≡ list_any (is_pin (pin_of key)) (pins_of rows)
held_pins [] key positive = refl
held_pins (row ∷ rows) key positive =
    by_test (is_at (key_cmp key) row.0) (same_pins key row.0) (held_pins rows key positive.1)
    ∙ sym (any_same (is_pin (pin_of key)) row.1 (pin_of row.0) (pins_of rows) positive.0)
  where
    by_test : (b : Bool) → b ≡ is_pin (pin_of key) (pin_of row.0)
        → nat_lt 0 (count_in key_cmp rows key) ≡ list_any (is_pin (pin_of key)) (pins_of rows)
        → nat_lt 0 (unwrap_or (cond b (Some row.1) (lookup (is_at (key_cmp key)) rows)) 0)
        ≡ (is_pin (pin_of key) (pin_of row.0) || list_any (is_pin (pin_of key)) (pins_of rows))
    by_test true is rest = rw (← is) (grind (arith, nat_tests))
    by_test false is rest = rw (← is) rest

-- a key is counted no more often than pins are that pass a test which its own passes
pub counted_at_most : (test : HeldPin → Bool) (rows : Rows) (key : PinKey) → test (pin_of key) ≡ true
    → count_in key_cmp rows key ≤ count_by test (pins_of rows)
counted_at_most test [] key passes = omega arith
counted_at_most test (row ∷ rows) key passes =
    by_test (is_at (key_cmp key) row.0) refl (counted_at_most test rows key passes)
  where
    by_test : (b : Bool) → is_at (key_cmp key) row.0 ≡ b → count_in key_cmp rows key ≤ count_by test (pins_of rows)
        → unwrap_or (cond b (Some row.1) (lookup (is_at (key_cmp key)) rows)) 0 ≤ count_by test (pins_of (row ∷ rows))
    by_test true is rest =
        let here : test (pin_of row.0) ≡ true = ap (λ k. test (pin_of k)) (sym (same_keys key row.0 is)) ∙ passes in
        let one : weight test (pin_of row.0) ≡ 1 = ap (λ (b : Bool). cond b 1 0) here in
        let all : row.1 * weight test (pin_of row.0) ≡ row.1 = ap (λ n. row.1 * n) one ∙ times_one row.1 in
        omega (arith, counted_row test row rows, all)
      where
        times_one : (n : ℕ) → n * 1 ≡ n
        times_one n = omega arith
    by_test false is rest =
        omega (arith, counted_row test row rows, rest)

pub key_counted : (rows : Rows) (pin : HeldPin) → ArePositive rows → is_held (pins_of rows) pin ≡ true
    → 0 < count_in key_cmp rows (key_of pin)
key_counted rows pin positive held =
    let some : nat_lt 0 (count_in key_cmp rows (key_of pin)) ≡ true = held_pins rows (key_of pin) positive ∙ held in
    search (some, arith, nat_tests)

-- a pin whose key isn't counted isn't held
pub not_counted : (rows : Rows) (pin : HeldPin) → ArePositive rows → count_in key_cmp rows (key_of pin) ≡ 0
    → is_held (pins_of rows) pin ≡ false
not_counted rows pin positive none =
    sym (held_pins rows (key_of pin) positive) ∙ ap (λ n. nat_lt 0 n) none
