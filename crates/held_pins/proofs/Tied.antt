-- The counts of pins and of their pages stay tied.
use Rattle.std.proofs.Common.{◌≡◌, ℕ, ◌+◌, ◌<◌, ◌≤◌, Bool, true, false, cond, not, ◌&&◌, ◌==◌, List, refl, ap, sym}
use Rattle.std.proofs.Common.{subst, ◌∙◌, arith}
use Rattle.std.specs.List.{count_by}
use Rattle.std.specs.Prelude.{nat_lt}
use Rattle.std.proofs.lemmas.Bool.{and_parts}
use Rattle.std.proofs.lemmas.Bool.Decides.{nat_tests}
use Rattle.held_pins.specs.Counts.{ArePositive}
use Rattle.held_pins.specs.Held.{AreMore, AreThere, HaveRoom, IsTied, Lack, Tally, is_over, is_tallied, page_in}
use Rattle.held_pins.specs.Held.{pins_of, tally}
use Rattle.held_pins.specs.HeldPins.{HasOneMore, count_of, is_held, is_of, is_pin, is_whole}
use Rattle.held_pins.specs.Held.Tally.{OfHolder, Pinned}
use Rattle.held_pins.specs.declared.keys.HolderKey.{HolderKey}
use Rattle.held_pins.specs.declared.keys.PageKey.{PageKey}
use Rattle.held_pins.specs.declared.pin.HeldPin.{HeldPin}
use Rattle.held_pins.specs.declared.pin_counts.PinCounts.{PinCounts}
use Rattle.held_pins.proofs.Lists.{any_counted, count_more, passing}
use Rattle.held_pins.proofs.PageKeys.{from_test}
use Rattle.held_pins.proofs.PinKeys.{same_bools}
use Rattle.held_pins.proofs.Pins.{Rows}

-- ---- what is counted for two pins is counted for one holder

same_number : (x y : ℕ) → x ≡ y → (x == y) ≡ true
same_number x y same = grind (arith, nat_tests)

-- whoever covers a page that the pin covers, by the key of its access object, is of this one
of_same_key : (pin other : HeldPin) (key : PageKey) → is_over pin key ≡ true → is_over other key ≡ true
    → is_of pin.file pin.access other ≡ true
of_same_key pin other key is there =
    let here = from_test (page_in pin.file pin.ioas pin.span.first pin.access pin.write) _ key is in
    let back = from_test (page_in other.file other.ioas other.span.first other.access other.write) _ key there in
    rw (
      same_number other.file.0 pin.file.0 (back.file ∙ sym here.file),
      same_number other.access.0 pin.access.0 (back.access ∙ sym here.access),
    ) refl

same_holder : (what : Tally) (pin other : HeldPin) → is_tallied what pin ≡ true → is_tallied what other ≡ true
    → is_of pin.file pin.access other ≡ true
same_holder (Pinned key) pin other is there = of_same_key pin other key is there
same_holder (OfHolder key) pin other is there =
    let here = and_parts (pin.file.0 == key.file) (pin.access.0 == key.access) is in
    let back = and_parts (other.file.0 == key.file) (other.access.0 == key.access) there in
    let file = equal pin.file.0 other.file.0 key.file here.0 back.0 in
    let access = equal pin.access.0 other.access.0 key.access here.1 back.1 in
    rw (file, access) refl
  where
    equal : (x y n : ℕ) → (x == n) ≡ true → (y == n) ≡ true → (y == x) ≡ true
    equal x y n same other_same = grind (arith, nat_tests)

-- ---- equal pins

-- equal pins are one
pub one_pin : (a b : HeldPin) → is_pin a b ≡ true → a ≡ b
one_pin a b same =
    let write_is = and_parts (a.file.0 == b.file.0 && a.access.0 == b.access.0 && a.ioas.0 == b.ioas.0
    && a.span.first == b.span.first && a.span.last == b.span.last) (cond a.write b.write (not b.write)) same in
    let last_is = and_parts (a.file.0 == b.file.0 && a.access.0 == b.access.0 && a.ioas.0 == b.ioas.0
    && a.span.first == b.span.first) (a.span.last == b.span.last) write_is.0 in
    let first_is = and_parts (a.file.0 == b.file.0 && a.access.0 == b.access.0 && a.ioas.0 == b.ioas.0)
    (a.span.first == b.span.first) last_is.0 in
    let ioas_is = and_parts (a.file.0 == b.file.0 && a.access.0 == b.access.0) (a.ioas.0 == b.ioas.0) first_is.0 in
    let access_is = and_parts (a.file.0 == b.file.0) (a.access.0 == b.access.0) ioas_is.0 in
    let file = number a.file.0 b.file.0 access_is.0 in
    let access = number a.access.0 b.access.0 access_is.1 in
    let ioas = number a.ioas.0 b.ioas.0 ioas_is.1 in
    let first = number a.span.first b.span.first first_is.1 in
    let last = number a.span.last b.span.last last_is.1 in
    let write = same_bools a.write b.write write_is.1 in
    λ i. record {
      file = record { 0 = file i };
      access = record { 0 = access i };
      ioas = record { 0 = ioas i };
      span = record { first = first i; last = last i };
      write = write i;
    }
  where
    number : (x y : ℕ) → (x == y) ≡ true → x ≡ y
    number x y is = grind (arith, nat_tests)

counted_held : (pins : List HeldPin) (pin : HeldPin) (test : HeldPin → Bool)
    → count_by (λ x. not (is_whole x)) pins ≡ 0 → is_held pins pin ≡ true → test pin ≡ true
    → 0 < count_by test pins
counted_held pins pin test whole held here =
    let found = passing is_whole (is_pin pin) pins whole held in
    let there : test found.it ≡ true = subst (λ x. test x ≡ true) (one_pin pin found.it found.passes) here in
    let some : nat_lt 0 (count_by test pins) ≡ true = sym (any_counted test pins) ∙ found.among test there in
    grind (arith, nat_tests)

-- ---- all stays tied

module _ {A : Type 0} where
  pub tied_more : (old new : Rows) (counts counts' : PinCounts A) (pin : HeldPin) → IsTied old counts
      → HaveRoom counts pin → is_whole pin ≡ true → ArePositive new
      → HasOneMore (pins_of old) (pins_of new) pin → AreMore counts counts' pin → IsTied new counts'
  tied_more old new counts counts' pin tied room whole positive more tallied =
      record {
        positive = positive;
        tallied = λ what. tallied what ∙ ap (λ n. n + cond (is_tallied what pin) 1 0) (tied.tallied what)
            ∙ sym (more (is_tallied what));
        few = λ key. by_holder key (is_tallied (OfHolder key) pin) refl (tallied (OfHolder key));
        whole = more (λ x. not (is_whole x)) ∙ rw (tied.whole, whole) refl;
      }
    where
      by_holder : (key : HolderKey) (b : Bool) → is_tallied (OfHolder key) pin ≡ b
          → tally counts' (OfHolder key) ≡ tally counts (OfHolder key) + cond b 1 0
          → tally counts' (OfHolder key) ≤ 65535
      by_holder key true is one = omega (arith, one, room (OfHolder key) is)
      by_holder key false is one = omega (arith, one, tied.few key)

  pub tied_less : (old new : Rows) (counts counts' : PinCounts A) (pin : HeldPin) → IsTied old counts
      → ArePositive new → HasOneMore (pins_of new) (pins_of old) pin → AreMore counts' counts pin
      → IsTied new counts'
  tied_less old new counts counts' pin tied positive more tallied =
      record {
        positive = positive;
        tallied = λ what. omega (arith, tallied what, tied.tallied what, more (is_tallied what));
        few = λ key. omega (arith, tallied (OfHolder key), tied.few key);
        whole = omega (arith, tied.whole, more (λ x. not (is_whole x)));
      }

  -- what was counted and is no longer leaves all tied
  pub tied_again : (old new : Rows) (counts more again : PinCounts A) (pin : HeldPin) → new ≡ old → IsTied old counts
      → AreMore counts more pin → AreMore again more pin → IsTied new again
  tied_again old new counts more again pin same tied there back =
      subst (λ (rows : Rows). IsTied rows again) (sym same)
      (record {
        positive = tied.positive;
        tallied = λ what. omega (arith, there what, back what, tied.tallied what);
        few = λ key. omega (arith, there (OfHolder key), back (OfHolder key), tied.few key);
        whole = tied.whole;
      })

  -- ---- what is counted for a pin that may come, and for one that is held

  pub room_left : (spans : Rows) (counts : PinCounts A) (pin : HeldPin) → IsTied spans counts
      → count_of (pins_of spans) pin.file pin.access < 65535 → HaveRoom counts pin
  room_left spans counts pin tied few what is =
      let most = count_more (is_tallied what) (is_of pin.file pin.access)
      (λ other there. same_holder what pin other is there) (pins_of spans) in
      omega (arith, tied.tallied what, most, few)

  pub held_there : (spans : Rows) (counts : PinCounts A) (pin : HeldPin) → IsTied spans counts
      → is_held (pins_of spans) pin ≡ true → AreThere counts pin
  held_there spans counts pin tied held what is =
      rw (tied.tallied what) (counted_held (pins_of spans) pin (is_tallied what) tied.whole held is)

  -- an equal pin isn't held, where something isn't counted that would be for it
  pub not_held : (spans : Rows) (counts : PinCounts A) (pin : HeldPin) → IsTied spans counts
      → Lack counts pin → is_held (pins_of spans) pin ≡ false
  not_held spans counts pin tied lacking = by_test (is_held (pins_of spans) pin) refl
    where
      by_test : (b : Bool) → is_held (pins_of spans) pin ≡ b → b ≡ false
      by_test false is = refl
      by_test true is =
          absurd (omega (arith, lacking.2, held_there spans counts pin tied is lacking.0 lacking.1))
