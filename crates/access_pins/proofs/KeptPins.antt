-- The pins that are kept are those of the world still, with one more or one less.
use Rattle.std.proofs.Common.{◌≡◌, ℕ, ◌+◌, Bool, true, false, cond, ◌&&◌, not, eqb, List, [], ◌∷◌, ◌++◌, refl, ap, sym}
use Rattle.std.proofs.Common.{◌||◌}
use Rattle.std.proofs.Common.{◌∙◌, arith}
use Rattle.std.specs.List.{count_by, list_all, sum_by}
use Rattle.std.proofs.lemmas.Bool.{eqb-true}
use Rattle.std.proofs.lemmas.List.Sums.{sum_by-cons, sum_by_push}
use Rattle.held_pins.specs.HeldPins.{HasOneMore}
use Rattle.held_pins.specs.declared.pin.HeldPin.{HeldPin}
use Rattle.iofd_rows.proofs.Bools.{and_true}
use Rattle.iofd_rows.proofs.Named.{file_is, id_is}
use Rattle.iofd_words.specs.Bounds.{Bounds}
use Rattle.iofd_words.specs.Pins.{is_equal, is_held, without_pin}
use Rattle.iofd_words.specs.declared.numbers.FileNo.{FileNo}
use Rattle.iofd_words.specs.declared.numbers.ObjId.{ObjId}
use Rattle.iofd_words.specs.declared.rows.AccessPin.{AccessPin}
use Rattle.iofd_words.specs.declared.rows.Object.{Object}
use Rattle.server_state.specs.AccessPins.{AccessPinsShown, is_in_space, row_of}
use Rattle.user_memory_rows.proofs.CountBy.{count-cons}

-- pins that equal each other are the same
pub equal_is : (a b : AccessPin) → is_equal a b ≡ true → b ≡ a
equal_is a b is =
    let all = and_true (eqb b.file.0 a.file.0 && eqb b.access.0 a.access.0 && eqb a.span.first b.span.first
    && eqb a.span.last b.span.last) (cond a.write b.write (not b.write)) is in
    let ends = and_true (eqb b.file.0 a.file.0 && eqb b.access.0 a.access.0 && eqb a.span.first b.span.first)
    (eqb a.span.last b.span.last) all.0 in
    let begins = and_true (eqb b.file.0 a.file.0 && eqb b.access.0 a.access.0) (eqb a.span.first b.span.first) ends.0
    in
    let names = and_true (eqb b.file.0 a.file.0) (eqb b.access.0 a.access.0) begins.0 in
    pin_is (file_is b.file a.file names.0) (id_is b.access a.access names.1)
    (span_is (sym (eqb-true a.span.first b.span.first begins.1)) (sym (eqb-true a.span.last b.span.last ends.1)))
    (alike_bools a.write b.write all.1)
  where
    alike_bools : (x y : Bool) → cond x y (not y) ≡ true → y ≡ x
    alike_bools true true is = refl
    alike_bools true false is = cc
    alike_bools false true is = cc
    alike_bools false false is = refl

    span_is : b.span.first ≡ a.span.first → b.span.last ≡ a.span.last → b.span ≡ a.span
    span_is first last =
        ap (λ (n : ℕ). let s : Bounds = record { first = n; last = b.span.last } in s) first
        ∙ ap (λ (n : ℕ). let s : Bounds = record { first = a.span.first; last = n } in s) last

    pin_is : b.file ≡ a.file → b.access ≡ a.access → b.span ≡ a.span → b.write ≡ a.write → b ≡ a
    pin_is file access span write =
        ap (λ (x : FileNo). let p : AccessPin =
        record { file = x; access = b.access; span = b.span; write = b.write } in p) file
        ∙ ap (λ (x : ObjId). let p : AccessPin =
        record { file = a.file; access = x; span = b.span; write = b.write } in p) access
        ∙ ap (λ (x : Bounds). let p : AccessPin =
        record { file = a.file; access = a.access; span = x; write = b.write } in p) span
        ∙ ap (λ (x : Bool). let p : AccessPin =
        record { file = a.file; access = a.access; span = a.span; write = x } in p) write

-- one that equals the pin is taken off every sum
pub sum_without : (f : AccessPin → ℕ) (pin : AccessPin) (pins : List AccessPin) → is_held pins pin ≡ true
    → sum_by f (without_pin pin pins) + f pin ≡ sum_by f pins
sum_without f pin [] held = cc
sum_without f pin (p ∷ pins) held = by_test (is_equal pin p) refl held (sum_without f pin pins)
  where
    by_test : (b : Bool) → is_equal pin p ≡ b → (b || is_held pins pin) ≡ true
        → (is_held pins pin ≡ true → sum_by f (without_pin pin pins) + f pin ≡ sum_by f pins)
        → sum_by f (cond b pins (p ∷ without_pin pin pins)) + f pin ≡ sum_by f (p ∷ pins)
    by_test true is held later =
        let all = sum_by-cons f p pins in
        let same = ap f (equal_is pin p is) in
        omega (arith, all, same)
    by_test false is held later =
        let all = sum_by-cons f p pins in
        let left = sum_by-cons f p (without_pin pin pins) in
        let rest = later held in
        omega (arith, all, left, rest)

-- each passes a test just where none fails
pub all_count : {X : Type 0} (p : X → Bool) (xs : List X) → list_all p xs ≡ true → count_by (λ x. not (p x)) xs ≡ 0
all_count p [] all = refl
all_count p (x ∷ xs) all =
    let parts = and_true (p x) (list_all p xs) all in
    count-cons (λ y. not (p y)) x xs ∙ rw (parts.0, all_count p xs parts.1) refl

pub count_all : {X : Type 0} (p : X → Bool) (xs : List X) → count_by (λ x. not (p x)) xs ≡ 0 → list_all p xs ≡ true
count_all p [] none = refl
count_all p (x ∷ xs) none =
    by_test (p x) refl (sym (count-cons (λ y. not (p y)) x xs) ∙ none) (count_all p xs)
  where
    by_test : (b : Bool) → p x ≡ b → cond (not (p x)) 1 0 + count_by (λ y. not (p y)) xs ≡ 0
        → (count_by (λ y. not (p y)) xs ≡ 0 → list_all p xs ≡ true) → (b && list_all p xs) ≡ true
    by_test true is none later =
        let first : cond {A = ℕ} (not (p x)) 1 0 ≡ 0 = rw is refl in later (omega (arith, none, first))
    by_test false is none later =
        let first : ◌≡◌ {A = ℕ} (cond (not (p x)) 1 0) 1 = rw is refl in absurd (omega (arith, none, first))

module _ (objects : List Object) (pins : List AccessPin) (kept : List HeldPin) (pin : HeldPin)
    (shown : AccessPinsShown objects pins kept) where
  -- one more
  pub shown_more : (after : List HeldPin) → HasOneMore kept after pin → is_in_space objects pin ≡ true
      → AccessPinsShown objects (pins ++ row_of pin ∷ []) after
  shown_more after more there = record {
    counts = λ test. sum_by_push (λ p. cond (test p) 1 0) pins (row_of pin)
        ∙ ap (λ n. n + cond (test (row_of pin)) 1 0) (shown.counts test) ∙ sym (more (λ p. test (row_of p)));
    spaces = count_all (is_in_space objects) after
        (more (λ p. not (is_in_space objects p))
        ∙ rw (there, all_count (is_in_space objects) kept shown.spaces) refl);
  }

  -- one less
  pub shown_less : (after : List HeldPin) → HasOneMore after kept pin → is_held pins (row_of pin) ≡ true
      → AccessPinsShown objects (without_pin (row_of pin) pins) after
  shown_less after less held = record {
    counts = λ test.
        let all = sum_without (λ p. cond (test p) 1 0) (row_of pin) pins held in
        let was = shown.counts test in
        let one = less (λ p. test (row_of p)) in
        omega (arith, all, was, one);
    spaces = count_all (is_in_space objects) after
        (let none = all_count (is_in_space objects) kept shown.spaces in
        let one = less (λ p. not (is_in_space objects p)) in
        omega (arith, none, one));
  }
