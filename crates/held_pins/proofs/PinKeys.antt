-- Pins and pages as keys: keys that compare alike are one.
use Rattle.std.proofs.Common.{◌≡◌, ℕ, Bool, true, false, ◌&&◌, ◌==◌, cond, not, refl, ap, sym, ◌∙◌, arith}
use Rattle.std.specs.BTreeMap.{is_at}
use Rattle.std.specs.Cmp.{tied_then}
use Rattle.std.specs.Ordering.{bool_cmp, is_eq, nat_cmp, ordering_then}
use Rattle.std.specs.declared.cmp.Ordering.{Ordering}
use Rattle.std.specs.declared.cmp.Ordering.TheVariants.{Less, Equal, Greater}
use Rattle.std.proofs.lemmas.Bool.Decides.{nat_tests}
use Rattle.std.proofs.lemmas.Map.Lookups.{CmpEqualImpliesEq, exact_pairs, exact_unsigned}
use Rattle.held_pins.specs.Held.{exchanged, key_cmp, page_cmp, pin_of}
use Rattle.held_pins.specs.HeldPins.{is_pin}
use Rattle.held_pins.specs.declared.keys.PageKey.{PageKey}
use Rattle.held_pins.specs.declared.keys.PinKey.{PinKey}

exact_bools : CmpEqualImpliesEq bool_cmp
exact_bools true true same = refl
exact_bools true false same = cc
exact_bools false true same = cc
exact_bools false false same = refl

-- keys of pins by their fields
abbrev Fields2 : Type 0
Fields2 = ℕ × Bool

abbrev Fields3 : Type 0
Fields3 = ℕ × Fields2

abbrev Fields4 : Type 0
Fields4 = ℕ × Fields3

abbrev Fields5 : Type 0
Fields5 = ℕ × Fields4

abbrev cmp2 : Fields2 → Fields2 → Ordering
cmp2 x y = ordering_then (nat_cmp x.0 y.0) (bool_cmp x.1 y.1)

abbrev cmp3 : Fields3 → Fields3 → Ordering
cmp3 x y = ordering_then (nat_cmp x.0 y.0) (cmp2 x.1 y.1)

abbrev cmp4 : Fields4 → Fields4 → Ordering
cmp4 x y = ordering_then (nat_cmp x.0 y.0) (cmp3 x.1 y.1)

abbrev cmp5 : Fields5 → Fields5 → Ordering
cmp5 x y = ordering_then (nat_cmp x.0 y.0) (cmp4 x.1 y.1)

exact4 : CmpEqualImpliesEq cmp4
exact4 =
    exact_pairs nat_cmp cmp3 exact_unsigned (exact_pairs nat_cmp cmp2 exact_unsigned (exact_pairs nat_cmp bool_cmp
    exact_unsigned exact_bools))

exact5 : CmpEqualImpliesEq cmp5
exact5 = exact_pairs nat_cmp cmp4 exact_unsigned exact4

exact_keys : CmpEqualImpliesEq key_cmp
exact_keys a b same =
    ap
    (λ (k : ℕ × Fields5). record {
      access = k.0;
      ioas = k.1.0;
      first = k.1.1.0;
      last = k.1.1.1.0;
      file = k.1.1.1.1.0;
      write = k.1.1.1.1.1;
    })
    (exact_pairs nat_cmp cmp5 exact_unsigned exact5
    (a.access, (a.ioas, (a.first, (a.last, (a.file, a.write)))))
    (b.access, (b.ioas, (b.first, (b.last, (b.file, b.write)))))
    same)

equal_from_test : (o : Ordering) → is_eq o ≡ true → o ≡ Equal
equal_from_test Less passes = cc
equal_from_test Equal passes = refl
equal_from_test Greater passes = cc

pub same_keys : (a b : PinKey) → is_at (key_cmp a) b ≡ true → a ≡ b
same_keys a b passes = exact_keys a b (equal_from_test (key_cmp a b) passes)

-- keys of pages by their fields
exact_pages : CmpEqualImpliesEq page_cmp
exact_pages a b same =
    ap
    (λ (k : ℕ × Fields4). record {
      file = k.0;
      object = k.1.0;
      page = k.1.1.0;
      access = k.1.1.1.0;
      write = k.1.1.1.1;
    })
    (exact_pairs nat_cmp cmp4 exact_unsigned exact4
    (a.file, (a.object, (a.page, (a.access, a.write))))
    (b.file, (b.object, (b.page, (b.access, b.write))))
    same)

pub same_pages : (a b : PageKey) → is_at (page_cmp a) b ≡ true → a ≡ b
same_pages a b passes = exact_pages a b (equal_from_test (page_cmp a b) passes)

-- ---- a key is another's where its pin is

numbers_eq : (x y : ℕ) → is_eq (nat_cmp x y) ≡ (x == y)
numbers_eq x y = grind (arith, nat_tests)

pub bools_eq : (a b : Bool) → is_eq (bool_cmp a b) ≡ cond a b (not b)
bools_eq true true = refl
bools_eq true false = refl
bools_eq false true = refl
bools_eq false false = refl

pub same_bools : (x y : Bool) → cond x y (not y) ≡ true → x ≡ y
same_bools true true is = refl
same_bools true false is = cc
same_bools false true is = cc
same_bools false false is = refl

pub alike_bools : (x y : Bool) → x ≡ y → cond x y (not y) ≡ true
alike_bools true true is = refl
alike_bools true false is = cc
alike_bools false true is = cc
alike_bools false false is = refl

-- of what is compared by a number first
pub then_eq : (x y : ℕ) (o : Ordering) (later : Bool) → is_eq o ≡ later
    → is_eq (ordering_then (nat_cmp x y) o) ≡ ((x == y) && later)
then_eq x y o later rest = sym (tied_then (nat_cmp x y) o) ∙ rw (numbers_eq x y, rest) refl

-- pages, field by field
pub page_test : (a b : PageKey) → is_at (page_cmp a) b
    ≡ ((a.file == b.file) && ((a.object == b.object)
    && ((a.page == b.page) && ((a.access == b.access) && cond a.write b.write (not b.write)))))
page_test a b =
    let write = cond a.write b.write (not b.write) in
    then_eq a.file b.file _ ((a.object == b.object) && ((a.page == b.page) && ((a.access == b.access) && write)))
    (then_eq a.object b.object _ ((a.page == b.page) && ((a.access == b.access) && write))
    (then_eq a.page b.page _ ((a.access == b.access) && write)
    (then_eq a.access b.access (bool_cmp a.write b.write) write (bools_eq a.write b.write))))

-- a page is another's with its objects exchanged, where with its own exchanged it is the other
pub exchanged_is : (a b : PageKey) → is_at (page_cmp a) (exchanged b) ≡ is_at (page_cmp (exchanged a)) b
exchanged_is a b =
    page_test a (exchanged b)
    ∙ ap (λ (rest : Bool). (a.file == b.file) && rest)
    (turned (a.object == b.access) (a.page == b.page) (a.access == b.object) (cond a.write b.write (not b.write)))
    ∙ sym (page_test (exchanged a) b)
  where
    never : (x : Bool) → (x && false) ≡ false
    never true = refl
    never false = refl

    turned : (x p y w : Bool) → (x && (p && (y && w))) ≡ (y && (p && (x && w)))
    turned true p true w = refl
    turned true p false w = never p
    turned false p true w = sym (never p)
    turned false p false w = refl

regrouped : (x y z : Bool) → (x && (y && z)) ≡ ((x && y) && z)
regrouped true y z = refl
regrouped false y z = refl

tested_first : (x y z : Bool) → (x && (y && z)) ≡ (y && (x && z))
tested_first true y z = refl
tested_first false true z = refl
tested_first false false z = refl

pub same_pins : (a b : PinKey) → is_at (key_cmp a) b ≡ is_pin (pin_of a) (pin_of b)
same_pins a b =
    let file = a.file == b.file in
    let access = a.access == b.access in
    let ioas = a.ioas == b.ioas in
    let first = a.first == b.first in
    let last = a.last == b.last in
    let write = cond a.write b.write (not b.write) in
    then_eq a.access b.access _ (ioas && (first && (last && (file && write))))
    (then_eq a.ioas b.ioas _ (first && (last && (file && write)))
    (then_eq a.first b.first _ (last && (file && write))
    (then_eq a.last b.last _ (file && write)
    (then_eq a.file b.file (bool_cmp a.write b.write) write (bools_eq a.write b.write)))))
    ∙ ap (λ (rest : Bool). access && (ioas && (first && rest))) (tested_first last file write)
    ∙ ap (λ (rest : Bool). access && (ioas && rest)) (tested_first first file (last && write))
    ∙ ap (λ (rest : Bool). access && rest) (tested_first ioas file (first && (last && write)))
    ∙ tested_first access file (ioas && (first && (last && write)))
    ∙ regrouped file access (ioas && (first && (last && write)))
    ∙ regrouped (file && access) ioas (first && (last && write))
    ∙ regrouped (file && access && ioas) first (last && write)
    ∙ regrouped (file && access && ioas && first) last write
