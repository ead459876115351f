-- Which pages of an object are pinned, and how many accesses pin.
use Rattle.std.proofs.Common.{◌≡◌, ◌≢◌, ℕ, ◌+◌, Bool, true, false, ◌&&◌, ◌||◌, cond, eqb, ltb, not, Option, Some}
use Rattle.std.proofs.Common.{None, length, refl, sym, ap, ◌∙◌, arith, ⊎_elim}
use Rattle.std.specs.Prelude.{is_none, is_some}
use Rattle.std.specs.List.{count_by, range_with_len, slice_get}
use Rattle.std.proofs.lemmas.Bool.{cases_eq}
use Rattle.std.proofs.lemmas.Bool.Decides.{nat_tests}
use Rattle.std.proofs.lemmas.List.FromFn.{length-range_with_len}
use Rattle.iofd_words.specs.declared.numbers.UserNo.{UserNo}
use Rattle.pinned_pages.specs.Access.{are_counted, frame_in, pins_in, row_at}
use Rattle.pinned_pages.specs.Kept.{AreKept}
use Rattle.pinned_pages.specs.Pages.{ObjectPages, count_of_others, frame_of, is_pinned, or_else, unpinned}
use Rattle.pinned_pages.specs.declared.access_pins.AccessPin.{AccessPin}
use Rattle.pinned_pages.proofs.AccessRows.{found_counted, none_counted}
use Rattle.pinned_pages.proofs.Runs.{count_rest, some_below}

-- a page has a frame just where it is pinned
pub frame_there : (pages : ObjectPages) → are_counted pages.count pages.access ≡ true
    → length pages.frames ≡ cond (eqb pages.table_pins 0) 0 pages.count → (i : ℕ)
    → is_some (frame_of pages i) ≡ is_pinned pages i
frame_there pages counted long i = by_row (row_at pages.access i) refl
  where
    by_row : (o : Option AccessPin) → row_at pages.access i ≡ o
        → is_some (or_else (frame_in o) (slice_get pages.frames i))
        ≡ (ltb i pages.count && (ltb 0 pages.table_pins || ltb 0 (pins_in o)))
    by_row (Some pin) is =
        let told = found_counted pages.count pages.access counted i pin is in
        let low : ltb i pages.count ≡ true = grind (arith, nat_tests) in
        let some : ltb 0 pin.pins ≡ true = grind (arith, nat_tests) in
        rw (low, some) (sym (either (ltb 0 pages.table_pins)))
      where
        either : (b : Bool) → (b || true) ≡ true
        either true = refl
        either false = refl
    by_row None is =
        some_below pages.frames i
        ∙ ⊎_elim
        (λ (none : pages.table_pins ≡ 0).
        let zero : eqb pages.table_pins 0 ≡ true = grind (arith, nat_tests) in
        let empty : length pages.frames ≡ 0 = rw zero at long in
        let past : ltb i (length pages.frames) ≡ false = rw empty (grind (arith, nat_tests)) in
        let no_pins : ltb 0 pages.table_pins ≡ false = grind (arith, nat_tests) in
        past ∙ sym (rw no_pins (and_false (ltb i pages.count))))
        (λ (some : pages.table_pins ≢ 0).
        let other : eqb pages.table_pins 0 ≡ false = grind (arith, nat_tests) in
        let pins : ltb 0 pages.table_pins ≡ true = grind (arith, nat_tests) in
        let all : length pages.frames ≡ pages.count = rw other at long in
        rw (all, pins) (sym (and_true (ltb i pages.count))))
        (cases_eq pages.table_pins 0)
      where
        and_false : (b : Bool) → (b && (false || false)) ≡ false
        and_false true = refl
        and_false false = refl

        and_true : (b : Bool) → (b && (true || false)) ≡ b
        and_true true = refl
        and_true false = refl

pub pinned_page : (pages : ObjectPages) → AreKept pages → (i : ℕ) → is_some (frame_of pages i) ≡ is_pinned pages i
pinned_page pages kept i =
    frame_there pages kept.counted (⊎_elim
    (λ (none : pages.table_pins ≡ 0).
    let zero : eqb pages.table_pins 0 ≡ true = grind (arith, nat_tests) in
    ap length (kept.unpinned none) ∙ rw zero refl)
    (λ (some : pages.table_pins ≢ 0).
    let other : eqb pages.table_pins 0 ≡ false = grind (arith, nat_tests) in
    kept.pinned (omega (arith, some)) ∙ rw other refl)
    (cases_eq pages.table_pins 0)) i

-- all pages but those that accesses pin are the others
pub others : (pages : ObjectPages) (len : ℕ)
    → count_by (λ i. is_some (row_at pages.access i)) (range_with_len 0 pages.count) ≡ len
    → count_of_others pages + len ≡ pages.count
others pages len is =
    let both = count_rest (λ i. is_none (frame_in (row_at pages.access i))) (λ i. is_some (row_at pages.access i))
    (λ i. no_frame (row_at pages.access i)) (range_with_len 0 pages.count) in
    let all = length-range_with_len 0 pages.count in
    omega (arith, is, both, all)
  where
    no_frame : (o : Option AccessPin) → is_none (frame_in o) ≡ not (is_some o)
    no_frame None = refl
    no_frame (Some pin) = refl

-- pages that no access pins
pub none_accessed : (user : UserNo) (va count : ℕ) (writable : Bool)
    → count_of_others (unpinned user va count writable) ≡ count
none_accessed user va count writable =
    let all = others (unpinned user va count writable) 0 (none_counted 0 count) in
    omega (arith, all)
