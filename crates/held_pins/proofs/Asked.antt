-- What is asked of the counts is so of the pins.
use Rattle.std.proofs.Common.{◌≡◌, ℕ, ◌+◌, ◌/◌, ◌<◌, ◌≤◌, Bool, true, false, cond, ◌&&◌, ◌||◌, ◌==◌, not, List, refl}
use Rattle.std.proofs.Common.{ap, sym, ◌∙◌, arith}
use Rattle.std.specs.Bool.{IsFalse, IsTrue}
use Rattle.std.specs.List.{count_by, list_any}
use Rattle.std.specs.Prelude.{nat_lt}
use Rattle.std.proofs.lemmas.Bool.{and_parts}
use Rattle.std.proofs.lemmas.Bool.Decides.{nat_tests}
use Rattle.iofd_words.specs.Bounds.{Bounds}
use Rattle.iofd_words.specs.Span.{holds, meets}
use Rattle.iofd_words.specs.declared.fault.AccessKind.TheVariants.{Read, Write}
use Rattle.iofd_words.specs.declared.numbers.FileNo.{FileNo}
use Rattle.iofd_words.specs.declared.numbers.ObjId.{ObjId}
use Rattle.held_pins.specs.Counts.{count_in}
use Rattle.held_pins.specs.Held.{IsTied, count_exchanged, exchanged, is_from, is_over, is_reached, is_tallied, page_cmp}
use Rattle.held_pins.specs.Held.{page_in, pins_of, tally}
use Rattle.held_pins.specs.Held.Tally.{Pinned}
use Rattle.held_pins.specs.HeldPins.{is_covered_in, is_in, is_of, is_whole}
use Rattle.held_pins.specs.declared.keys.PageKey.{PageKey}
use Rattle.held_pins.specs.declared.pin.HeldPin.{HeldPin}
use Rattle.held_pins.specs.declared.pin_counts.PinCounts.{PinCounts}
use Rattle.held_pins.proofs.Lists.{any_alike, any_counted, any_either, passing}
use Rattle.held_pins.proofs.Order.{reached_test, to_reached}
use Rattle.held_pins.proofs.Over.{met_over, page_covered, shared_page}
use Rattle.held_pins.proofs.PageKeys.{from_exchanged, from_test, to_test}
use Rattle.held_pins.proofs.Pins.{Rows}

-- ---- is the page at the address covered

-- whether a key is counted, of which the count was read by a key that is the same
pub counted_at : (rows : List (PageKey × ℕ)) (key same : PageKey) (n : ℕ) → n ≡ count_in page_cmp rows key
    → key ≡ same → nat_lt 0 n ≡ nat_lt 0 (count_in page_cmp rows same)
counted_at rows key same n read is = ap (λ m. nat_lt 0 m) (read ∙ ap (λ k. count_in page_cmp rows k) is)

kind_alike : (f i a w u p h : Bool) → w ≡ u → p ≡ h → (f && i && a && w && p) ≡ ((f && a) && (f && i) && h && u)
kind_alike true true true w u p h kind same = rw (kind, same) (swapped u h)
  where
    swapped : (x y : Bool) → (x && y) ≡ (y && x)
    swapped true true = refl
    swapped true false = refl
    swapped false true = refl
    swapped false false = refl
kind_alike true true false w u p h kind same = refl
kind_alike true false true w u p h kind same = refl
kind_alike true false false w u p h kind same = refl
kind_alike false i a w u p h kind same = refl

module _ {A : Type 0} (spans : Rows) (counts : PinCounts A) (file : FileNo) (access ioas : ObjId) (address : ℕ)
    (tied : IsTied spans counts) where
  -- the pin is of the access object in the address space, covers the page at the address, and is for what is wanted
  abbrev covered_for : (Bool → Bool) → HeldPin → Bool
  covered_for wanted pin =
      is_of file access pin && is_in file ioas pin && holds pin.span address && wanted pin.write

  abbrev page_for : Bool → PageKey
  page_for write = page_in file ioas address access write

  -- the page is counted for writes too, or for reads alone, where a pin for just that covers it
  counted_for : (write : Bool) (wanted : Bool → Bool) → ((b : Bool) → cond b write (not write) ≡ wanted b)
      → nat_lt 0 (tally counts (Pinned (page_for write))) ≡ list_any (covered_for wanted) (pins_of spans)
  counted_for write wanted just =
      let what = Pinned (page_for write) in
      ap (λ n. nat_lt 0 n) (tied.tallied what)
      ∙ sym (any_counted (is_tallied what) (pins_of spans))
      ∙ any_alike is_whole (is_tallied what) (covered_for wanted) (pins_of spans) tied.whole
      (λ pin whole. kind_alike (pin.file.0 == file.0) (pin.ioas.0 == ioas.0) (pin.access.0 == access.0) _
      (wanted pin.write) _ (holds pin.span address) (just pin.write) (page_covered pin address whole))

  pub write_covered : nat_lt 0 (tally counts (Pinned (page_for true)))
      ≡ is_covered_in (pins_of spans) file access ioas address Write
  write_covered = counted_for true (λ write. write) for_writes
    where
      for_writes : (b : Bool) → cond b true false ≡ b
      for_writes true = refl
      for_writes false = refl

  -- each pin is for reads; `write` is whether the page is counted for writes
  pub read_covered : (write : Bool) → nat_lt 0 (tally counts (Pinned (page_for true))) ≡ write
      → (write || nat_lt 0 (tally counts (Pinned (page_for false))))
      ≡ is_covered_in (pins_of spans) file access ioas address Read
  read_covered write is =
      ap (λ (b : Bool). b || nat_lt 0 (tally counts (Pinned (page_for false)))) (sym is ∙ write_covered)
      ∙ ap (λ (b : Bool). is_covered_in (pins_of spans) file access ioas address Write || b)
      (counted_for false (λ write. not write) for_reads)
      ∙ sym (any_either (covered_for (λ write. write)) (covered_for (λ write. not write)) (pins_of spans))
      ∙ any_alike is_whole (λ pin. covered_for (λ write. write) pin || covered_for (λ write. not write) pin)
      (covered_for (λ write. true)) (pins_of spans) tied.whole
      (λ pin whole. for_either (is_of file access pin && is_in file ioas pin && holds pin.span address) pin.write)
    where
      for_reads : (b : Bool) → cond b false true ≡ not b
      for_reads true = refl
      for_reads false = refl

      for_either : (there write : Bool) → ((there && write) || (there && not write)) ≡ (there && true)
      for_either true true = refl
      for_either true false = refl
      for_either false write = refl

-- ---- does some pin of an object meet the span

same_number : (x y : ℕ) → x ≡ y → (x == y) ≡ true
same_number x y same = grind (arith, nat_tests)

number : (x y : ℕ) → (x == y) ≡ true → x ≡ y
number x y is = grind (arith, nat_tests)

-- the key is of a page that the pin covers; these are its address space and its access object, or the other way round
abbrev is_over_by : (HeldPin → ObjId) → (HeldPin → ObjId) → HeldPin → PageKey → Bool
is_over_by object_of other_of pin key =
    is_from (page_in pin.file (object_of pin) pin.span.first (other_of pin) pin.write) (pin.span.last / 4096 + 1) key

-- `count` is how often pages are counted, by such keys
module _ (object_of other_of : HeldPin → ObjId) (count : PageKey → ℕ) (pins : List HeldPin)
    (whole : count_by (λ x. not (is_whole x)) pins ≡ 0)
    (over : (key : PageKey) → count key ≡ count_by (λ pin. is_over_by object_of other_of pin key) pins)
    (file : FileNo) (object : ObjId) (span : Bounds) where
  abbrev is_met : HeldPin → Bool
  is_met pin = pin.file.0 == file.0 && (object_of pin).0 == object.0 && meets pin.span span

  -- a pin that covers a page which the span reaches meets the span
  over_met : (pin : HeldPin) (key : PageKey) → is_whole pin ≡ true → is_reached file object span key ≡ true
      → is_over_by object_of other_of pin key ≡ true → is_met pin ≡ true
  over_met pin key good reached is =
      let there = reached_test file object span key reached in
      let here = from_test (page_in pin.file (object_of pin) pin.span.first (other_of pin) pin.write)
      (pin.span.last / 4096 + 1) key is in
      rw (
        same_number pin.file.0 file.0 (here.file ∙ there.same_file),
        same_number (object_of pin).0 object.0 (here.object ∙ there.same_object),
      ) (met_over pin span key.page good here.from here.below there.from there.to)

  met_there : (key : PageKey) → is_reached file object span key ≡ true → 0 < count key
      → list_any is_met pins ≡ true
  met_there key reached counted =
      let test = λ (pin : HeldPin). is_over_by object_of other_of pin key in
      let many : 0 < count_by test pins = rw (← over key) counted in
      let some : nat_lt 0 (count_by test pins) ≡ true = grind (arith, nat_tests) in
      let found = passing is_whole test pins whole (any_counted test pins ∙ some) in
      found.among is_met (over_met found.it key found.is_good reached found.passes)

  -- a pin that meets the span covers a page which the span reaches
  met_page : span.first ≤ span.last → (pin : HeldPin) → is_whole pin ≡ true → is_met pin ≡ true
      → (key : PageKey) × (is_reached file object span key ≡ true) × (is_over_by object_of other_of pin key ≡ true)
  met_page ordered pin good met =
      let outer = and_parts (pin.file.0 == file.0 && (object_of pin).0 == object.0) (meets pin.span span) met in
      let inner = and_parts (pin.file.0 == file.0) ((object_of pin).0 == object.0) outer.0 in
      let shared = shared_page pin span good ordered outer.1 in
      let key : PageKey = record {
        file = pin.file.0;
        object = (object_of pin).0;
        page = shared.page;
        access = (other_of pin).0;
        write = pin.write;
      } in
      let same_file = number pin.file.0 file.0 inner.0 in
      let same_object = number (object_of pin).0 object.0 inner.1 in (
        key,
        to_reached file object span key same_file same_object shared.from shared.to,
        to_test (page_in pin.file (object_of pin) pin.span.first (other_of pin) pin.write)
            (pin.span.last / 4096 + 1) key
            (record {
              file = refl;
              object = refl;
              access = refl;
              write = refl;
              from = shared.begins;
              below = shared.ends;
            }),
      )

  none_there : span.first ≤ span.last
      → ((key : PageKey) → is_reached file object span key ≡ true → count key ≡ 0)
      → (b : Bool) → list_any is_met pins ≡ b → false ≡ b
  none_there ordered none false met = refl
  none_there ordered none true met =
      let found = passing is_whole is_met pins whole met in
      let shared = met_page ordered found.it found.is_good found.passes in
      let test = λ (pin : HeldPin). is_over_by object_of other_of pin shared.0 in
      let some : nat_lt 0 (count_by test pins) ≡ true = sym (any_counted test pins) ∙ found.among test shared.2 in
      let many : 0 < count_by test pins = search (some, arith, nat_tests) in
      absurd (omega (arith, over shared.0, none shared.0 shared.1, many))

  pub met : span.first ≤ span.last → (b : Bool)
      → (IsTrue b → ((key : PageKey) × IsTrue (is_reached file object span key) × (0 < count key)))
      → (IsFalse b → (key : PageKey) → IsTrue (is_reached file object span key) → count key ≡ 0)
      → b ≡ list_any is_met pins
  met ordered true some none =
      let there = some refl in
      sym (met_there there.0 there.1 there.2)
  met ordered false some none = none_there ordered (none refl) (list_any is_met pins) refl

-- so where pages are counted by their address space, and by the access object where that is exchanged
pub access_over : (pins : List HeldPin) (rows : List (PageKey × ℕ))
    → ((key : PageKey) → count_in page_cmp rows key ≡ count_by (λ pin. is_over pin key) pins) → (key : PageKey)
    → count_exchanged rows key ≡ count_by (λ pin. is_over_by (λ x. x.access) (λ x. x.ioas) pin key) pins
access_over pins rows over key =
    over (exchanged key)
    ∙ (λ i. count_by (λ pin. from_exchanged (page_in pin.file pin.ioas pin.span.first pin.access pin.write)
    (pin.span.last / 4096 + 1) key i) pins)
