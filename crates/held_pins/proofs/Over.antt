-- Which pages a pin of whole pages covers.
use Rattle.std.proofs.Common.{◌≡◌, ℕ, ◌+◌, ◌/◌, ◌%◌, ◌<◌, ◌≤◌, Bool, true, false, ◌&&◌, ◌==◌, refl, arith}
use Rattle.std.specs.Prelude.{nat_le, nat_lt}
use Rattle.std.proofs.lemmas.Bool.{and_parts}
use Rattle.std.proofs.lemmas.Bool.Decides.{nat_tests}
use Rattle.iofd_words.specs.Bounds.{Bounds}
use Rattle.iofd_words.specs.Span.{holds, is_whole_pages, meets}
use Rattle.held_pins.specs.HeldPins.{is_whole}
use Rattle.held_pins.specs.declared.pin.HeldPin.{HeldPin}

pub record OfPages (span : Bounds) : Type 0 where
  pub first : span.first % 4096 ≡ 0
  pub last : span.last % 4096 ≡ 4095
  pub ordered : span.first ≤ span.last

of_pages : (pin : HeldPin) → is_whole pin ≡ true → OfPages pin.span
of_pages pin whole =
    let outer = and_parts (is_whole_pages pin.span) (nat_le pin.span.first pin.span.last) whole in
    let inner = and_parts (pin.span.first % 4096 == 0) (pin.span.last % 4096 == 4095) outer.0 in
    record {
      first = search (inner.0, arith, nat_tests);
      last = search (inner.1, arith, nat_tests);
      ordered = search (outer.1, arith, nat_tests);
    }

pub whole_pin : (pin : HeldPin) → is_whole_pages pin.span ≡ true → pin.span.first ≤ pin.span.last
    → is_whole pin ≡ true
whole_pin pin whole ordered = rw whole (grind (arith, nat_tests))

-- ---- an address is in a pin where its page is covered

same_tests : (x y u v : ℕ) → (x ≤ y → u ≤ v) → (u ≤ v → x ≤ y) → nat_le x y ≡ nat_le u v
same_tests x y u v there back = grind (arith, nat_tests)

from_page : (first address : ℕ) → first % 4096 ≡ 0 → nat_le first address ≡ nat_le (first / 4096) (address / 4096)
from_page first address border =
    same_tests first address (first / 4096) (address / 4096) (λ below. omega (arith, border, below))
    (λ below. omega (arith, border, below))

to_page : (last address : ℕ) → last % 4096 ≡ 4095 → nat_le address last ≡ nat_le (address / 4096) (last / 4096)
to_page last address border =
    same_tests address last (address / 4096) (last / 4096) (λ below. omega (arith, border, below))
    (λ below. omega (arith, border, below))

below_next : (n last : ℕ) → nat_lt n (last + 1) ≡ nat_le n last
below_next n last = grind (arith, nat_tests)

pub page_covered : (pin : HeldPin) (address : ℕ) → is_whole pin ≡ true
    → (nat_le (pin.span.first / 4096) (address / 4096) && nat_lt (address / 4096) (pin.span.last / 4096 + 1))
    ≡ holds pin.span address
page_covered pin address whole =
    let pages = of_pages pin whole in
    rw (
      below_next (address / 4096) (pin.span.last / 4096),
      from_page pin.span.first address pages.first,
      to_page pin.span.last address pages.last,
    ) refl

-- ---- a pin meets a span where it covers one of the pages at which the span has addresses

pub met_over : (pin : HeldPin) (span : Bounds) (page : ℕ) → is_whole pin ≡ true → pin.span.first / 4096 ≤ page
    → page < pin.span.last / 4096 + 1 → span.first / 4096 ≤ page → page ≤ span.last / 4096
    → meets pin.span span ≡ true
met_over pin span page whole begins ends from to =
    let pages = of_pages pin whole in
    let before : pin.span.first ≤ span.last = omega (arith, pages.first, begins, to) in
    let after : span.first ≤ pin.span.last = omega (arith, pages.last, ends, from) in
    both before after
  where
    both : pin.span.first ≤ span.last → span.first ≤ pin.span.last → meets pin.span span ≡ true
    both before after = grind (arith, nat_tests)

pub record SharedPage (pin : HeldPin) (span : Bounds) : Type 0 where
  pub page : ℕ
  pub begins : pin.span.first / 4096 ≤ page
  pub ends : page < pin.span.last / 4096 + 1
  pub from : span.first / 4096 ≤ page
  pub to : page ≤ span.last / 4096

pub shared_page : (pin : HeldPin) (span : Bounds) → is_whole pin ≡ true → span.first ≤ span.last
    → meets pin.span span ≡ true → SharedPage pin span
shared_page pin span whole ordered met =
    let pages = of_pages pin whole in
    let parts = and_parts (nat_le pin.span.first span.last) (nat_le span.first pin.span.last) met in
    let before : pin.span.first ≤ span.last = search (parts.0, arith, nat_tests) in
    let after : span.first ≤ pin.span.last = search (parts.1, arith, nat_tests) in
    let long : pin.span.first / 4096 ≤ pin.span.last / 4096 = omega (arith, pages.ordered) in
    let wide : span.first / 4096 ≤ span.last / 4096 = omega (arith, ordered) in
    let begins : pin.span.first / 4096 ≤ span.last / 4096 = omega (arith, before) in
    let ends : span.first / 4096 ≤ pin.span.last / 4096 = omega (arith, after) in
    by_first (nat_le (pin.span.first / 4096) (span.first / 4096)) refl long wide begins ends
  where
    by_first : (b : Bool) → nat_le (pin.span.first / 4096) (span.first / 4096) ≡ b
        → pin.span.first / 4096 ≤ pin.span.last / 4096 → span.first / 4096 ≤ span.last / 4096
        → pin.span.first / 4096 ≤ span.last / 4096 → span.first / 4096 ≤ pin.span.last / 4096 → SharedPage pin span
    by_first true is long wide begins ends =
        let below : pin.span.first / 4096 ≤ span.first / 4096 = grind (arith, nat_tests) in
        record {
          page = span.first / 4096;
          begins = below;
          ends = omega (arith, ends);
          from = omega arith;
          to = wide;
        }
    by_first false is long wide begins ends =
        let above : span.first / 4096 ≤ pin.span.first / 4096 = grind (arith, nat_tests) in
        record {
          page = pin.span.first / 4096;
          begins = omega arith;
          ends = omega (arith, long);
          from = above;
          to = begins;
        }
