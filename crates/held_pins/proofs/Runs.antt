-- The pages that are counted for a pin, by where they begin and end.
use Rattle.std.proofs.Common.{◌≡◌, ℕ, ◌+◌, ◌/◌, ◌==◌, true, List, refl, ap, arith}
use Rattle.std.specs.Bool.{IsTrue}
use Rattle.std.proofs.lemmas.Bool.Decides.{nat_tests}
use Rattle.held_pins.specs.Counts.{count_in}
use Rattle.held_pins.specs.Held.{AreAlike, holder_cmp, holder_of, is_from, is_over, is_tallied, page_cmp, page_in}
use Rattle.held_pins.specs.Held.Tally.{OfHolder, Pinned}
use Rattle.held_pins.specs.declared.keys.PageKey.{PageKey}
use Rattle.held_pins.specs.declared.pin.HeldPin.{HeldPin}
use Rattle.held_pins.specs.declared.pin_counts.PinCounts.{PinCounts}

pub over_run : (pin : HeldPin) (first : PageKey) (end : ℕ)
    → first ≡ page_in pin.file pin.ioas pin.span.first pin.access pin.write → end ≡ pin.span.last / 4096 + 1
    → (key : PageKey) → is_from first end key ≡ is_over pin key
over_run pin first end begins ends key = λ i. is_from (begins i) (ends i) key

-- a page there that isn't counted
abbrev pub Uncounted : List (PageKey × ℕ) → PageKey → ℕ → Type 0
Uncounted rows first end =
    (key : PageKey) × IsTrue (is_from first end key) × (count_in page_cmp rows key ≡ 0)

-- the pin counts for who holds it
pub own_holder : (pin : HeldPin) → is_tallied (OfHolder (holder_of pin.file pin.access)) pin ≡ true
own_holder pin = rw (itself pin.file.0, itself pin.access.0) refl
  where
    itself : (n : ℕ) → (n == n) ≡ true
    itself n = grind (arith, nat_tests)

-- where pages are counted alike, and the holders are the same
pub same_holders : {A : Type 0} (old new : PinCounts A) → new.holders ≡ old.holders
    → ((key : PageKey) → count_in page_cmp new.pages key ≡ count_in page_cmp old.pages key) → AreAlike new old
same_holders old new holders pages (Pinned key) = pages key
same_holders old new holders pages (OfHolder key) = ap (λ rows. count_in holder_cmp rows key) holders
