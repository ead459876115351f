-- Which pages of an area's memory object lie in a span of whole pages: those of one run.
use Rattle.std.proofs.Common.{◌≡◌, ℕ, ◌+◌, ◌-◌, ◌*◌, ◌/◌, ◌<◌, ◌≤◌, true, ◌&&◌, leb, ltb, max, min, ◌⊎◌, inl}
use Rattle.std.proofs.Common.{inr, ⊎_elim, arith}
use Rattle.std.proofs.Math.Nat.{div-add-mod, max-eq_left, max-eq_right, min-eq_left, min-eq_right, mod-lt}
use Rattle.std.proofs.lemmas.Bool.{cases_lt}
use Rattle.std.proofs.lemmas.Bool.Decides.{nat_tests}
use Rattle.iofd_rows.proofs.Bools.{and_true, both_true}
use Rattle.iofd_rows.proofs.ListTests.{alike}

-- pages from the one of this number on, so many and some, from the first byte to the last
pub record ArePages (page count first last : ℕ) : Type 0 where
  pub begins : first ≡ 4096 * page
  pub ends : last + 1 ≡ 4096 * (page + count)
  pub some : 0 < count

module _ (f n p q F L P Q : ℕ) (area : ArePages f n F L) (span : ArePages p q P Q) where
  abbrev first : ℕ
  first = (max F P - F) / 4096

  abbrev last : ℕ
  last = (min L Q - F) / 4096

  first_either : ((p ≤ f) × (first ≡ 0)) ⊎ ((f ≤ p) × (first + f ≡ p))
  first_either =
      let parts = div-add-mod (max F P - F) 4096 in
      let rest = mod-lt (max F P - F) {m = 4096} (omega arith) in
      let begin = area.begins in
      let begin_span = span.begins in
      ⊎_elim
      (λ (low : F < P).
      let most : max F P ≡ P = max-eq_right (omega (arith, low)) in
      inr (omega (arith, low, begin, begin_span), omega (arith, parts, rest, most, low, begin, begin_span)))
      (λ (high : P ≤ F).
      let most : max F P ≡ F = max-eq_left high in
      inl (omega (arith, high, begin, begin_span), omega (arith, parts, rest, most)))
      (cases_lt F P)

  last_either : F ≤ Q → ((f + n ≤ p + q) × (last + 1 ≡ n)) ⊎ ((p + q ≤ f + n) × (last + 1 + f ≡ p + q))
  last_either reaches =
      let parts = div-add-mod (min L Q - F) 4096 in
      let rest = mod-lt (min L Q - F) {m = 4096} (omega arith) in
      let begin = area.begins in
      let begin_span = span.begins in
      let end = area.ends in
      let end_span = span.ends in
      let some = area.some in
      ⊎_elim
      (λ (low : Q < L).
      let least : min L Q ≡ Q = min-eq_right (omega (arith, low)) in
      inr (
        omega (arith, low, end, end_span),
        omega (arith, parts, rest, least, low, begin, end, end_span, reaches),
      ))
      (λ (high : L ≤ Q).
      let least : min L Q ≡ L = min-eq_left high in
      inl (omega (arith, high, end, end_span), omega (arith, parts, rest, least, begin, end, some)))
      (cases_lt Q L)

  -- the page lies in the span where the area meets it and the run has the page
  pub page_in_run : (i : ℕ) → i < n → (leb P (F + 4096 * i) && leb (F + 4096 * i + 4096 - 1) Q)
      ≡ ((leb F Q && leb P L) && (leb first i && ltb i (first + (last + 1 - first))))
  page_in_run i within = alike _ _
      (λ lies.
      let is = and_true (leb P (F + 4096 * i)) (leb (F + 4096 * i + 4096 - 1) Q) lies in
      let low : P ≤ F + 4096 * i = let b = is.0 in search (b, arith, nat_tests) in
      let high : F + 4096 * i + 4096 - 1 ≤ Q = let b = is.1 in search (b, arith, nat_tests) in
      to low high)
      (λ runs.
      let is = and_true (leb F Q && leb P L) (leb first i && ltb i (first + (last + 1 - first))) runs in
      let met = and_true (leb F Q) (leb P L) is.0 in
      let has = and_true (leb first i) (ltb i (first + (last + 1 - first))) is.1 in
      let one : F ≤ Q = let b = met.0 in search (b, arith, nat_tests) in
      let from : first ≤ i = let b = has.0 in search (b, arith, nat_tests) in
      let below : i < first + (last + 1 - first) = let b = has.1 in search (b, arith, nat_tests) in
      back one from below)
    where
      to : P ≤ F + 4096 * i → F + 4096 * i + 4096 - 1 ≤ Q
          → ((leb F Q && leb P L) && (leb first i && ltb i (first + (last + 1 - first)))) ≡ true
      to low high =
          let begin = area.begins in
          let begin_span = span.begins in
          let end = area.ends in
          let end_span = span.ends in
          let one : F ≤ Q = omega (arith, high) in
          let two : P ≤ L = omega (arith, low, end, begin, within) in
          let from : first ≤ i =
          ⊎_elim (λ (x : (p ≤ f) × (first ≡ 0)). let none = x.1 in omega (arith, none))
          (λ (x : (f ≤ p) × (first + f ≡ p)). let is = x.1 in omega (arith, is, low, begin, begin_span)) first_either in
          let behind : i ≤ last =
          ⊎_elim (λ (x : (f + n ≤ p + q) × (last + 1 ≡ n)). let is = x.1 in omega (arith, is, within))
          (λ (x : (p + q ≤ f + n) × (last + 1 + f ≡ p + q)). let is = x.1 in
          omega (arith, is, high, begin, end_span)) (last_either one) in
          let below : i < first + (last + 1 - first) = omega (arith, from, behind) in
          both_true (leb F Q && leb P L) (leb first i && ltb i (first + (last + 1 - first)))
          (search (one, two, arith, nat_tests)) (search (from, below, arith, nat_tests))

      back : F ≤ Q → first ≤ i → i < first + (last + 1 - first)
          → (leb P (F + 4096 * i) && leb (F + 4096 * i + 4096 - 1) Q) ≡ true
      back one from below =
          let begin = area.begins in
          let begin_span = span.begins in
          let end_span = span.ends in
          let behind : i ≤ last = omega (arith, from, below) in
          let low : P ≤ F + 4096 * i =
          ⊎_elim (λ (x : (p ≤ f) × (first ≡ 0)). let least = x.0 in omega (arith, least, begin, begin_span))
          (λ (x : (f ≤ p) × (first + f ≡ p)). let is = x.1 in omega (arith, is, from, begin, begin_span))
          first_either in
          let high : F + 4096 * i + 4096 - 1 ≤ Q =
          ⊎_elim (λ (x : (f + n ≤ p + q) × (last + 1 ≡ n)). let most = x.0 in
          omega (arith, most, within, begin, end_span))
          (λ (x : (p + q ≤ f + n) × (last + 1 + f ≡ p + q)). let is = x.1 in
          omega (arith, is, behind, begin, end_span)) (last_either one) in
          search (low, high, arith, nat_tests)

  -- the run lies within the area's pages
  pub run_fits : F ≤ Q → P ≤ L → first + (last + 1 - first) ≤ n
  run_fits one two =
      let begin_span = span.begins in
      let end = area.ends in
      let from : first ≤ n =
      ⊎_elim (λ (x : (p ≤ f) × (first ≡ 0)). let none = x.1 in omega (arith, none))
      (λ (x : (f ≤ p) × (first + f ≡ p)). let is = x.1 in omega (arith, is, two, begin_span, end)) first_either in
      let to : last + 1 ≤ n =
      ⊎_elim (λ (x : (f + n ≤ p + q) × (last + 1 ≡ n)). let is = x.1 in omega (arith, is))
      (λ (x : (p + q ≤ f + n) × (last + 1 + f ≡ p + q)). let is = x.1 in let most = x.0 in omega (arith, is, most))
      (last_either one) in
      omega (arith, from, to)
