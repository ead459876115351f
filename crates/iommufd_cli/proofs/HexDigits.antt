-- A number's hex digits, written from the last one on to the end of a buffer.
use Rattle.std.proofs.Common.{◌≡◌, ◌≢◌, ℕ, zero, suc, ◌*◌, ◌+◌, ◌-◌, ◌/◌, ◌%◌, ◌^◌, ◌<◌, ◌≤◌, false, List, [], ◌∷◌}
use Rattle.std.proofs.Common.{length, drop, slice_set, refl, sym, ap, subst, ◌∙◌, arith}
use Rattle.std.proofs.lemmas.Bool.Decides.{nat_tests}
use Rattle.std.specs.Fmt.{digits, digits_onto, digit_glyph}
use Rattle.std.proofs.lemmas.List.{drop-set, length-set}
use Rattle.std.proofs.Math.Seq.{drop-length}
use Rattle.std.proofs.Math.Nat.{pow-succ'}

-- the digits of rest in front of those from start on, of which a buffer of 16 has room for start more
unfoldable pub onto : ℕ → ℕ → List ℕ → List ℕ
onto start rest written = digits_onto (48 + start) 16 false rest written

-- the digits from start on are written, and those of rest are still to come before them
pub record Written (number start rest : ℕ) (buffer : List ℕ) : Type 0 where
  pub room : 0 < start
  pub within : start ≤ 16
  pub whole : length buffer ≡ 16
  pub few : rest < 16 ^ start
  pub digits_are : onto start rest (drop start buffer) ≡ digits 16 false number

onto_none : (number : ℕ) → onto 16 number [] ≡ digits 16 false number
unfolding onto digits
onto_none number = refl

pub none_written : (number : ℕ) (buffer : List ℕ) → number < 2 ^ 64 → length buffer ≡ 16
    → Written number 16 number buffer
none_written number buffer small len = record {
  room = omega arith;
  within = omega arith;
  whole = len;
  few = omega (arith, small);
  digits_are = ap (onto 16 number) (ap (λ (n : ℕ). drop n buffer) (sym len) ∙ drop-length buffer) ∙ onto_none number;
}

few_left : (start rest : ℕ) → rest < 16 ^ (suc start) → rest / 16 < 16 ^ start
few_left start rest h =
    let power : 16 ^ (suc start) ≡ 16 * 16 ^ start = pow-succ' 16 start in
    omega (arith, h, power)

some_room : (start rest : ℕ) → rest < 16 ^ start → rest ≢ 0 → 0 < start
some_room zero rest h more = absurd (more (omega (arith, h)))
some_room (suc start) rest h more = omega arith

-- one more digit in front of those that are written
onto_last : (start rest : ℕ) (written : List ℕ) → rest / 16 ≡ 0
    → onto (suc start) rest written ≡ digit_glyph false (rest % 16) ∷ written
unfolding onto
onto_last start rest written e =
    let fuel : 48 + suc start ≡ suc (48 + start) = omega arith in
    rw (fuel, e) refl

onto_more : (start rest : ℕ) (written : List ℕ) → rest / 16 ≢ 0
    → onto (suc start) rest written ≡ onto start (rest / 16) (digit_glyph false (rest % 16) ∷ written)
unfolding onto
onto_more start rest written e =
    let fuel : 48 + suc start ≡ suc (48 + start) = omega arith in
    rw fuel (grind (arith, nat_tests))

pub all_written : (number start rest digit : ℕ) (buffer : List ℕ) → Written number start rest buffer
    → digit ≡ digit_glyph false (rest % 16) → rest / 16 ≡ 0
    → drop (start - 1) (slice_set buffer (start - 1) digit) ≡ digits 16 false number
all_written number start rest digit buffer h e last =
    let next : suc (start - 1) ≡ start = omega (arith, h.room) in
    let place : start - 1 + 1 ≡ start = omega (arith, h.room) in
    let front : drop (start - 1) (slice_set buffer (start - 1) digit) ≡ digit ∷ drop (start - 1 + 1) buffer =
    drop-set buffer (start - 1) digit (omega (arith, h.room, h.within, h.whole)) in
    let step : onto (suc (start - 1)) rest (drop start buffer) ≡ digit_glyph false (rest % 16) ∷ drop start buffer =
    onto_last (start - 1) rest (drop start buffer) last in
    let known : onto start rest (drop start buffer) ≡ digits 16 false number = h.digits_are in
    grind (arith, front, step, known, next, place, e)

pub more_written : (number start rest digit : ℕ) (buffer : List ℕ) → Written number start rest buffer
    → digit ≡ digit_glyph false (rest % 16) → rest / 16 ≢ 0
    → Written number (start - 1) (rest / 16) (slice_set buffer (start - 1) digit)
more_written number start rest digit buffer h e more =
    let next : suc (start - 1) ≡ start = omega (arith, h.room) in
    let place : start - 1 + 1 ≡ start = omega (arith, h.room) in
    let front : drop (start - 1) (slice_set buffer (start - 1) digit) ≡ digit ∷ drop (start - 1 + 1) buffer =
    drop-set buffer (start - 1) digit (omega (arith, h.room, h.within, h.whole)) in
    let step : onto (suc (start - 1)) rest (drop start buffer) ≡ onto (start - 1) (rest / 16)
    (digit_glyph false (rest % 16) ∷ drop start buffer) = onto_more (start - 1) rest (drop start buffer) more in
    let known : onto start rest (drop start buffer) ≡ digits 16 false number = h.digits_are in
    let fewer : rest / 16 < 16 ^ (start - 1) =
    few_left (start - 1) rest (subst (λ (n : ℕ). rest < 16 ^ n) (sym next) h.few) in
    record {
      room = some_room (start - 1) (rest / 16) fewer more;
      within = omega (arith, h.within);
      whole = length-set buffer (start - 1) digit ∙ h.whole;
      few = fewer;
      digits_are = grind (arith, front, step, known, next, place, e);
    }
