-- The frames of a list have a hold less for each time, one after the other.
use Rattle.std.proofs.Common.{◌≡◌, ◌∙◌, ℕ, ◌+◌, ◌-◌, ◌<◌, ◌≤◌, cond, eqb, true, false, List, [], length, take, get_or}
use Rattle.std.proofs.Common.{refl, arith, ⊎_elim}
use Rattle.std.proofs.lemmas.Bool.{cases_eq, cases_lt}
use Rattle.std.proofs.lemmas.Bool.Decides.{nat_tests}
use Rattle.std.proofs.lemmas.List.{get_or_past, get_or-set_same, get_or-set_other, length-set}
use Rattle.std.proofs.lemmas.List.Sums.{sum_by_more, sum_by-take-le}
use Rattle.iofd_words.specs.declared.numbers.FrameNo.{FrameNo}
use Rattle.frame_memory.specs.Pool.{FramePool, with_holds}
use Rattle.page_table_words.specs.Released.{HasFewerHolds, times}

pub none_less : (pool : FramePool) → HasFewerHolds pool pool []
none_less pool = record { holds = λ f. omega arith; bytes = refl; count = refl }

-- how many times each frame is listed, with the next one
times_more : (f : ℕ) (frames : List FrameNo) (i : ℕ) (d : FrameNo) → i < length frames
    → times f (take (i + 1) frames) ≡ times f (take i frames) + cond (eqb (get_or frames i d).0 f) 1 0
times_more f frames i d within = sum_by_more (λ (g : FrameNo). cond (eqb g.0 f) 1 0) frames i d within

module _ (old now : FramePool) (frames : List FrameNo) (i : ℕ) (d : FrameNo) (within : i < length frames)
    (enough : (f : ℕ) → times f frames ≤ get_or old.holds f 0) (fewer : HasFewerHolds old now (take i frames)) where
  pub has_more : 0 < get_or now.holds (get_or frames i d).0 0
  has_more =
      let f = (get_or frames i d).0 in
      let left = sum_by-take-le (λ (g : FrameNo). cond (eqb g.0 f) 1 0) frames (i + 1) in
      let same : eqb f f ≡ true = grind (arith, nat_tests) in
      let next = rw same at (times_more f frames i d within) in
      omega (arith, left, next, enough f, fewer.holds f)

  pub one_less : HasFewerHolds old (with_holds now (get_or frames i d).0 (get_or now.holds (get_or frames i d).0 0 - 1))
      (take (i + 1) frames)
  one_less =
      let f = (get_or frames i d).0 in
      let some = has_more in
      let inside : f < length now.holds =
      ⊎_elim (λ (is : f < length now.holds). is)
      (λ (past : length now.holds ≤ f). absurd (omega (arith, some, get_or_past now.holds f 0 past)))
      (cases_lt f (length now.holds)) in
      let test : eqb f f ≡ true = grind (arith, nat_tests) in
      let next = rw test at (times_more f frames i d within) in
      let here = get_or-set_same now.holds f (get_or now.holds f 0 - 1) 0 inside in
      record {
        holds = λ g.
            ⊎_elim (λ (same : g ≡ f). rw same (omega (arith, here, next, fewer.holds f, some)))
            (λ (apart : g ≡ f → ⊥).
            let other : eqb f g ≡ false = grind (arith, nat_tests) in
            let more = rw other at (times_more g frames i d within) in
            let stays = get_or-set_other now.holds f g (get_or now.holds f 0 - 1) 0 apart in
            omega (arith, stays, more, fewer.holds g))
            (cases_eq g f);
        bytes = fewer.bytes;
        count = length-set now.holds f (get_or now.holds f 0 - 1) ∙ fewer.count;
      }
