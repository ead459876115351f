-- Free frames, the least first.
use Rattle.std.proofs.Common.{◌≡◌, ◌≢◌, ℕ, zero, suc, ◌+◌, ◌-◌, ◌<◌, ◌≤◌, Bool, true, false, cond, eqb, ltb, not}
use Rattle.std.proofs.Common.{Option, Some, None, List, [], ◌∷◌, length, get_or, set, refl, sym, ◌∙◌, ap, arith, ⊎_elim}
use Rattle.std.specs.List.{position_or_len, prefix_len}
use Rattle.std.specs.Option.{option_map_or}
use Rattle.std.proofs.lemmas.Bool.{cases_lt, cond-true, eqb-true, lt-ltb}
use Rattle.std.proofs.lemmas.Bool.Decides.{nat_tests}
use Rattle.std.proofs.lemmas.List.Quantifiers.{position-Some}
use Rattle.std.proofs.lemmas.List.Sums.{sum_by-cons, sum_by-set}
use Rattle.iofd_words.specs.declared.numbers.FrameNo.{FrameNo}
use Rattle.frame_memory.specs.Pool.{free_count, is_free, least_free}
use Rattle.page_table_words.specs.Taken.{least_frames}

pub least_is : (holds : List ℕ) (frame : ℕ) → least_free holds ≡ Some frame
    → (frame < length holds) × (get_or holds frame 0 ≡ 0)
least_is holds frame is =
    let found = position-Some (λ count. eqb count 0) holds frame 0 is in
    (found.0, eqb-true (get_or holds frame 0) 0 found.1)

none_free : (holds : List ℕ) → length holds ≤ position_or_len (λ count. eqb count 0) holds → free_count holds ≡ 0
none_free [] all = refl
none_free (count ∷ holds) all =
    sum_by-cons (λ c. cond (eqb c 0) 1 0) count holds ∙ by_test (eqb count 0) all (none_free holds)
  where
    by_test : (b : Bool) → length (count ∷ holds) ≤ cond (not b) (1 + prefix_len (λ c. not (eqb c 0)) holds) 0
        → (length holds ≤ position_or_len (λ c. eqb c 0) holds → free_count holds ≡ 0)
        → cond b 1 0 + free_count holds ≡ 0
    by_test true all rest = absurd (omega (arith, all))
    by_test false all rest = omega (arith, rest (omega (arith, all)))

-- where some frame is free there is a least one
pub some_least : (holds : List ℕ) → 0 < free_count holds → (frame : ℕ) × (least_free holds ≡ Some frame)
some_least holds some =
    let at = position_or_len (λ count. eqb count 0) holds in
    ⊎_elim (λ (within : at < length holds). (
      at,
      cond-true (ltb at (length holds)) (Some at) None (lt-ltb at (length holds) within),
    ))
    (λ (past : length holds ≤ at). absurd (omega (arith, some, none_free holds past)))
    (cases_lt at (length holds))

-- one free frame less
pub free_taken : (holds : List ℕ) (frame : ℕ) → least_free holds ≡ Some frame
    → free_count (set holds frame 1) + 1 ≡ free_count holds
free_taken holds frame is =
    let found = least_is holds frame is in
    let counted = sum_by-set (λ count. cond (eqb count 0) 1 0) holds frame 1 0 found.0 in
    let was = ap {B = ℕ} (λ count. cond (eqb count 0) 1 0) found.1 in
    omega (arith, counted, was)

-- the least of so many, and the others
pub least_frames_more : (holds : List ℕ) (count : ℕ) (frame : FrameNo) → 0 < count → least_free holds ≡ Some frame.0
    → least_frames holds count ≡ frame ∷ least_frames (set holds frame.0 1) (count - 1)
unfolding least_frames
least_frames_more holds zero frame some is = absurd (omega (arith, some))
least_frames_more holds (suc count) frame some is =
    let less : suc count - 1 ≡ count = omega arith in
    ap (λ (o : Option ℕ). option_map_or (λ (f : ℕ). record { 0 = f } ∷ least_frames (set holds f 1) count) o []) is
    ∙ ap (λ (n : ℕ). frame ∷ least_frames (set holds frame.0 1) n) (sym less)

pub no_frames : (holds : List ℕ) (count : ℕ) → count ≡ 0 → least_frames holds count ≡ []
unfolding least_frames
no_frames holds count none = rw none refl

-- a frame on which a hold stands isn't free
pub not_free : (holds : List ℕ) (frame : ℕ) → get_or holds frame 0 ≢ 0 → is_free holds frame ≡ false
not_free holds frame held = grind (arith, nat_tests)
