-- The frames of tables that go are those that are given back, each once and by rising number.
use Rattle.std.proofs.Common.{◌≡◌, ℕ, suc, ◌+◌, ◌<◌, ◌≤◌, Bool, true, false, cond, ◌&&◌, not, eqb, ltb, List, [], ◌∷◌}
use Rattle.std.proofs.Common.{get_or, length, refl, ap, sym, ◌∙◌, inl, inr, arith}
use Rattle.std.specs.List.{count_by, filter, list_all}
use Rattle.std.specs.List.Sorted.{IsNonDecreasingBy}
use Rattle.std.proofs.lemmas.Bool.Decides.{nat_tests}
use Rattle.std.proofs.lemmas.List.Sorted.{IsNonDecreasingBy-drop}
use Rattle.iofd_rows.proofs.Bools.{both_true}
use Rattle.iofd_rows.proofs.Each.{IsIn, of_any}
use Rattle.iofd_words.specs.Tables.{are_rising, is_among, kept_tables}
use Rattle.iofd_words.specs.declared.numbers.FrameNo.{FrameNo}
use Rattle.iofd_words.specs.declared.rows.TableFrame.{TableFrame}
use Rattle.user_memory_rows.proofs.CountBy.{any_count, count-cons}
use Rattle.user_memory_rows.specs.Shown.{tables_in}

-- ---- lists

abbrev pub times_in : List FrameNo → ℕ → ℕ
times_in frames frame = count_by (λ (f : FrameNo). eqb f.0 frame) frames

filter_same_in : {X : Type 0} (p q : X → Bool) (xs : List X) → ((x : X) → IsIn xs x → p x ≡ q x)
    → filter p xs ≡ filter q xs
filter_same_in p q [] same = refl
filter_same_in p q (x ∷ xs) same = rw (same x (inl refl), filter_same_in p q xs (λ y later. same y (inr later))) refl

-- those that pass and those that don't
pub parts : (goes : TableFrame → Bool) (tables : List TableFrame) (frame : ℕ)
    → tables_in (filter goes tables) frame + tables_in (filter (λ table. not (goes table)) tables)
    frame ≡ tables_in tables frame
parts goes [] frame = refl
parts goes (t ∷ tables) frame = by_test (goes t) (parts goes tables frame)
  where
    here : ℕ
    here = cond (eqb t.frame.0 frame) 1 0

    by_test : (b : Bool) → tables_in (filter goes tables) frame + tables_in (filter (λ table. not (goes table)) tables)
        frame ≡ tables_in tables frame
        → tables_in (cond b (t ∷ filter goes tables) (filter goes tables)) frame
        + tables_in (cond (not b) (t ∷ filter (λ table. not (goes table)) tables)
        (filter (λ table. not (goes table)) tables)) frame
        ≡ tables_in (t ∷ tables) frame
    by_test true rest =
        let first = count-cons (λ (x : TableFrame). eqb x.frame.0 frame) t (filter goes tables) in
        let all = count-cons (λ (x : TableFrame). eqb x.frame.0 frame) t tables in
        omega (arith, first, all, rest)
    by_test false rest =
        let first =
        count-cons (λ (x : TableFrame). eqb x.frame.0 frame) t (filter (λ table. not (goes table)) tables) in
        let all = count-cons (λ (x : TableFrame). eqb x.frame.0 frame) t tables in
        omega (arith, first, all, rest)

in_passes : {X : Type 0} (p : X → Bool) (xs : List X) (x : X) → IsIn xs x → p x ≡ true → IsIn (filter p xs) x
in_passes p [] x within passes = absurd within
in_passes p (y ∷ xs) x (inl same) passes = let here : p y ≡ true = ap p same ∙ passes in rw here (inl same)
in_passes p (y ∷ xs) x (inr later) passes = by_test (p y) (in_passes p xs x later passes)
  where
    by_test : (b : Bool) → IsIn (filter p xs) x → IsIn (cond b (y ∷ filter p xs) (filter p xs)) x
    by_test true rest = inr rest
    by_test false rest = rest

-- a table is in its frame
some_in : (tables : List TableFrame) (t : TableFrame) → IsIn tables t → 0 < tables_in tables t.frame.0
some_in tables t within =
    let own : eqb t.frame.0 t.frame.0 ≡ true = grind (arith, nat_tests) in
    let some = sym (any_count (λ (x : TableFrame). eqb x.frame.0 t.frame.0) tables)
    ∙ of_any (λ (x : TableFrame). eqb x.frame.0 t.frame.0) tables t within own in
    search (some, arith, nat_tests)

-- a frame of a list is there some times
pub some_time : (frames : List FrameNo) (frame : FrameNo) → IsIn frames frame → 0 < times_in frames frame.0
some_time frames frame within =
    let own : eqb frame.0 frame.0 ≡ true = grind (arith, nat_tests) in
    let some = sym (any_count (λ (f : FrameNo). eqb f.0 frame.0) frames)
    ∙ of_any (λ (f : FrameNo). eqb f.0 frame.0) frames frame within own in
    search (some, arith, nat_tests)

among_counts : (frames : List FrameNo) (frame : FrameNo) → is_among frames frame ≡ ltb 0 (times_in frames frame.0)
among_counts frames frame = any_count (λ (f : FrameNo). eqb f.0 frame.0) frames

-- ---- tables that go, and their frames

module _ (goes : TableFrame → Bool) (tables : List TableFrame) (given : List FrameNo) (once : (frame : ℕ)
    → tables_in tables frame ≤ 1)
    (same : (frame : ℕ) → times_in given frame ≡ tables_in (filter goes tables) frame) where
  pub among_is : (t : TableFrame) → IsIn tables t → is_among given t.frame ≡ goes t
  among_is t within = among_counts given t.frame ∙ ap (ltb 0) (same t.frame.0) ∙ by_test (goes t) refl
    where
      by_test : (b : Bool) → goes t ≡ b → ltb 0 (tables_in (filter goes tables) t.frame.0) ≡ b
      by_test true is =
          let some = some_in (filter goes tables) t (in_passes goes tables t within is) in grind (arith, nat_tests)
      by_test false is =
          let stays : not (goes t) ≡ true = rw is refl in
          let other = some_in (filter (λ table. not (goes table)) tables) t
          (in_passes (λ table. not (goes table)) tables t within stays) in
          let sum = parts goes tables t.frame.0 in
          let few = once t.frame.0 in
          let none : tables_in (filter goes tables) t.frame.0 ≡ 0 = omega (arith, other, sum, few) in
          rw none refl

  -- the others stay
  pub kept_are : kept_tables given tables ≡ filter (λ table. not (goes table)) tables
  kept_are = filter_same_in (λ (t : TableFrame). not (is_among given t.frame)) (λ (t : TableFrame). not (goes t)) tables
      (λ t within. ap not (among_is t within))

  -- each is there once at most
  pub given_once : (frame : ℕ) → times_in given frame ≤ 1
  given_once frame =
      let is = same frame in let sum = parts goes tables frame in let few = once frame in omega (arith, is, sum, few)

-- ---- frames by rising number

first_least : (f : FrameNo) (fs : List FrameNo) → IsNonDecreasingBy (λ (f : FrameNo). f.0) (f ∷ fs)
    → (i : ℕ) (d : FrameNo) → i < length fs → f.0 ≤ (get_or fs i d).0
first_least f fs rises i d within = rises 0 (suc i) d (omega arith) (omega (arith, within))

rises_later : (f : FrameNo) (fs : List FrameNo) → IsNonDecreasingBy (λ (f : FrameNo). f.0) (f ∷ fs)
    → IsNonDecreasingBy (λ (f : FrameNo). f.0) fs
rises_later f fs rises = IsNonDecreasingBy-drop (λ (f : FrameNo). f.0) 1 (f ∷ fs) rises

above_all : (n : ℕ) (fs : List FrameNo) → times_in fs n ≡ 0
    → ((i : ℕ) (d : FrameNo) → i < length fs → n ≤ (get_or fs i d).0) → list_all (λ (f : FrameNo). ltb n f.0) fs ≡ true
above_all n [] none least = refl
above_all n (f ∷ fs) none least =
    let all : times_in (f ∷ fs) n ≡ cond (eqb f.0 n) 1 0 + times_in fs n =
    count-cons (λ (x : FrameNo). eqb x.0 n) f fs in
    let first : n ≤ f.0 = least 0 f (omega arith) in
    by_test (eqb f.0 n) refl (sym all ∙ none) first
    (λ fewer. above_all n fs fewer (λ i d within. least (suc i) d (omega (arith, within))))
  where
    by_test : (b : Bool) → eqb f.0 n ≡ b → cond b 1 0 + times_in fs n ≡ 0 → n ≤ f.0
        → (times_in fs n ≡ 0 → list_all (λ (f : FrameNo). ltb n f.0) fs ≡ true)
        → (ltb n f.0 && list_all (λ (f : FrameNo). ltb n f.0) fs) ≡ true
    by_test true is sum first later = absurd (omega (arith, sum))
    by_test false is sum first later =
        let above : ltb n f.0 ≡ true = grind (arith, nat_tests) in
        both_true _ _ above (later (omega (arith, sum)))

-- those that don't fall, and of which none is there twice, rise
pub rising : (fs : List FrameNo) → IsNonDecreasingBy (λ (f : FrameNo). f.0) fs → ((frame : ℕ) → times_in fs frame ≤ 1)
    → are_rising fs ≡ true
rising [] rises once = refl
rising (f ∷ fs) rises once =
    let here = count-cons (λ (x : FrameNo). eqb x.0 f.0) f fs in
    let own : eqb f.0 f.0 ≡ true = grind (arith, nat_tests) in
    let count : times_in (f ∷ fs) f.0 ≡ 1 + times_in fs f.0 =
    here ∙ ap (λ (b : Bool). cond {A = ℕ} b 1 0 + times_in fs f.0) own in
    let few = once f.0 in
    both_true _ _ (above_all f.0 fs (omega (arith, count, few)) (first_least f fs rises))
    (rising fs (rises_later f fs rises) (λ frame. let more = count-cons (λ (x : FrameNo). eqb x.0 frame) f fs in
    let bound = once frame in omega (arith, more, bound)))
