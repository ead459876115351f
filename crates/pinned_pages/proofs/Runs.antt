-- Pages of a run: their frames, and how many there are.
use Rattle.std.proofs.Common.{◌≡◌, ◌≢◌, ℕ, zero, suc, ◌+◌, ◌-◌, ◌<◌, ◌≤◌, Bool, true, false, cond, eqb, ltb, leb, not}
use Rattle.std.proofs.Common.{◌&&◌}
use Rattle.std.proofs.Common.{Option, Some, None, List, [], ◌∷◌, ◌++◌, length, refl, sym, ap, ◌∙◌, arith, ⊎_elim}
use Rattle.std.specs.Prelude.{IfNone, is_none, is_some}
use Rattle.std.specs.List.{cons_option, count_by, filter_map, list_all, range_with_len, slice_get}
use Rattle.std.proofs.lemmas.Bool.{and_parts, cases_eq}
use Rattle.std.proofs.lemmas.Bool.Decides.{nat_tests}
use Rattle.std.proofs.lemmas.List.Elements.{filter_map-append}
use Rattle.std.proofs.lemmas.List.Folds.{list_all-append}
use Rattle.std.proofs.lemmas.List.Sums.{sum_by-append, sum_by-cons, sum_by_push}
use Rattle.iofd_words.specs.declared.numbers.FrameNo.{FrameNo}
use Rattle.pinned_pages.specs.Access.{is_in}
use Rattle.pinned_pages.specs.Holds.{times}
use Rattle.pinned_pages.specs.Pages.{or_else, unless}

-- ---- ranges

pub range_split : (from a b : ℕ)
    → range_with_len from (a + b) ≡ range_with_len from a ++ range_with_len (from + a) b
range_split from zero b =
    let one : 0 + b ≡ b = omega arith in
    let two : from + 0 ≡ from = omega arith in
    rw (one, two) refl
range_split from (suc a) b =
    let next : suc a + b ≡ suc (a + b) = omega arith in
    let same : from + 1 + a ≡ from + suc a = omega arith in
    rw next (ap (λ (ns : List ℕ). from ∷ ns) (range_split (from + 1) a b
    ∙ ap (λ (n : ℕ). range_with_len (from + 1) a ++ range_with_len n b) same))

pub range_more : (from count : ℕ) → range_with_len from (count + 1) ≡ range_with_len from count ++ (from + count) ∷ []
range_more from count = range_split from count 1

pub mapped_more : (h : ℕ → Option FrameNo) (from n j : ℕ) → from + n ≡ j
    → filter_map h (range_with_len from (n + 1)) ≡ filter_map h (range_with_len from n) ++ cons_option (h j) []
mapped_more h from n j next =
    ap (filter_map h) (range_more from n) ∙ filter_map-append h (range_with_len from n) ((from + n) ∷ [])
    ∙ ap (λ i. filter_map h (range_with_len from n) ++ cons_option (h i) []) next

pub counted_more : (p : ℕ → Bool) (from n j : ℕ) → from + n ≡ j
    → count_by p (range_with_len from (n + 1)) ≡ count_by p (range_with_len from n) + cond (p j) 1 0
counted_more p from n j next =
    ap (count_by p) (range_more from n) ∙ sum_by_push (λ i. cond (p i) 1 0) (range_with_len from n) (from + n)
    ∙ ap (λ i. count_by p (range_with_len from n) + cond (p i) 1 0) next

pub counted_few : (p : ℕ → Bool) (from k n : ℕ) → k ≤ n
    → count_by p (range_with_len from k) ≤ count_by p (range_with_len from n)
counted_few p from k n le =
    let split : n ≡ k + (n - k) = omega (arith, le) in
    let sum = ap (count_by p) (ap (range_with_len from) split ∙ range_split from k (n - k))
    ∙ sum_by-append (λ i. cond (p i) 1 0) (range_with_len from k) (range_with_len (from + k) (n - k)) in
    omega (arith, sum)

pub times_few_mapped : (frame : ℕ) (h : ℕ → Option FrameNo) (from k n : ℕ) → k ≤ n
    → times frame (filter_map h (range_with_len from k)) ≤ times frame (filter_map h (range_with_len from n))
times_few_mapped frame h from k n le =
    let split : n ≡ k + (n - k) = omega (arith, le) in
    let sum = ap (λ is. times frame (filter_map h is)) (ap (range_with_len from) split ∙ range_split from k (n - k))
    ∙ ap (times frame) (filter_map-append h (range_with_len from k) (range_with_len (from + k) (n - k)))
    ∙ sum_by-append (λ (f : FrameNo). cond (eqb f.0 frame) 1 0) (filter_map h (range_with_len from k))
    (filter_map h (range_with_len (from + k) (n - k))) in
    omega (arith, sum)

-- ---- tests of each

pub all_more : (p : ℕ → Bool) (from n j : ℕ) → from + n ≡ j → list_all p (range_with_len from n) ≡ true → p j ≡ true
    → list_all p (range_with_len from (n + 1)) ≡ true
all_more p from n j next before here =
    ap (list_all p) (range_more from n) ∙ list_all-append p (range_with_len from n) ((from + n) ∷ [])
    ∙ rw (next, before, here) refl

pub one_fails : (p : ℕ → Bool) (from n i : ℕ) → from ≤ i → i < from + n → p i ≡ false
    → list_all p (range_with_len from n) ≡ false
one_fails p from zero i low high none = absurd (omega (arith, low, high))
one_fails p from (suc n) i low high none =
    ⊎_elim
    (λ (same : i ≡ from). let here : p from ≡ false = rw same at none in rw here refl)
    (λ (differ : i ≢ from). by_first (p from) (one_fails p (from + 1) n i (omega (arith, low, differ))
    (omega (arith, high)) none))
    (cases_eq i from)
  where
    by_first : (b : Bool) → list_all p (range_with_len (from + 1) n) ≡ false
        → (b && list_all p (range_with_len (from + 1) n)) ≡ false
    by_first true rest = rest
    by_first false rest = refl

pub all_at : (p : ℕ → Bool) (from n i : ℕ) → list_all p (range_with_len from n) ≡ true → from ≤ i → i < from + n
    → p i ≡ true
all_at p from zero i all low high = absurd (omega (arith, low, high))
all_at p from (suc n) i all low high =
    let parts = and_parts (p from) (list_all p (range_with_len (from + 1) n)) all in
    ⊎_elim
    (λ (same : i ≡ from). rw same parts.0)
    (λ (differ : i ≢ from). all_at p (from + 1) n i parts.1 (omega (arith, low, differ)) (omega (arith, high)))
    (cases_eq i from)

pub all_from : (p : ℕ → Bool) (from n : ℕ) → ((i : ℕ) → from ≤ i → i < from + n → p i ≡ true)
    → list_all p (range_with_len from n) ≡ true
all_from p from zero each = refl
all_from p from (suc n) each =
    let here = each from (omega arith) (omega arith) in
    rw here (all_from p (from + 1) n (λ i low high. each i (omega (arith, low)) (omega (arith, high))))

-- ---- what agrees on a run

pub same_mapped : (h k : ℕ → Option FrameNo) (from n : ℕ) → ((i : ℕ) → from ≤ i → i < from + n → h i ≡ k i)
    → filter_map h (range_with_len from n) ≡ filter_map k (range_with_len from n)
same_mapped h k from zero each = refl
same_mapped h k from (suc n) each =
    let rest = same_mapped h k (from + 1) n (λ i low high. each i (omega (arith, low)) (omega (arith, high))) in
    ap (λ o. cons_option o (filter_map h (range_with_len (from + 1) n))) (each from (omega arith) (omega arith))
    ∙ ap (cons_option (k from)) rest

pub same_counted : (p q : ℕ → Bool) (from n : ℕ) → ((i : ℕ) → from ≤ i → i < from + n → p i ≡ q i)
    → count_by p (range_with_len from n) ≡ count_by q (range_with_len from n)
same_counted p q from zero each = refl
same_counted p q from (suc n) each =
    let rest = same_counted p q (from + 1) n (λ i low high. each i (omega (arith, low)) (omega (arith, high))) in
    let here = ap {B = ℕ} (λ b. cond b 1 0) (each from (omega arith) (omega arith)) in
    let one = sum_by-cons (λ i. cond (p i) 1 0) from (range_with_len (from + 1) n) in
    let two = sum_by-cons (λ i. cond (q i) 1 0) from (range_with_len (from + 1) n) in
    omega (arith, rest, here, one, two)

-- no frames
pub none_mapped : (h : ℕ → Option FrameNo) (from n : ℕ) → ((i : ℕ) → from ≤ i → i < from + n → h i ≡ None)
    → filter_map h (range_with_len from n) ≡ []
none_mapped h from zero each = refl
none_mapped h from (suc n) each =
    let rest = none_mapped h (from + 1) n (λ i low high. each i (omega (arith, low)) (omega (arith, high))) in
    ap (λ o. cons_option o (filter_map h (range_with_len (from + 1) n))) (each from (omega arith) (omega arith)) ∙ rest

pub in_run : (first count i : ℕ) → first ≤ i → i < first + count → is_in first count i ≡ true
in_run first count i low high = grind (arith, nat_tests)

pub below_run : (first count i : ℕ) → i < first → is_in first count i ≡ false
below_run first count i low = grind (arith, nat_tests)

pub above_run : (first count i : ℕ) → first + count ≤ i → is_in first count i ≡ false
above_run first count i high = grind (arith, nat_tests)

pub in_run_is : (first count i : ℕ) → is_in first count i ≡ true → (first ≤ i) × (i < first + count)
in_run_is first count i is =
    let parts = and_parts (leb first i) (ltb i (first + count)) is in
    (search (parts.0, arith, nat_tests), search (parts.1, arith, nat_tests))

-- those of a run's pages among all
pub run_mapped : (h : ℕ → Option FrameNo) (first count n : ℕ) → first + count ≤ n
    → filter_map (λ i. cond (is_in first count i) (h i) None) (range_with_len 0 n)
    ≡ filter_map h (range_with_len first count)
run_mapped h first count n fits =
    let r = λ (i : ℕ). cond (is_in first count i) (h i) None in
    let split : n ≡ first + (count + (n - first - count)) = omega (arith, fits) in
    let same : 0 + first ≡ first = omega arith in
    let low = none_mapped r 0 first (λ i l high. rw (below_run first count i (omega (arith, high))) refl) in
    let here = same_mapped r h first count (λ i l high. rw (in_run first count i l high) refl) in
    let up = none_mapped r (first + count) (n - first - count)
    (λ i l high. rw (above_run first count i l) refl) in
    ap (λ m. filter_map r (range_with_len 0 m)) split
    ∙ ap (filter_map r) (range_split 0 first (count + (n - first - count)))
    ∙ filter_map-append r (range_with_len 0 first) (range_with_len (0 + first) (count + (n - first - count)))
    ∙ ap (λ fs. fs ++ filter_map r (range_with_len (0 + first) (count + (n - first - count)))) low
    ∙ ap (λ f. filter_map r (range_with_len f (count + (n - first - count)))) same
    ∙ ap (filter_map r) (range_split first count (n - first - count))
    ∙ filter_map-append r (range_with_len first count) (range_with_len (first + count) (n - first - count))
    ∙ rw (here, up) (append_none (filter_map h (range_with_len first count)))
  where
    append_none : (fs : List FrameNo) → fs ++ [] ≡ fs
    append_none [] = refl
    append_none (f ∷ fs) = ap (λ rest. f ∷ rest) (append_none fs)

-- ---- frames that are there, and those of the others

one_more : (frame : ℕ) (o : Option FrameNo) (fs : List FrameNo)
    → times frame (cons_option o fs) ≡ times frame (cons_option o []) + times frame fs
one_more frame None fs = omega arith
one_more frame (Some f) fs =
    let more = sum_by-cons (λ (g : FrameNo). cond (eqb g.0 frame) 1 0) f fs in
    let one = sum_by-cons (λ (g : FrameNo). cond (eqb g.0 frame) 1 0) f [] in
    omega (arith, more, one)

split_one : (frame : ℕ) (a b : Option FrameNo)
    → times frame (cons_option (or_else a b) []) ≡ times frame (cons_option a []) + times frame (cons_option (unless a
    b) [])
split_one frame None b = omega arith
split_one frame (Some f) b = omega arith

pub split_times : (frame : ℕ) (a b : ℕ → Option FrameNo) (is : List ℕ)
    → times frame (filter_map (λ i. or_else (a i) (b i)) is) ≡ times frame (filter_map a is)
    + times frame (filter_map (λ i. unless (a i) (b i)) is)
split_times frame a b [] = refl
split_times frame a b (i ∷ is) =
    let rest = split_times frame a b is in
    let one = one_more frame (or_else (a i) (b i)) (filter_map (λ k. or_else (a k) (b k)) is) in
    let two = one_more frame (a i) (filter_map a is) in
    let three = one_more frame (unless (a i) (b i)) (filter_map (λ k. unless (a k) (b k)) is) in
    let here = split_one frame (a i) (b i) in
    omega (arith, rest, one, two, three, here)

-- some of them are no more than all
pub times_chosen : (frame : ℕ) (b : ℕ → Bool) (h : ℕ → Option FrameNo) (is : List ℕ)
    → times frame (filter_map (λ i. cond (b i) (h i) None) is) ≤ times frame (filter_map h is)
times_chosen frame b h [] = omega arith
times_chosen frame b h (i ∷ is) =
    let rest = times_chosen frame b h is in
    let one = one_more frame (cond (b i) (h i) None) (filter_map (λ k. cond (b k) (h k) None) is) in
    let two = one_more frame (h i) (filter_map h is) in
    let here = either (b i) (h i) in
    omega (arith, rest, one, two, here)
  where
    either : (c : Bool) (o : Option FrameNo)
        → times frame (cons_option (cond c o None) []) ≤ times frame (cons_option o [])
    either true o = omega arith
    either false None = omega arith
    either false (Some f) = omega arith

pub length_mapped : (h : ℕ → Option FrameNo) (is : List ℕ) → length (filter_map h is) ≡ count_by (λ i. is_some (h i)) is
length_mapped h [] = refl
length_mapped h (i ∷ is) =
    let sum = sum_by-cons (λ k. cond (is_some (h k)) 1 0) i is in
    by_some (h i) (length_mapped h is) sum
  where
    by_some : (o : Option FrameNo) → length (filter_map h is) ≡ count_by (λ k. is_some (h k)) is
        → count_by (λ k. is_some (h k)) (i ∷ is) ≡ cond (is_some o) 1 0 + count_by (λ k. is_some (h k)) is
        → length (cons_option o (filter_map h is)) ≡ count_by (λ k. is_some (h k)) (i ∷ is)
    by_some None rest sum = omega (arith, rest, sum)
    by_some (Some f) rest sum = omega (arith, rest, sum)

pub split_length : (a b : ℕ → Option FrameNo) (is : List ℕ)
    → length (filter_map (λ i. or_else (a i) (b i)) is) ≡ length (filter_map a is)
    + length (filter_map (λ i. unless (a i) (b i)) is)
split_length a b [] = refl
split_length a b (i ∷ is) = by_some (a i) (b i) (split_length a b is)
  where
    by_some : (x y : Option FrameNo) → length (filter_map (λ k. or_else (a k) (b k)) is) ≡ length (filter_map a is)
        + length (filter_map (λ k. unless (a k) (b k)) is)
        → length (cons_option (or_else x y) (filter_map (λ k. or_else (a k) (b k)) is))
        ≡ length (cons_option x (filter_map a is))
        + length (cons_option (unless x y) (filter_map (λ k. unless (a k) (b k)) is))
    by_some None None rest = rest
    by_some None (Some f) rest = omega (arith, rest)
    by_some (Some f) y rest = omega (arith, rest)

pub all_ones : (p : ℕ → Bool) (is : List ℕ) → list_all p is ≡ true → count_by p is ≡ length is
all_ones p [] all = refl
all_ones p (i ∷ is) all =
    let parts = and_parts (p i) (list_all p is) all in
    let sum = sum_by-cons (λ k. cond (p k) 1 0) i is in
    let here = ap {B = ℕ} (λ b. cond b 1 0) parts.0 in
    let rest = all_ones p is parts.1 in
    omega (arith, sum, here, rest)

-- there are at most as many others as aren't there, and as many where all are
pub few_others : (a b : ℕ → Option FrameNo) (is : List ℕ)
    → length (filter_map (λ i. unless (a i) (b i)) is) ≤ count_by (λ i. is_none (a i)) is
few_others a b [] = omega arith
few_others a b (i ∷ is) =
    let sum = sum_by-cons (λ k. cond (is_none (a k)) 1 0) i is in
    by_some (a i) (b i) (few_others a b is) sum
  where
    by_some : (x y : Option FrameNo) → length (filter_map (λ k. unless (a k) (b k)) is) ≤ count_by (λ k. is_none (a k))
        is
        → count_by (λ k. is_none (a k)) (i ∷ is) ≡ cond (is_none x) 1 0 + count_by (λ k. is_none (a k)) is
        → length (cons_option (unless x y) (filter_map (λ k. unless (a k) (b k)) is))
        ≤ count_by (λ k. is_none (a k)) (i ∷ is)
    by_some None None rest sum = omega (arith, rest, sum)
    by_some None (Some f) rest sum = omega (arith, rest, sum)
    by_some (Some f) y rest sum = omega (arith, rest, sum)

pub all_others : (a b : ℕ → Option FrameNo) (is : List ℕ) → list_all (λ i. is_some (or_else (a i) (b i))) is ≡ true
    → length (filter_map (λ i. unless (a i) (b i)) is) ≡ count_by (λ i. is_none (a i)) is
all_others a b [] all = refl
all_others a b (i ∷ is) all =
    let parts = and_parts (is_some (or_else (a i) (b i))) (list_all (λ k. is_some (or_else (a k) (b k))) is) all in
    let sum = sum_by-cons (λ k. cond (is_none (a k)) 1 0) i is in
    by_some (a i) (b i) parts.0 (all_others a b is parts.1) sum
  where
    by_some : (x y : Option FrameNo) → is_some (or_else x y) ≡ true
        → length (filter_map (λ k. unless (a k) (b k)) is) ≡ count_by (λ k. is_none (a k)) is
        → count_by (λ k. is_none (a k)) (i ∷ is) ≡ cond (is_none x) 1 0 + count_by (λ k. is_none (a k)) is
        → length (cons_option (unless x y) (filter_map (λ k. unless (a k) (b k)) is))
        ≡ count_by (λ k. is_none (a k)) (i ∷ is)
    by_some None None some rest sum = cc
    by_some None (Some f) some rest sum = omega (arith, rest, sum)
    by_some (Some f) y some rest sum = omega (arith, rest, sum)

-- a frame that is there is its own
pub or_none : (o : Option FrameNo) → or_else o None ≡ o
or_none None = refl
or_none (Some f) = refl

pub or_same : (a b : Option FrameNo) → or_else a (or_else a b) ≡ or_else a b
or_same None b = refl
or_same (Some f) b = refl

pub none_is : {X : Type 0} (o : Option X) → is_some o ≡ false → o ≡ None
none_is None none = refl
none_is (Some f) none = cc

pub none_some : {X : Type 0} (o : Option X) → is_none o ≡ not (is_some o)
none_some None = refl
none_some (Some x) = refl

pub if_none : {X : Type 0} (o : Option X) (P : Type 0) → (is_none o ≡ true → P) → IfNone o P
if_none None P there = there refl
if_none (Some x) P there = tt

-- those that pass and those that don't are all
pub count_rest : (p q : ℕ → Bool) → ((i : ℕ) → p i ≡ not (q i)) → (is : List ℕ)
    → count_by p is + count_by q is ≡ length is
count_rest p q other [] = refl
count_rest p q other (i ∷ is) =
    let one = sum_by-cons (λ k. cond (p k) 1 0) i is in
    let two = sum_by-cons (λ k. cond (q k) 1 0) i is in
    let rest = count_rest p q other is in
    let here = ap {B = ℕ} (λ b. cond b 1 0) (other i) in
    let both = either (q i) in
    omega (arith, one, two, rest, here, both)
  where
    either : (b : Bool) → cond (not b) 1 0 + cond b 1 0 ≡ 1
    either true = refl
    either false = refl

-- ---- the frames of pages that are all there

pub mapped_at : (h : ℕ → Option FrameNo) (from n i : ℕ) → list_all (λ k. is_some (h k)) (range_with_len from n) ≡ true
    → slice_get (filter_map h (range_with_len from n)) i ≡ cond (ltb i n) (h (from + i)) None
mapped_at h from zero i all = let none : ltb i 0 ≡ false = grind (arith, nat_tests) in rw none refl
mapped_at h from (suc n) zero all =
    let parts = and_parts (is_some (h from)) (list_all (λ k. is_some (h k)) (range_with_len (from + 1) n)) all in
    let some : ltb 0 (suc n) ≡ true = grind (arith, nat_tests) in
    let same : from + 0 ≡ from = omega arith in
    rw (some, same) (first (h from) parts.0)
  where
    first : (o : Option FrameNo) → is_some o ≡ true
        → slice_get (cons_option o (filter_map h (range_with_len (from + 1) n))) 0 ≡ o
    first (Some f) is = refl
    first None is = cc
mapped_at h from (suc n) (suc i) all =
    let parts = and_parts (is_some (h from)) (list_all (λ k. is_some (h k)) (range_with_len (from + 1) n)) all in
    let rest = mapped_at h (from + 1) n i parts.1 in
    let test : ltb (suc i) (suc n) ≡ ltb i n = grind (arith, nat_tests) in
    let place : from + suc i ≡ from + 1 + i = omega arith in
    rw (test, place) (later (h from) parts.0 ∙ rest)
  where
    later : (o : Option FrameNo) → is_some o ≡ true
        → slice_get (cons_option o (filter_map h (range_with_len (from + 1) n))) (suc i) ≡ slice_get
        (filter_map h (range_with_len (from + 1) n)) i
    later (Some f) is = refl
    later None is = cc

pub some_within : (frames : List FrameNo) (i : ℕ) → i < length frames → is_some (slice_get frames i) ≡ true
some_within [] i low = absurd (omega (arith, low))
some_within (f ∷ frames) zero low = refl
some_within (f ∷ frames) (suc i) low = some_within frames i (omega (arith, low))

pub some_or : (a b : Option FrameNo) → is_some b ≡ true → is_some (or_else a b) ≡ true
some_or None b some = some
some_or (Some f) b some = refl

pub some_below : (frames : List FrameNo) (i : ℕ) → is_some (slice_get frames i) ≡ ltb i (length frames)
some_below [] i = let past : ltb i 0 ≡ false = grind (arith, nat_tests) in sym past
some_below (f ∷ frames) zero = let low : ltb 0 (suc (length frames)) ≡ true = grind (arith, nat_tests) in sym low
some_below (f ∷ frames) (suc i) =
    let same : ltb (suc i) (suc (length frames)) ≡ ltb i (length frames) = grind (arith, nat_tests) in
    some_below frames i ∙ sym same
