-- Frames that a record may name: free ones, each once, as many as there are; and those of tables that go, by rising
-- number.
use Rattle.std.proofs.Common.{◌≡◌, ℕ, zero, suc, ◌+◌, ◌<◌, ◌≤◌, Bool, true, false, cond, ◌||◌, not, eqb, ltb, leb, List}
use Rattle.std.proofs.Common.{[], ◌∷◌, length, refl, ap, sym, ◌∙◌, subst, arith, inl, inr}
use Rattle.std.specs.List.{count_by, list_all, list_any, range_with_len}
use Rattle.std.proofs.lemmas.Bool.Decides.{nat_tests}
use Rattle.iofd_words.specs.Tables.{are_different, are_rising, is_among}
use Rattle.iofd_words.specs.declared.numbers.FrameNo.{FrameNo}
use Rattle.iofd_words.specs.declared.rows.TableFrame.{TableFrame}
use Rattle.iofd_rows.proofs.Bools.{and_true, both_true, clash, not_true}
use Rattle.iofd_rows.proofs.Each.{IsIn}
use Rattle.iofd_rows.proofs.Found.{all_weaker}
use Rattle.iofd_rows.proofs.PageCounts.{count-cons}
use Rattle.iofd_rows.proofs.Unusable.{each_not}
use Rattle.iofd_laws.specs.Laws.{tables_differ}

-- ---- so many that pass, each once

abbrev all_from : ℕ → List FrameNo → Bool
all_from start frames = list_all (λ (f : FrameNo). leb start f.0) frames

pub record Picked (p : ℕ → Bool) (start n : ℕ) (frames : List FrameNo) : Type 0 where
  pub count : length frames ≡ n
  pub pass : list_all (λ (f : FrameNo). p f.0) frames ≡ true
  pub low : list_all (λ (f : FrameNo). leb start f.0) frames ≡ true
  pub differ : are_different frames ≡ true

later_start : (start : ℕ) (frames : List FrameNo) → all_from (start + 1) frames ≡ true → all_from start frames ≡ true
later_start start frames low =
    all_weaker (λ (f : FrameNo). leb (start + 1) f.0) (λ (f : FrameNo). leb start f.0) frames (λ f is. less f.0 is) low
  where
    less : (n : ℕ) → leb (start + 1) n ≡ true → leb start n ≡ true
    less n is = search (is, arith, nat_tests)

not_again : (start : ℕ) (frames : List FrameNo) → all_from (start + 1) frames ≡ true
    → not (is_among frames (record { 0 = start })) ≡ true
not_again start [] low = refl
not_again start (f ∷ frames) low =
    let parts = and_true (leb (start + 1) f.0) (all_from (start + 1) frames) low in
    let other : eqb f.0 start ≡ false = search (parts.0, arith, nat_tests) in
    rw other (not_again start frames parts.1)

leb_itself : (n : ℕ) → leb n n ≡ true
leb_itself n = search (arith, nat_tests)

pub pick : (p : ℕ → Bool) (start len n : ℕ) → n ≤ count_by p (range_with_len start len) → (frames : List FrameNo)
    × Picked p start n frames
pick p start len zero enough = ([], record { count = refl; pass = refl; low = refl; differ = refl })
pick p start zero (suc n) enough = absurd (omega (arith, enough))
pick p start (suc len) (suc n) enough =
    by_test (p start) refl (subst (λ c. suc n ≤ c) (count-cons p start (range_with_len (start + 1) len)) enough)
    (λ rest. pick p (start + 1) len n rest) (λ rest. pick p (start + 1) len (suc n) rest)
  where
    by_test : (b : Bool) → p start ≡ b → suc n ≤ cond b 1 0 + count_by p (range_with_len (start + 1) len)
        → (n ≤ count_by p (range_with_len (start + 1) len) → (frames : List FrameNo) × Picked p (start + 1) n frames)
        → (suc n ≤ count_by p (range_with_len (start + 1) len) → (frames : List FrameNo)
        × Picked p (start + 1) (suc n) frames)
        → (frames : List FrameNo) × Picked p start (suc n) frames
    by_test true is some fewer same =
        let (frames, picked) = fewer (omega (arith, some)) in (
          record { 0 = start } ∷ frames,
          record {
            count = ap suc picked.count;
            pass = both_true _ _ is picked.pass;
            low = both_true _ _ (leb_itself start) (later_start start frames picked.low);
            differ = both_true _ _ (not_again start frames picked.low) picked.differ;
          },
        )
    by_test false is some fewer same =
        let (frames, picked) = same (omega (arith, some)) in (
          frames,
          record {
            count = picked.count;
            pass = picked.pass;
            low = later_start start frames picked.low;
            differ = picked.differ;
          },
        )

-- ---- all that pass, by rising number

abbrev pub frames_that : (ℕ → Bool) → ℕ → ℕ → List FrameNo
frames_that p start zero = []
frames_that p start (suc len) =
    cond (p start) (record { 0 = start } ∷ frames_that p (start + 1) len) (frames_that p (start + 1) len)

pub that_pass : (p : ℕ → Bool) (start len : ℕ) → list_all (λ (f : FrameNo). p f.0) (frames_that p start len) ≡ true
that_pass p start zero = refl
that_pass p start (suc len) = by_test (p start) refl (that_pass p (start + 1) len)
  where
    by_test : (b : Bool) → p start ≡ b → list_all (λ (f : FrameNo). p f.0) (frames_that p (start + 1) len) ≡ true
        → list_all (λ (f : FrameNo). p f.0) (cond b (record { 0 = start } ∷ frames_that p (start + 1) len)
        (frames_that p (start + 1) len)) ≡ true
    by_test true is rest = both_true _ _ is rest
    by_test false is rest = rest

that_low : (p : ℕ → Bool) (start len : ℕ) → all_from start (frames_that p start len) ≡ true
that_low p start zero = refl
that_low p start (suc len) =
    by_test (p start) (later_start start (frames_that p (start + 1) len) (that_low p (start + 1) len))
  where
    by_test : (b : Bool) → all_from start (frames_that p (start + 1) len) ≡ true
        → all_from start (cond b (record { 0 = start } ∷ frames_that p (start + 1) len) (frames_that p (start + 1) len))
        ≡ true
    by_test true rest = both_true _ _ (leb_itself start) rest
    by_test false rest = rest

pub that_rise : (p : ℕ → Bool) (start len : ℕ) → are_rising (frames_that p start len) ≡ true
that_rise p start zero = refl
that_rise p start (suc len) = by_test (p start) (that_rise p (start + 1) len)
  where
    above : (n : ℕ) → leb (start + 1) n ≡ true → ltb start n ≡ true
    above n is = search (is, arith, nat_tests)

    by_test : (b : Bool) → are_rising (frames_that p (start + 1) len) ≡ true
        → are_rising (cond b (record { 0 = start } ∷ frames_that p (start + 1) len) (frames_that p (start + 1) len))
        ≡ true
    by_test true rest = both_true _ _ (all_weaker (λ (f : FrameNo). leb (start + 1) f.0)
        (λ (f : FrameNo). ltb start f.0) (frames_that p (start + 1) len) (λ f is. above f.0 is)
        (that_low p (start + 1) len)) rest
    by_test false rest = rest

pub that_has : (p : ℕ → Bool) (start len : ℕ) (frame : FrameNo) → start ≤ frame.0 → frame.0 < start + len
    → p frame.0 ≡ true → is_among (frames_that p start len) frame ≡ true
that_has p start zero frame from below passes = absurd (omega (arith, from, below))
that_has p start (suc len) frame from below passes =
    by_test (eqb start frame.0) refl (λ more. that_has p (start + 1) len frame more (omega (arith, below)) passes)
  where
    here : (b : Bool) → b ≡ true → eqb start frame.0 ≡ true
        → is_among (cond b (record { 0 = start } ∷ frames_that p (start + 1) len) (frames_that p (start + 1) len))
        frame ≡ true
    here true is same = rw same refl
    here false is same = cc

    later : (b : Bool) → is_among (frames_that p (start + 1) len) frame ≡ true → eqb start frame.0 ≡ false
        → is_among (cond b (record { 0 = start } ∷ frames_that p (start + 1) len) (frames_that p (start + 1) len))
        frame ≡ true
    later true has other = rw other has
    later false has other = has

    by_test : (b : Bool) → eqb start frame.0 ≡ b
        → (start + 1 ≤ frame.0 → is_among (frames_that p (start + 1) len) frame ≡ true)
        → is_among (frames_that p start (suc len)) frame ≡ true
    by_test true is rest =
        let same : start ≡ frame.0 = search (is, arith, nat_tests) in here (p start) (ap p same ∙ passes) is
    by_test false is rest = later (p start) (rest (search (is, from, arith, nat_tests))) is

-- ---- one row

pub some_in : {X : Type 0} (p : X → Bool) (xs : List X) → list_any p xs ≡ true → (x : X) × IsIn xs x × (p x ≡ true)
some_in p [] some = cc
some_in {X = X} p (x ∷ xs) some = by_test (p x) refl some (some_in p xs)
  where
    by_test : (b : Bool) → p x ≡ b → (b || list_any p xs) ≡ true
        → (list_any p xs ≡ true → (y : X) × IsIn xs y × (p y ≡ true)) → (y : X) × IsIn (x ∷ xs) y × (p y ≡ true)
    by_test true is some later = (x, inl refl, is)
    by_test false is some later = let (y, within, passes) = later some in (y, inr within, passes)

-- two rows with one frame are one
pub same_row : (tables : List TableFrame) (a b : TableFrame) → tables_differ tables ≡ true → IsIn tables a
    → IsIn tables b → eqb a.frame.0 b.frame.0 ≡ true → a ≡ b
same_row [] a b differ first second same = absurd first
same_row (t ∷ tables) a b differ first second same = by_place first second (λ x y. same_row tables a b parts.1 x y same)
  where
    parts : (not (list_any (λ (other : TableFrame). eqb other.frame.0 t.frame.0) tables) ≡ true)
        × (tables_differ tables ≡ true)
    parts = and_true (not (list_any (λ (other : TableFrame). eqb other.frame.0 t.frame.0) tables))
        (tables_differ tables) differ

    -- a later row has another frame
    later : (x : TableFrame) → IsIn tables x → eqb x.frame.0 t.frame.0 ≡ true → ⊥
    later x within is =
        clash _ (each_not (λ (other : TableFrame). eqb other.frame.0 t.frame.0) tables x (not_true _ parts.0) within) is

    flip : (m n : ℕ) → eqb m n ≡ true → eqb n m ≡ true
    flip m n is = search (is, arith, nat_tests)

    by_place : IsIn (t ∷ tables) a → IsIn (t ∷ tables) b → (IsIn tables a → IsIn tables b → a ≡ b) → a ≡ b
    by_place (inl first) (inl second) rest = sym first ∙ second
    by_place (inl first) (inr second) rest =
        absurd (later b second (flip t.frame.0 b.frame.0
        (subst (λ (x : TableFrame). eqb x.frame.0 b.frame.0 ≡ true) (sym first) same)))
    by_place (inr first) (inl second) rest =
        absurd (later a first (subst (λ (x : TableFrame). eqb a.frame.0 x.frame.0 ≡ true) (sym second) same))
    by_place (inr first) (inr second) rest = rest first second
