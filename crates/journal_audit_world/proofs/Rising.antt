-- Frames that rise, one after the other.
use Rattle.std.proofs.Common.{◌≡◌, ◌<◌, ◌≤◌, ◌+◌, ℕ, Bool, true, false, ◌&&◌, leb, ltb, List, [], ◌∷◌, refl, ap, ◌∙◌}
use Rattle.std.proofs.Common.{length, drop, get_or, arith}
use Rattle.std.proofs.lemmas.List.{drop_more}
use Rattle.std.specs.List.{list_all}
use Rattle.std.proofs.lemmas.Bool.Decides.{nat_tests}
use Rattle.iofd_rows.proofs.Bools.{both_true}
use Rattle.iofd_rows.proofs.Found.{all_weaker}
use Rattle.iofd_words.specs.Tables.{are_rising}
use Rattle.iofd_words.specs.declared.numbers.FrameNo.{FrameNo}

-- none is below this one, and they rise
abbrev pub rise_from : ℕ → List FrameNo → Bool
rise_from least frames = list_all (λ frame. leb least frame.0) frames && are_rising frames

next : (n : ℕ) (frames : List FrameNo)
    → list_all (λ (other : FrameNo). ltb n other.0) frames ≡ list_all (λ (other : FrameNo). leb (n + 1) other.0) frames
next n [] = refl
next n (frame ∷ frames) =
    let here : ltb n frame.0 ≡ leb (n + 1) frame.0 = grind (arith, nat_tests) in
    rw (here, next n frames) refl

pub rise_one : (least : ℕ) (frame : FrameNo) (frames : List FrameNo)
    → rise_from least (frame ∷ frames) ≡ (leb least frame.0 && rise_from (frame.0 + 1) frames)
rise_one least frame frames =
    rw (← next frame.0 frames) (by_tests (leb least frame.0) (list_all (λ (o : FrameNo). leb least o.0) frames)
    (list_all (λ (o : FrameNo). ltb frame.0 o.0) frames) (are_rising frames) above)
  where
    above : leb least frame.0 ≡ true → list_all (λ (o : FrameNo). ltb frame.0 o.0) frames ≡ true
        → list_all (λ (o : FrameNo). leb least o.0) frames ≡ true
    above here all = all_weaker (λ (o : FrameNo). ltb frame.0 o.0) (λ (o : FrameNo). leb least o.0) frames
        (λ o after. higher o.0 here after) all
      where
        higher : (n : ℕ) → leb least frame.0 ≡ true → ltb frame.0 n ≡ true → leb least n ≡ true
        higher n here after = grind (arith, nat_tests)

    by_tests : (a b c r : Bool) → (a ≡ true → c ≡ true → b ≡ true) → ((a && b) && (c && r)) ≡ (a && (c && r))
    by_tests false b c r more = refl
    by_tests true true c r more = refl
    by_tests true false true r more = let never = more refl refl in cc
    by_tests true false false r more = refl

pub rise_all : (frames : List FrameNo) → rise_from 0 frames ≡ are_rising frames
rise_all frames = rw (all frames) refl
  where
    all : (fs : List FrameNo) → list_all (λ (o : FrameNo). leb 0 o.0) fs ≡ true
    all [] = refl
    all (f ∷ fs) = let here : leb 0 f.0 ≡ true = grind (arith, nat_tests) in both_true _ _ here (all fs)

-- one frame on
pub rise_on : (least : ℕ) (frames : List FrameNo) (i : ℕ) (d : FrameNo) (m n : ℕ) (all : Bool) → i < length frames
    → m ≡ (get_or frames i d).0 → n ≡ (get_or frames i d).0 → least ≤ m → all ≡ rise_from least (drop i frames)
    → all ≡ rise_from (n + 1) (drop (i + 1) frames)
rise_on least frames i d m n all within is same above before =
    let here : leb least (get_or frames i d).0 ≡ true = grind (arith, nat_tests) in
    before ∙ ap (rise_from least) (drop_more frames i d within)
    ∙ rise_one least (get_or frames i d) (drop (i + 1) frames)
    ∙ rw (here, same) refl
