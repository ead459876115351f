-- The frames that are given back: those of rows that go, and of rows that may.
use Rattle.std.proofs.Common.{◌≡◌, ℕ, Bool, true, false, ◌&&◌, ◌||◌, not, eqb, List, [], ◌∷◌}
use Rattle.std.proofs.Common.{refl, sym, ap, ◌∙◌, arith, inl, inr}
use Rattle.std.specs.List.{list_all, list_any}
use Rattle.std.proofs.lemmas.Bool.Decides.{nat_tests}
use Rattle.iofd_rows.proofs.Each.{IsIn, of_any}
use Rattle.iofd_words.specs.Tables.{is_among}
use Rattle.iofd_words.specs.declared.numbers.FrameNo.{FrameNo}
use Rattle.iofd_words.specs.declared.rows.TableFrame.{TableFrame}
use Rattle.journal_audit_tables.proofs.Free.{HoldsMore, number_added}
use Rattle.journal_audit_tables.specs.Numbers.{has_number}

pub all_alike_in : {X : Type 0} (p q : X → Bool) (xs : List X) → ((x : X) → IsIn xs x → p x ≡ q x)
    → list_all p xs ≡ list_all q xs
all_alike_in p q [] same = refl
all_alike_in p q (x ∷ xs) same = rw (same x (inl refl), all_alike_in p q xs (λ y later. same y (inr later))) refl

pub any_alike_in : {X : Type 0} (p q : X → Bool) (xs : List X) → ((x : X) → IsIn xs x → p x ≡ q x)
    → list_any p xs ≡ list_any q xs
any_alike_in p q [] same = refl
any_alike_in p q (x ∷ xs) same = rw (same x (inl refl), any_alike_in p q xs (λ y later. same y (inr later))) refl

pub asked_added : (old new : List ℕ) (frame : FrameNo) (b : Bool) → b ≡ true → HoldsMore old new frame.0 → (n : ℕ)
    → has_number new n ≡ (has_number old n || (b && eqb frame.0 n))
asked_added old new frame true is more n = number_added old new frame.0 more n
asked_added old new frame false is more n = cc

-- by the sets of frames
pub given_is : (goes may : TableFrame → Bool) (rows : List TableFrame) (given : List FrameNo) (keys left : List ℕ)
    (rises inside all : Bool) → rises ≡ true
    → ((frame : FrameNo) → has_number keys frame.0 ≡ is_among given frame)
    → inside ≡ list_all (λ t. not (goes t) || has_number keys t.frame.0) rows → inside ≡ true
    → ((n : ℕ) → has_number left n ≡ list_any (λ t. (has_number keys t.frame.0 && may t) && eqb t.frame.0 n) rows)
    → all ≡ list_all (λ (frame : FrameNo). has_number left frame.0) given
    → all ≡ (rises && (list_all (λ t. not (goes t) || is_among given t.frame) rows
    && list_all (λ (frame : FrameNo). list_any (λ t. eqb t.frame.0 frame.0 && may t) rows) given))
given_is goes may rows given keys left rises inside all rise are is in_all may_leave have =
    rw (rise, sym gone) (have ∙ each)
  where
    gone : true ≡ list_all (λ t. not (goes t) || is_among given t.frame) rows
    gone =
        sym (sym is ∙ in_all)
        ∙ all_alike_in (λ t. not (goes t) || has_number keys t.frame.0) (λ t. not (goes t) || is_among given t.frame)
        rows (λ t within. ap (λ b. not (goes t) || b) (are t.frame))

    row : (frame : FrameNo) → IsIn given frame → (t : TableFrame) → (b : Bool) → eqb t.frame.0 frame.0 ≡ b
        → ((has_number keys t.frame.0 && may t) && b) ≡ (b && may t)
    row frame within t true same =
        let among : has_number keys t.frame.0 ≡ true =
        are t.frame ∙ of_any (λ (other : FrameNo). eqb other.0 t.frame.0) given frame within
        (flip t.frame.0 frame.0 same) in
        rw among (tidy (may t))
      where
        flip : (m n : ℕ) → eqb m n ≡ true → eqb n m ≡ true
        flip m n is = grind (arith, nat_tests)

        tidy : (a : Bool) → ((true && a) && true) ≡ (true && a)
        tidy true = refl
        tidy false = refl
    row frame within t false same = none (has_number keys t.frame.0 && may t)
      where
        none : (a : Bool) → (a && false) ≡ false
        none true = refl
        none false = refl

    each : list_all (λ (frame : FrameNo). has_number left frame.0) given
        ≡ list_all (λ (frame : FrameNo). list_any (λ t. eqb t.frame.0 frame.0 && may t) rows) given
    each = all_alike_in (λ (frame : FrameNo). has_number left frame.0)
        (λ (frame : FrameNo). list_any (λ t. eqb t.frame.0 frame.0 && may t) rows) given
        (λ frame within. may_leave frame.0
        ∙ any_alike_in (λ t. (has_number keys t.frame.0 && may t) && eqb t.frame.0 frame.0)
        (λ t. eqb t.frame.0 frame.0 && may t) rows (λ t here. row frame within t (eqb t.frame.0 frame.0) refl))
