-- Rows of different frames, and rows that pass a test.
use Rattle.std.proofs.Common.{◌≡◌, ℕ, Bool, true, false, ◌&&◌, ◌||◌, not, eqb, List, [], ◌∷◌, ◌++◌, refl, sym, ap}
use Rattle.std.proofs.Common.{◌∙◌, ◌⊎◌, inl, inr, arith}
use Rattle.std.specs.List.{flat_map, list_all, list_any}
use Rattle.std.proofs.lemmas.Bool.Decides.{nat_tests}
use Rattle.iofd_rows.proofs.Bools.{and_true, clash, not_true}
use Rattle.iofd_rows.proofs.Each.{IsIn, of_any, of_each}
use Rattle.iofd_words.specs.Tables.{is_among}
use Rattle.iofd_words.specs.declared.numbers.FrameNo.{FrameNo}
use Rattle.iofd_words.specs.declared.rows.TableFrame.{TableFrame}
use Rattle.journal_audit_world.specs.Kept.{tables_differ}

-- two rows of one frame are one
pub same_row : (tables : List TableFrame) (a b : TableFrame) → tables_differ tables ≡ true → IsIn tables a
    → IsIn tables b → eqb a.frame.0 b.frame.0 ≡ true → a ≡ b
same_row [] a b differ at_a at_b same = absurd at_a
same_row (t ∷ tables) a b differ at_a at_b same =
    let parts = and_true (not (list_any (λ (other : TableFrame). eqb other.frame.0 t.frame.0) tables))
    (tables_differ tables) differ in
    cases parts.0 (λ x y. same_row tables a b parts.1 x y same) at_a at_b
  where
    other_way : (m n : ℕ) → eqb m n ≡ true → eqb n m ≡ true
    other_way m n is = grind (arith, nat_tests)

    cases : not (list_any (λ (other : TableFrame). eqb other.frame.0 t.frame.0) tables) ≡ true
        → (IsIn tables a → IsIn tables b → a ≡ b) → (t ≡ a) ⊎ IsIn tables a → (t ≡ b) ⊎ IsIn tables b → a ≡ b
    cases alone rest (inl x) (inl y) = sym x ∙ y
    cases alone rest (inr x) (inr y) = rest x y
    cases alone rest (inl x) (inr y) =
        let here : eqb b.frame.0 t.frame.0 ≡ true = rw x (other_way a.frame.0 b.frame.0 same) in
        absurd (clash _ (not_true _ alone) (of_any (λ (o : TableFrame). eqb o.frame.0 t.frame.0) tables b y here))
    cases alone rest (inr x) (inl y) =
        let here : eqb a.frame.0 t.frame.0 ≡ true = rw y same in
        absurd (clash _ (not_true _ alone) (of_any (λ (o : TableFrame). eqb o.frame.0 t.frame.0) tables a x here))

-- a row that passes
pub found_row : {X : Type 0} (p : X → Bool) (xs : List X) → list_any p xs ≡ true
    → (x : X) × IsIn xs x × (p x ≡ true)
found_row p [] is = cc
found_row {X = X} p (x ∷ xs) is = by_test (p x) refl is (λ later. found_row p xs later)
  where
    by_test : (b : Bool) → p x ≡ b → (b || list_any p xs) ≡ true
        → (list_any p xs ≡ true → (y : X) × IsIn xs y × (p y ≡ true))
        → (y : X) × IsIn (x ∷ xs) y × (p y ≡ true)
    by_test true here is rest = (x, inl refl, here)
    by_test false here is rest = let more = rest is in (more.0, inr more.1, more.2)

-- a row whose frame is given back passes, where each frame that is given back is that of a row that passes
pub given_passes : (x : TableFrame → Bool) (tables : List TableFrame) (given : List FrameNo)
    → tables_differ tables ≡ true
    → list_all (λ (frame : FrameNo). list_any (λ t. eqb t.frame.0 frame.0 && x t) tables) given ≡ true
    → (t : TableFrame) → IsIn tables t → is_among given t.frame ≡ true → x t ≡ true
given_passes x tables given differ all t within among =
    let (frame, held, is) = found_row (λ (other : FrameNo). eqb other.0 t.frame.0) given among in
    let (row, at_row, passes) = found_row (λ o. eqb o.frame.0 frame.0 && x o) tables
    (of_each (λ (frame : FrameNo). list_any (λ o. eqb o.frame.0 frame.0 && x o) tables) given frame all held) in
    let both = and_true (eqb row.frame.0 frame.0) (x row) passes in
    let one : row ≡ t = same_row tables row t differ at_row within (follows row.frame.0 frame.0 t.frame.0 both.0 is) in
    ap x (sym one) ∙ both.1
  where
    follows : (a b c : ℕ) → eqb a b ≡ true → eqb b c ≡ true → eqb a c ≡ true
    follows a b c x y = grind (arith, nat_tests)

-- no frame is given back where no row passes
pub none_given_back : (x : TableFrame → Bool) (tables : List TableFrame) (given : List FrameNo)
    → ((t : TableFrame) → IsIn tables t → x t ≡ false)
    → list_all (λ (frame : FrameNo). list_any (λ t. eqb t.frame.0 frame.0 && x t) tables) given ≡ true → given ≡ []
none_given_back x tables [] never all = refl
none_given_back x tables (frame ∷ given) never all =
    let (row, within, passes) = found_row (λ t. eqb t.frame.0 frame.0 && x t) tables
    (and_true (list_any (λ t. eqb t.frame.0 frame.0 && x t) tables) _ all).0 in
    absurd (clash _ (never row within) (and_true (eqb row.frame.0 frame.0) (x row) passes).1)

-- where an element of a list of lists comes from
pub in_flat_map : {X Y : Type 0} (f : X → List Y) (xs : List X) (y : Y) → IsIn (flat_map f xs) y
    → (x : X) × IsIn xs x × IsIn (f x) y
in_flat_map f [] y within = absurd within
in_flat_map {X = X} {Y = Y} f (x ∷ xs) y within =
    by_part (in_append (f x) (flat_map f xs) y within) (λ later. in_flat_map f xs y later)
  where
    in_append : (cs bs : List Y) (z : Y) → IsIn (cs ++ bs) z → IsIn cs z ⊎ IsIn bs z
    in_append [] bs z within = inr within
    in_append (c ∷ cs) bs z (inl same) = inl (inl same)
    in_append (c ∷ cs) bs z (inr later) = deeper (in_append cs bs z later)
      where
        deeper : IsIn cs z ⊎ IsIn bs z → ((c ≡ z) ⊎ IsIn cs z) ⊎ IsIn bs z
        deeper (inl here) = inl (inr here)
        deeper (inr there) = inr there

    by_part : IsIn (f x) y ⊎ IsIn (flat_map f xs) y
        → (IsIn (flat_map f xs) y → (x : X) × IsIn xs x × IsIn (f x) y)
        → (z : X) × IsIn (x ∷ xs) z × IsIn (f z) y
    by_part (inl here) later = (x, inl refl, here)
    by_part (inr there) later = let rest = later there in (rest.0, inr rest.1, rest.2)
