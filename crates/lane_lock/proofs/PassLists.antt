-- Lists of passes, looked up by place.
use Rattle.std.proofs.Common.{◌≡◌, ℕ, zero, suc, ◌+◌, ◌<◌, ◌≤◌, List, [], ◌∷◌, ◌++◌, length, get_or, slice_get, Some}
use Rattle.std.proofs.Common.{sym, refl, ap, ◌∙◌, subst, ◌⊎◌, inl, inr, arith}
use mathlib.Core.Logic.{dite}
use native.Mathlib.Decide.{ℕ_discrete}
use mathlib.Core.Option.{some}
use lib.ListN.{get_elem?}

module _ {A : Type 0} where
  pub get_is : (xs : List A) (i : ℕ) (x : A) → i < length xs → x ≡ get_or xs i x → slice_get xs i ≡ Some x
  get_is [] i x lt e = absurd (omega arith)
  get_is (y ∷ xs) zero x lt e = ap Some (sym e)
  get_is (y ∷ xs) (suc i) x lt e = get_is xs i x (omega arith) e

  pub get_inside : (xs : List A) (i : ℕ) (x : A) → slice_get xs i ≡ Some x → i < length xs
  get_inside [] i x e = cc
  get_inside (y ∷ xs) zero x e = omega arith
  get_inside (y ∷ xs) (suc i) x e = let h = get_inside xs i x e in omega arith

  -- what holds of the elements below n, and of the next one
  pub one_further : (P : A → Type 0) (xs : List A) (n : ℕ) (x : A)
      → ((i : ℕ) (p : A) → i < n → slice_get xs i ≡ Some p → P p) → slice_get xs n ≡ Some x → P x → (i : ℕ) (p : A)
      → i < n + 1 → slice_get xs i ≡ Some p → P p
  one_further P xs n x below at here i p lt e =
      dite (ℕ_discrete i n) (λ same. let one : Some x ≡ Some p = sym at
      ∙ (ap (slice_get xs) (sym same) ∙ e) in let is : x ≡ p = cc in subst P is here) (λ ne.
      below i p (omega arith) e)

  pub all_of : (P : A → Type 0) (xs : List A) (n : ℕ) → length xs ≤ n
      → ((i : ℕ) (p : A) → i < n → slice_get xs i ≡ Some p → P p) → (i : ℕ) (p : A) → slice_get xs i ≡ Some p → P p
  all_of P xs n le below i p e = let lt = get_inside xs i p e in below i p (omega arith) e

  -- a list without its last element
  pub last_at : (xs ys : List A) (x : A) → xs ≡ ys ++ x ∷ [] → slice_get xs (length ys) ≡ Some x
  last_at xs ys x is = ap (λ l. slice_get l (length ys)) is ∙ at_end ys x
    where
      at_end : (ys : List A) (x : A) → slice_get (ys ++ x ∷ []) (length ys) ≡ Some x
      at_end [] x = refl
      at_end (y ∷ ys) x = at_end ys x

  pub front_at : (xs ys : List A) (x y : A) (i : ℕ) → xs ≡ ys ++ x ∷ [] → slice_get ys i ≡ Some y
      → slice_get xs i ≡ Some y
  front_at xs ys x y i is e = ap (λ l. slice_get l i) is ∙ longer ys i e
    where
      longer : (ys : List A) (i : ℕ) → slice_get ys i ≡ Some y → slice_get (ys ++ x ∷ []) i ≡ Some y
      longer [] i e = cc
      longer (z ∷ ys) zero e = e
      longer (z ∷ ys) (suc i) e = longer ys i e

  pub either_at : (xs ys : List A) (x y : A) (i : ℕ) → xs ≡ ys ++ x ∷ [] → slice_get xs i ≡ Some y
      → (slice_get ys i ≡ Some y) ⊎ (x ≡ y)
  either_at xs ys x y i is e = go ys i (sym (ap (λ l. slice_get l i) is) ∙ e)
    where
      go : (ys : List A) (i : ℕ) → slice_get (ys ++ x ∷ []) i ≡ Some y → (slice_get ys i ≡ Some y) ⊎ (x ≡ y)
      go [] zero e = inr (let h : x ≡ y = cc in h)
      go [] (suc i) e = cc
      go (z ∷ ys) zero e = inl e
      go (z ∷ ys) (suc i) e = go ys i e

  pub snoc_last : (ys : List A) (x : A) → get_elem? (ys ++ x ∷ []) (length ys) ≡ some x
  snoc_last [] x = refl
  snoc_last (y ∷ ys) x = snoc_last ys x
