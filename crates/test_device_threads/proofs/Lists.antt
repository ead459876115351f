-- What holds of each of a list holds of each when one is taken off its end or put there.
use Rattle.std.proofs.Common.{◌≡◌, ℕ, ⊎_elim, Bool, true, false, cond, List, [], ◌∷◌, ◌++◌, length, slice_get}
use Rattle.std.proofs.Common.{Option, Some, None, Result, Ok, Err, IfErr, append-nil, sym, ◌∙◌, subst}
use Rattle.std.specs.Option.{option_to_list}
use Rattle.lane_lock.proofs.PassLists.{either_at, front_at, last_at}

module _ {X : Type 0} (P : X → Type 0) where
  abbrev Each : List X → Type 0
  Each xs = (i : ℕ) (x : X) → slice_get xs i ≡ Some x → P x

  pub none : (xs : List X) → xs ≡ [] → Each xs
  none xs e = λ i x at. absurd (nothing i x (subst (λ (l : List X). slice_get l i ≡ Some x) e at))
    where
      nothing : (i : ℕ) (x : X) → slice_get [] i ≡ Some x → ⊥
      nothing i x at = cc

  pub last : (old new : List X) (x : X) → old ≡ new ++ x ∷ [] → Each old → P x
  last old new x e all = all (length new) x (last_at old new x e)

  pub left : (old new : List X) (o : Option X) → old ≡ new ++ option_to_list o → Each old → Each new
  left old new None e all = subst Each (e ∙ append-nil new) all
  left old new (Some x) e all = λ i y at. all i y (front_at old new x y i e at)

  pub put : (old new : List X) (x : X) (b : Bool) → new ≡ cond b (old ++ x ∷ []) old → Each old → P x → Each new
  put old new x true e all own = λ i y at. ⊎_elim (λ (h : slice_get old i ≡ Some y). all i y h)
      (λ (h : x ≡ y). subst P h own) (either_at new old x y i e at)
  put old new x false e all own = λ i y at. all i y (subst (λ (l : List X). slice_get l i ≡ Some y) e at)

-- what an error hands back as it came
pub handed : {A B V : Type 0} (P : V → Type 0) (r : Result A B) (f : B → V) (v : V) → IfErr r (λ b. f b ≡ v) → P v
    → IfErr r (λ b. P (f b))
handed P (Ok a) f v same all = tt
handed P (Err b) f v same all = subst P (sym same) all

-- what holds of two values holds of the pair that is the same
pub moved : {X Y : Type 0} (v w : X × Y) (P : X → Type 0) (Q : Y → Type 0) → v ≡ w → P w.0 × Q w.1 → P v.0 × Q v.1
moved v w P Q same both = subst (λ (u : _ × _). P u.0 × Q u.1) (sym same) both
