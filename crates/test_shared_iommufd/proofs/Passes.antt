-- What holds of each pass of a list holds of each when one is taken off its end or put there.
use Rattle.std.proofs.Common.{◌≡◌, ℕ, ⊎_elim, Bool, true, false, cond, List, [], ◌∷◌, ◌++◌, length, slice_get}
use Rattle.std.proofs.Common.{Option, Some, None, IfSome, append-nil, refl, ◌∙◌, subst}
use Rattle.std.specs.Option.{option_to_list}
use Rattle.lane_lock.proofs.PassLists.{either_at, front_at, last_at}

module _ {X : Type 0} (P : X → Type 0) where
  abbrev Each : List X → Type 0
  Each xs = (i : ℕ) (x : X) → slice_get xs i ≡ Some x → P x

  pub taken : (old new : List X) (o : Option X) → old ≡ new ++ option_to_list o → Each old → IfSome o P
  taken old new None e all = tt
  taken old new (Some x) e all = all (length new) x (last_at old new x e)

  pub left : (old new : List X) (o : Option X) → old ≡ new ++ option_to_list o → Each old → Each new
  left old new None e all = subst Each (e ∙ append-nil new) all
  left old new (Some x) e all = λ i y at. all i y (front_at old new x y i e at)

  pub put : (old : List X) (x : X) (b : Bool) → Each old → P x → Each (cond b (old ++ x ∷ []) old)
  put old x true all own = λ i y e. ⊎_elim (λ (h : slice_get old i ≡ Some y). all i y h)
      (λ (h : x ≡ y). subst P h own) (either_at (old ++ x ∷ []) old x y i refl e)
  put old x false all own = all
