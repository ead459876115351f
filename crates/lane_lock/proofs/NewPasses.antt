-- The passes of a new lock, one by one.
use Rattle.std.proofs.Common.{◌≡◌, ℕ, zero, suc, ◌+◌, List, [], ◌∷◌, ◌++◌, length, length-append, slice_get, Some, None}
use Rattle.std.proofs.Common.{sym, ap}
use Rattle.std.proofs.Common.{refl, ◌∙◌, subst, ◌⊎◌, inl, inr, ⊎_elim, arith}
use Rattle.lane_lock.specs.declared.kept.Kept as kept
use Rattle.lane_lock.specs.declared.lock.LaneLock.{LaneLock}
use Rattle.lane_lock.specs.declared.pass.Pass.{Pass}
use Rattle.lane_lock.specs.Passes.{IsNew, AllNew}

get_snoc : {A : Type 0} (xs : List A) (x y : A) (k : ℕ) → slice_get (xs ++ x ∷ []) k ≡ Some y
    → (slice_get xs k ≡ Some y) ⊎ ((k ≡ length xs) × (x ≡ y))
get_snoc [] x y zero e = inr (refl, (let h : x ≡ y = cc in h))
get_snoc [] x y (suc k) e = cc
get_snoc (z ∷ xs) x y zero e = inl e
get_snoc (z ∷ xs) x y (suc k) e = ⊎_elim (λ (h : slice_get xs k ≡ Some y). inl h)
    (λ (h : (k ≡ length xs) × (x ≡ y)). let n = h.0 in inr (
      (let q : suc k ≡ length (z ∷ xs) = omega arith in q),
      h.1,
    )) (get_snoc xs x y k e)

pub none_there : {A : Type 0} {xs : List A} → xs ≡ [] → (k : ℕ) (y : A) → slice_get xs k ≡ Some y → ⊥
none_there {A} {xs} none k y e = let h : None ≡ Some y = sym (ap (λ l. slice_get l k) none) ∙ e in cc

module _ {K A S E : Type 0} {g : kept.Ghosts K A S E} (lock : LaneLock K A S E) where
  pub more_new : (n : ℕ) (ps : List (Pass K A S E g)) (p : Pass K A S E g) → AllNew lock n ps → IsNew lock n p
      → AllNew lock (n + 1) (ps ++ p ∷ [])
  more_new n ps p all new = let count = all.count in record {
    count = length-append ps (p ∷ []) ∙ (let q : length ps + 1 ≡ n + 1 = omega arith in q);
    each = λ i q e. ⊎_elim (λ (h : slice_get ps i ≡ Some q). all.each i q h)
        (λ (h : (i ≡ length ps) × (p ≡ q)). subst (λ (t : ℕ × Pass K A S E g). IsNew lock t.0 t.1)
        (λ j. (sym (h.0 ∙ count) j, h.1 j)) new) (get_snoc ps p q i e);
  }
