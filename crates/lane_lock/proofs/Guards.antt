-- What a take tells of the pass, and of the share.
use Rattle.std.proofs.Common.{◌≡◌, ◌≢◌, ℕ, Bool, true, false, List, [], ◌∷◌, sym, refl, ap, ◌∙◌, Option}
use Rattle.std.specs.declared.sync.Arc.{Arc}
use Rattle.atomic_table.specs.Table.{rest}

-- a pass whose lane is free is under no guard
pub idle_if_free : (b : Bool) (n : ℕ) → (b ≡ true → n ≢ 0) → n ≡ 0 → b ≡ false
idle_if_free true n guarded free = absurd (guarded refl free)
idle_if_free false n guarded free = refl

module _ {K Z : Type 0} where
  abbrev top_or : Option (Arc K Z) → List (ℕ × Option (Arc K Z)) → Option (Arc K Z)
  top_or d [] = d
  top_or d (x ∷ xs) = x.1

  -- what the slot in front has, told twice
  pub top_is : (slot : ℕ) (x y : Option (Arc K Z)) (c cs ds : List (ℕ × Option (Arc K Z))) → c ≡ (slot, x) ∷ cs
      → c ≡ (slot, y) ∷ ds → x ≡ y
  top_is slot x y c cs ds p q = ap (top_or x) (sym p ∙ q)

pub in_front : {S : Type 0} (c cs : List (ℕ × S)) (x : ℕ × S) → c ≡ x ∷ cs → c ≡ x ∷ rest c
in_front c cs x e = e ∙ ap (λ l. x ∷ rest l) (sym e)
