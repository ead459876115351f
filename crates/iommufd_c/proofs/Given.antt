-- What holds of each item of a list holds of the one that is taken off its end, and of the others.
use Rattle.std.proofs.Common.{◌≡◌, ℕ, List, [], ◌++◌, length, append-nil, Option, Some, None, IfSome, subst, ◌∙◌}
use Rattle.std.specs.Option.{option_to_list}
use Rattle.lane_lock.proofs.PassLists.{front_at, last_at}
use Rattle.iommufd_c.specs.Given.{Each}

module _ {X : Type 0} (P : ℕ → X → Type 0) where
  pub taken : (old new : List X) (o : Option X) → old ≡ new ++ option_to_list o → Each P old → IfSome o (P (length new))
  taken old new None e all = tt
  taken old new (Some x) e all = all (length new) x (last_at old new x e)

  pub left : (old new : List X) (o : Option X) → old ≡ new ++ option_to_list o → Each P old → Each P new
  left old new None e all = subst (Each P) (e ∙ append-nil new) all
  left old new (Some x) e all = λ i y at. all i y (front_at old new x y i e at)

  pub none : Each P []
  none i x at = cc
