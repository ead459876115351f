-- A loop that changes each element of a list where it stands.
use Rattle.std.proofs.Common.{◌≡◌, ◌<◌, ◌+◌, ◌++◌, ℕ, List, length, map, take, drop, get_or, set, ap, ◌∙◌}
use Rattle.std.proofs.lemmas.List.{get_or_default}
use Rattle.std.proofs.lemmas.List.Edits.{map_over_more}

pub map_over_at : {X : Type 0} (f : X → X) (xs ys : List X) (i : ℕ) (d new : X) → i < length xs → i < length ys
    → ys ≡ map f (take i xs) ++ drop i xs → new ≡ f (get_or ys i d)
    → set ys i new ≡ map f (take (i + 1) xs) ++ drop (i + 1) xs
map_over_at f xs ys i d new within inside before is =
    ap (λ x. set ys i x) is
    ∙ map_over_more f xs ys i (get_or ys i d) within before (get_or_default ys i d (get_or ys i d) inside)
