-- Two lists of one length.
use Rattle.std.specs.Prelude.{List, [], ◌∷◌}

-- the lists have as many elements, and those at one place are in this relation
abbrev pub Pairwise : {X Y : Type 0} → (X → Y → Type 0) → List X → List Y → Type 0
Pairwise Are [] [] = Unit {0}
Pairwise Are (x ∷ xs) (y ∷ ys) = Are x y × Pairwise Are xs ys
Pairwise Are xs ys = ⊥
