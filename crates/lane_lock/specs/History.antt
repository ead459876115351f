-- Histories: lists of records, each of which names the pass that made it.
use Rattle.std.specs.Prelude.{◌≡◌, ℕ, ◌==◌, if◌then◌else◌, List, [], ◌∷◌, ◌++◌, length}
use Rattle.std.specs.Prelude.{drop, ltb}

-- the history begins with these records
abbrev pub StartsWith : {E : Type 0} → List E → List E → Type 0
StartsWith {E} history seen = (more : List E) × (history ≡ seen ++ more)

-- the records of pass p, in their order
abbrev pub made_by : {E : Type 0} → (E → ℕ) → ℕ → List E → List E
made_by by p [] = []
made_by by p (x ∷ xs) = if by x == p then x ∷ made_by by p xs else made_by by p xs

-- the longer list, and the second where they are of one length
abbrev pub longer : {E : Type 0} → List E → List E → List E
longer xs ys = if ltb (length ys) (length xs) then xs else ys

-- The history is legal for pass p: it begins with what p has seen, and after the first `base` records, those of the
-- opening value, p's records are those that p made, in that order, all of which p has seen.
pub record Legal {E : Type 0} (by : E → ℕ) (base : ℕ) (history : List E) (p : ℕ) (seen made : List E) : Type 0 where
  pub begins : StartsWith history seen
  pub makes : made_by by p (drop base history) ≡ made
  pub inside : made_by by p (drop base seen) ≡ made
