-- A table of named tests, of which the first that is true decides.
use Rattle.std.specs.Prelude.{Bool, Option, Some, None, List, [], ◌∷◌, if◌then◌else◌}

-- the name of the first test that is true
abbrev pub first_true : {A : Type 0} → List (A × Bool) → Option A
first_true [] = None
first_true (row ∷ rows) = if row.1 then Some row.0 else first_true rows
