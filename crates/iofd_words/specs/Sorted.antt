-- Lists of rows that stand in an order.
use Rattle.std.specs.Prelude.{Bool, List, [], ◌∷◌, if◌then◌else◌}

-- one more row, before the first that it comes before
abbrev pub inserted : {T : Type 0} → (T → T → Bool) → T → List T → List T
inserted comes_before row [] = row ∷ []
inserted comes_before row (r ∷ rows) =
    if comes_before row r then row ∷ r ∷ rows else r ∷ inserted comes_before row rows
