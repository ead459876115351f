-- What sets of numbers and of pairs have.
use Rattle.std.specs.Prelude.{◌≡◌, ◌≤◌, ◌==◌, ◌&&◌, ℕ, Bool, true, List}
use Rattle.std.specs.List.{list_any}

-- the set has the number
abbrev pub has_number : List ℕ → ℕ → Bool
has_number keys number = list_any (λ key. number == key) keys

-- the set has the pair
abbrev pub has_pair : List (ℕ × ℕ) → ℕ → ℕ → Bool
has_pair keys a b = list_any (λ key. a == key.0 && b == key.1) keys

-- each number of the set lies between these
abbrev pub AreWithin : ℕ → ℕ → List ℕ → Type 0
AreWithin low high keys = (n : ℕ) → has_number keys n ≡ true → (low ≤ n) × (n ≤ high)
