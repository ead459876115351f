-- How many rows there are, and within which numbers they lie.
use Rattle.std.specs.Prelude.{◌≡◌, ◌<◌, ◌≤◌, ℕ, ◌+◌, ◌-◌, ◌%◌, ◌^◌, Bool, List, []}
use Rattle.std.specs.Prelude.{◌∷◌, if◌then◌else◌}
use Rattle.iofd_words.specs.declared.rows.Area.{Area}

-- how many pass the test
abbrev pub how_many : {X : Type 0} → (X → Bool) → List X → ℕ
how_many p [] = 0
how_many p (x ∷ xs) = if p x then 1 + how_many p xs else how_many p xs

-- the area begins at a page, has whole pages, at least one, and ends below 2^64
pub record LiesWell (area : Area) : Type 0 where
  pub first : area.span.first % 4096 ≡ 0
  pub some : area.span.first ≤ area.span.last
  pub pages : (area.span.last + 1 - area.span.first) % 4096 ≡ 0
  pub last : area.span.last < 2 ^ 64
