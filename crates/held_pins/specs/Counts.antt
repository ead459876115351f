-- How often each key is counted: rows of a key and its count, in whatever order.
use Rattle.std.specs.Prelude.{ℕ, ◌≡◌, ◌+◌, ◌*◌, ◌<◌, true, List}
use Rattle.std.specs.BTreeMap.{is_at}
use Rattle.std.specs.BTreeMap.Range.{IsLeBy}
use Rattle.std.specs.List.{AllByRecursion, sum_by}
use Rattle.std.specs.Map.{lookup}
use Rattle.std.specs.Option.{unwrap_or}
use Rattle.std.specs.declared.cmp.Ordering.{Ordering}

-- each key that has a row is counted
abbrev pub ArePositive : {K : Type 0} → List (K × ℕ) → Type 0
ArePositive rows = AllByRecursion (λ row. 0 < row.1) rows

-- what the keys weigh together, each as often as it is counted
abbrev pub weighed : {K : Type 0} → (K → ℕ) → List (K × ℕ) → ℕ
weighed weight rows = sum_by (λ row. row.1 * weight row.0) rows

module _ {K : Type 0} (cmp : K → K → Ordering) where
  -- how often the key is counted
  abbrev pub count_in : List (K × ℕ) → K → ℕ
  count_in rows key = unwrap_or (lookup (is_at (cmp key)) rows) 0

  -- whatever each key weighs, those that compare alike the same, the second rows weigh so much more than the first as
  -- this key does
  abbrev pub WeighsMore : List (K × ℕ) → List (K × ℕ) → K → Type 0
  WeighsMore less more key =
      (weight : K → ℕ) → ((other : K) → is_at (cmp key) other ≡ true → weight other ≡ weight key)
      → weighed weight more ≡ weighed weight less + weight key

  -- this is the least key that isn't below the given one and is counted, as often as this says of each
  pub record IsFirstFrom (count : K → ℕ) (from key : K) : Type 0 where
    pub counted : 0 < count key
    pub reached : IsLeBy cmp from key
    pub least : (other : K) → IsLeBy cmp from other → 0 < count other → IsLeBy cmp key other
