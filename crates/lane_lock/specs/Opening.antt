-- How a lock begins.
use Rattle.std.specs.Prelude.{◌≡◌, ◌≢◌, ℕ, List, length, Option, Some, None}
use mathlib.Core.Option.{some}
use lib.ListN.{get_elem?}
use Rattle.std.specs.Arc.{arc_value}
use Rattle.std.specs.declared.sync.Arc.{Arc}
use Rattle.lane_lock.specs.declared.refusal.NewError.{NewError}
use Rattle.lane_lock.specs.declared.refusal.NewError.TheVariants as refusal

-- so many slots, each with a share of the value of the first share, or none; lane 0 has one
pub record AreShares {K Z : Type 0} (first : Arc K Z) (many : ℕ) (slots : List (Option (Arc K Z))) : Type 0 where
  pub count : length slots ≡ many
  pub shares : (k : ℕ) (a : Arc K Z) → get_elem? slots k ≡ some (Some a) → arc_value a ≡ arc_value first
  pub filled : get_elem? slots 0 ≢ some None

-- the value comes back, or a share of it
abbrev pub GivesBack : {K A S E : Type 0} → K → NewError K A S E → Type 0
GivesBack value (refusal.Value back) = back ≡ value
GivesBack value (refusal.Share share) = arc_value share ≡ value
