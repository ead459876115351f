-- Ranges that bound addresses.
use Rattle.std.proofs.Common.{◌≡◌, ◌==◌, Bool, false, List, [], ◌∷◌, length, arith}
use Rattle.std.specs.Prelude.{◌↔◌}
use Rattle.std.specs.Bool.{IsTrue}
use Rattle.std.proofs.lemmas.Bool.Decides.{nat_tests}
use Rattle.iofd_words.specs.Bounds.{Bounds}
use Rattle.iova_ranges.specs.Ranges.{AllIn}
use Rattle.iova_ranges.specs.Allowed.{IsAllowed}

pub allowed-tells : (xs : List Bounds) (span : Bounds) (b : Bool) → false ≡ (length xs == 0) → IsTrue b ↔ AllIn xs span
    → IsTrue b ↔ IsAllowed xs span
allowed-tells [] span b some tells = absurd (grind (arith, nat_tests))
allowed-tells (x ∷ xs) span b some tells = tells
