-- What fails from an address on.
use Rattle.std.proofs.Common.{◌≡◌, ℕ, ◌+◌, ◌≤◌, Bool, false, List, [], ◌∷◌, refl, arith}
use Rattle.std.specs.List.{filter}
use Rattle.std.proofs.lemmas.Bool.Decides.{nat_tests}
use Rattle.iofd_words.specs.declared.rows.Area.{Area}
use Rattle.area_map_rows.specs.Areas.{AreApartFrom}

-- what fails from an address on is not kept of what begins there
pub filter_from : (p : Area → Bool) (low : ℕ) (xs : List Area) → AreApartFrom low xs
    → ((b : Area) → low ≤ b.span.first → b.span.first ≤ b.span.last → p b ≡ false) → filter p xs ≡ []
filter_from p low [] apart fails = refl
filter_from p low (x ∷ xs) apart fails =
    let here = fails x apart.0 apart.1 in
    let rest = filter_from p (x.span.last + 1) xs apart.2
    (λ b after ordered. fails b (omega (arith, apart.0, apart.1)) ordered) in
    grind (arith, nat_tests)
