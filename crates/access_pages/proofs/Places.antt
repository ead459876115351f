-- Where an area of a list begins and ends.
use Rattle.std.proofs.Common.{◌≡◌, ℕ, ◌+◌, ◌≤◌, List, [], ◌∷◌, subst, inl, inr, arith}
use Rattle.area_map_rows.specs.Areas.{AreApartFrom}
use Rattle.iofd_rows.proofs.Each.{IsIn}
use Rattle.iofd_words.specs.declared.rows.Area.{Area}

-- an area of a list begins where the list may begin or behind, and ends behind its begin
pub place_of : (low : ℕ) (areas : List Area) → AreApartFrom low areas → (a : Area) → IsIn areas a
    → (low ≤ a.span.first) × (a.span.first ≤ a.span.last)
place_of low [] apart a among = absurd among
place_of low (x ∷ areas) apart a (inl same) = subst (λ (y : Area). (low ≤ y.span.first) × (y.span.first ≤ y.span.last))
    same (apart.0, apart.1)
place_of low (x ∷ areas) apart a (inr later) =
    let (begins, ends) = place_of (x.span.last + 1) areas apart.2 a later in
    let first = apart.0 in
    let second = apart.1 in
    (omega (arith, first, second, begins), ends)
