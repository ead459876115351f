-- A field with two dashes is no span.
use Rattle.std.proofs.Common.{◌≡◌, ℕ, ◌<◌, true, eqb, List, [], ◌∷◌, length, Option, Some, None, is_some, MatchOption}
use Rattle.std.proofs.Common.{refl, sym, ap, ◌∙◌, arith}
use Rattle.std.proofs.lemmas.List.Splits.{length-slice_split}
use Rattle.std.specs.List.{slice_split}
use denote.Ref.{Bor}
use Rattle.iommufd_script.specs.Fields.{span_of_parts, span_of}

abbrev parts : List ℕ → List (List ℕ)
parts text = slice_split (λ c. eqb c 45) text

more_parts : (first last : List ℕ) (others : List (List ℕ)) → 0 < length others
    → span_of_parts (first ∷ last ∷ others) ≡ None
more_parts first last [] h = absurd (omega arith)
more_parts first last (other ∷ others) h = refl

pub two_dashes : (text first last : List ℕ) (cut : Option (Bor (List ℕ) × Bor (List ℕ))) → is_some cut ≡ true
    → parts text ≡ first ∷ parts last
    → MatchOption cut (parts last ≡ last ∷ []) (λ both. parts last ≡ both.0.now ∷ parts both.1.now)
    → None ≡ span_of text
unfolding span_of
two_dashes text first last None some e f = absurd cc
two_dashes text first last (Some both) some e f =
    let more = length-slice_split (λ c. eqb c 45) both.1.now in
    sym (ap span_of_parts (e ∙ ap (λ (texts : List (List ℕ)). first ∷ texts) f)
    ∙ more_parts first both.0.now (parts both.1.now) (omega (arith, more)))
