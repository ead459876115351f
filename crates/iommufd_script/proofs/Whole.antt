-- Bytes that are all of a text: no digit parts it.
use Rattle.std.proofs.Common.{◌≡◌, ℕ, Bool, true, false, ◌&&◌, cond, eqb, nat_lt, ◌%◌, List, [], ◌∷◌, length, codes}
use Rattle.std.proofs.Common.{Option, Some, None, refl, sym, ap, ◌∙◌}
use Rattle.std.proofs.lemmas.Bool.{eqb-true}
use Rattle.std.proofs.lemmas.Slice.Eq.{bytes_eq-Decides}
use Rattle.std.specs.List.{list_all, onto_first}
use Rattle.std.specs.Str.{bytes_eq}
use Rattle.iommufd_script.specs.Digits.{is_lower_digit, bytes_of, pairs}
use Rattle.iommufd_script.specs.Fields.{fields}
use Rattle.iommufd_script.proofs.Bools.{and-parts}

unlike : (c : ℕ) (b : Bool) → eqb c 32 ≡ b → is_lower_digit c ≡ true → b ≡ false
unlike c false test e = refl
unlike c true test e =
    let space : c ≡ 32 = eqb-true c 32 test in
    let odd : false ≡ true = ap is_lower_digit (sym space) ∙ e in
    absurd cc

no_space : (c : ℕ) → is_lower_digit c ≡ true → eqb c 32 ≡ false
no_space c e = unlike c (eqb c 32) refl e

unparted : (text : List ℕ) → list_all is_lower_digit text ≡ true → fields text ≡ text ∷ []
unparted [] e = refl
unparted (c ∷ text) e =
    let both = and-parts (is_lower_digit c) (list_all is_lower_digit text) e in
    ap (λ (b : Bool). cond b ([] ∷ fields text) (onto_first c (fields text))) (no_space c both.0)
    ∙ ap (onto_first c) (unparted text both.1)

if_digits : (some : Bool) (text : List ℕ) (bytes : List ℕ) → (some ≡ true → list_all is_lower_digit text ≡ true)
    → cond some (Some (pairs text)) None ≡ Some bytes → fields text ≡ text ∷ []
if_digits true text bytes digits e = unparted text (digits refl)
if_digits false text bytes digits e = absurd cc

if_dash : (dash : Bool) (text : List ℕ) (bytes : List ℕ) (others : Option (List ℕ)) → (dash ≡ true → text ≡ codes "-")
    → (others ≡ Some bytes → fields text ≡ text ∷ []) → cond dash (Some []) others ≡ Some bytes
    → fields text ≡ text ∷ []
if_dash true text bytes others is digits e =
    ap (λ (t : List ℕ). fields t) (is refl) ∙ ap (λ (t : List ℕ). t ∷ []) (sym (is refl))
if_dash false text bytes others is digits e = digits e

-- where a text is bytes, it's one field
pub whole_field : (text bytes : List ℕ) → bytes_of text ≡ Some bytes → fields text ≡ text ∷ []
unfolding bytes_of
whole_field text bytes e =
    let some = nat_lt 0 (length text) && eqb (length text % 2) 0 in
    if_dash (bytes_eq text (codes "-")) text bytes _ (bytes_eq-Decides text (codes "-")).0
    (λ good. if_digits (some && list_all is_lower_digit text) text bytes
    (λ all. let both = and-parts some (list_all is_lower_digit text) all in both.1) good)
    e
