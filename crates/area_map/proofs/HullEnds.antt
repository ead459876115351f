-- The least span that holds all leaving areas goes from the first one's start to the last one's end.
use Rattle.std.proofs.Common.{◌≡◌, ◌∙◌, ℕ, ◌+◌, ◌≤◌, ◌<◌, min, max, Bool, true, false, not, Option, Some, None, List}
use Rattle.std.proofs.Common.{[], ◌∷◌, ◌⊎◌, inl, inr, refl, sym, ap, arith, ⊎_elim}
use Rattle.std.specs.List.{filter, find, fold}
use Rattle.std.specs.Option.{option_or}
use Rattle.std.proofs.lemmas.Bool.{cases_Bool}
use Rattle.std.proofs.lemmas.Bool.Decides.{nat_tests}
use Rattle.iofd_words.specs.Bounds.{Bounds}
use Rattle.iofd_words.specs.Span.{lies_in}
use Rattle.iofd_words.specs.declared.rows.Area.{Area}
use Rattle.area_map_rows.specs.Areas.{AreApart, AreApartFrom, areas_outside}
use Rattle.area_map_rows.specs.Rows.{last_leaving, leaves}
use Rattle.area_map_rows.proofs.Kept.{apart-filter}
use Rattle.area_map.specs.Kept.{joined, leaving_span, with_leaving}

-- from the start of one to the end of the other
abbrev pub ends : Option Area → Option Area → Option Bounds
ends None last = None
ends (Some first) None = None
ends (Some first) (Some last) = Some (record { first = first.span.first; last = last.span.last })

-- where the last one ends, if there is one
abbrev end_or : ℕ → Option Area → ℕ
end_or end None = end
end_or end (Some last) = last.span.last

bounds_eq : (a b c d : ℕ) → a ≡ c → b ≡ d
    → ◌≡◌ {A = Option Bounds} (Some (record { first = a; last = b })) (Some (record { first = c; last = d }))
bounds_eq a b c d first last = λ i. Some (record { first = first i; last = last i })

-- what comes behind a span moves its end alone
grown : (low : ℕ) (xs : List Area) (h : Bounds) → AreApartFrom low xs → h.first ≤ h.last → h.last < low
    → fold with_leaving (Some h) xs ≡ Some (record { first = h.first; last = end_or h.last (last_leaving xs) })
grown low [] h apart ordered below = refl
grown low (x ∷ xs) h apart ordered below =
    ⊎_elim
    (λ (is : leaves x ≡ true).
    let more : Bounds = record { first = h.first; last = x.span.last } in
    let join : joined (Some h) x.span ≡ Some more =
    bounds_eq (min h.first x.span.first) (max h.last x.span.last) h.first x.span.last (omega (arith, apart.0, apart.1))
    (omega (arith, apart.0, apart.1)) in
    let rest = grown (x.span.last + 1) xs more apart.2 (omega (arith, apart.0, apart.1)) (omega arith) in
    rw is (ap (λ (hull : Option Bounds). fold with_leaving hull xs) join ∙ rest ∙ by_last (last_leaving xs)))
    (λ (live : leaves x ≡ false).
    rw live (grown (x.span.last + 1) xs h apart.2 ordered (omega (arith, apart.0, apart.1))
    ∙ by_none (last_leaving xs)))
    (cases_Bool (leaves x))
  where
    by_last : (last : Option Area)
        → ◌≡◌ {A = Option Bounds} (Some (record { first = h.first; last = end_or x.span.last last }))
        (Some (record { first = h.first; last = end_or h.last (option_or last (Some x)) }))
    by_last None = refl
    by_last (Some b) = refl

    by_none : (last : Option Area)
        → ◌≡◌ {A = Option Bounds} (Some (record { first = h.first; last = end_or h.last last }))
        (Some (record { first = h.first; last = end_or h.last (option_or last None) }))
    by_none None = refl
    by_none (Some b) = refl

pub span_ends : (low : ℕ) (xs : List Area) → AreApartFrom low xs
    → leaving_span xs ≡ ends (find leaves xs) (last_leaving xs)
span_ends low [] apart = refl
span_ends low (x ∷ xs) apart =
    ⊎_elim
    (λ (is : leaves x ≡ true).
    let rest = grown (x.span.last + 1) xs x.span apart.2 apart.1 (omega arith) in
    rw is (rest ∙ by_last (last_leaving xs)))
    (λ (live : leaves x ≡ false). rw live (span_ends (x.span.last + 1) xs apart.2
    ∙ ap (ends (find leaves xs)) (or_none (last_leaving xs))))
    (cases_Bool (leaves x))
  where
    by_last : (last : Option Area)
        → ◌≡◌ {A = Option Bounds} (Some (record { first = x.span.first; last = end_or x.span.last last }))
        (ends (Some x) (option_or last (Some x)))
    by_last None = refl
    by_last (Some b) = refl

    or_none : (found : Option Area) → found ≡ option_or found None
    or_none None = refl
    or_none (Some a) = refl

-- ---- the first begins below the end of the last one

end_later : (x : Area) (last : Option Area) (end : ℕ) → end_or end (option_or last (Some x)) ≡ end_or x.span.last last
end_later x None end = refl
end_later x (Some b) end = refl

end_same : (last : Option Area) (end : ℕ) → end_or end (option_or last None) ≡ end_or end last
end_same None end = refl
end_same (Some b) end = refl

end_above : (low : ℕ) (xs : List Area) (end : ℕ) → AreApartFrom low xs → end < low
    → end ≤ end_or end (last_leaving xs)
end_above low [] end apart below = omega arith
end_above low (x ∷ xs) end apart below =
    ⊎_elim
    (λ (is : leaves x ≡ true).
    let rest = end_above (x.span.last + 1) xs x.span.last apart.2 (omega arith) in
    rw (is, end_later x (last_leaving xs) end) (omega (arith, rest, apart.0, apart.1)))
    (λ (live : leaves x ≡ false).
    let rest = end_above (x.span.last + 1) xs end apart.2 (omega (arith, apart.0, apart.1)) in
    rw (live, end_same (last_leaving xs) end) rest)
    (cases_Bool (leaves x))

pub first_below : (low : ℕ) (xs : List Area) (a b : Area) → AreApartFrom low xs → find leaves xs ≡ Some a
    → last_leaving xs ≡ Some b → a.span.first ≤ b.span.last
first_below low [] a b apart first last = cc
first_below low (x ∷ xs) a b apart first last =
    ⊎_elim
    (λ (is : leaves x ≡ true).
    let same : x ≡ a = injective x a (rw is at first) in
    let end : b.span.last ≡ end_or x.span.last (last_leaving xs) =
    ap (end_or 0) (sym (rw is at last)) ∙ end_later x (last_leaving xs) 0 in
    let above = end_above (x.span.last + 1) xs x.span.last apart.2 (omega arith) in
    rw (sym same) (omega (arith, end, above, apart.1)))
    (λ (live : leaves x ≡ false).
    first_below (x.span.last + 1) xs a b apart.2 (rw live at first) (or_none (last_leaving xs) ∙ rw live at last))
    (cases_Bool (leaves x))
  where
    injective : (x y : Area) → Some x ≡ Some y → x ≡ y
    injective x y same = cc

    or_none : (found : Option Area) → found ≡ option_or found None
    or_none None = refl
    or_none (Some a) = refl

-- ---- those that stay

first_stays : (p : Area → Bool) (xs : List Area) (a : Area) → find leaves xs ≡ Some a → p a ≡ true
    → find leaves (filter p xs) ≡ Some a
first_stays p [] a found stays = cc
first_stays p (x ∷ xs) a found stays =
    ⊎_elim
    (λ (is : leaves x ≡ true).
    let same : x ≡ a = injective x a (rw is at found) in
    let kept : p x ≡ true = rw same stays in
    rw (kept, is) (ap Some same))
    (λ (live : leaves x ≡ false).
    let rest = first_stays p xs a (rw live at found) stays in
    ⊎_elim (λ (kept : p x ≡ true). rw (kept, live) rest) (λ (goes : p x ≡ false). rw goes rest) (cases_Bool (p x)))
    (cases_Bool (leaves x))
  where
    injective : (x y : Area) → Some x ≡ Some y → x ≡ y
    injective x y same = cc

some_or_none : (found : Option Area) → ((b : Area) × (found ≡ Some b)) ⊎ (found ≡ None)
some_or_none None = inr refl
some_or_none (Some b) = inl (b, refl)

none_last : (p : Area → Bool) (xs : List Area) → last_leaving xs ≡ None → last_leaving (filter p xs) ≡ None
none_last p [] none = refl
none_last p (x ∷ xs) none =
    ⊎_elim
    (λ (behind : (b : Area) × (last_leaving xs ≡ Some b)). let some = rw behind.1 at none in cc)
    (λ (last : last_leaving xs ≡ None).
    ⊎_elim
    (λ (is : leaves x ≡ true). let some = rw (last, is) at none in cc)
    (λ (live : leaves x ≡ false).
    let rest = none_last p xs last in
    ⊎_elim (λ (kept : p x ≡ true). rw (kept, rest, live) refl) (λ (goes : p x ≡ false). rw goes rest)
    (cases_Bool (p x)))
    (cases_Bool (leaves x)))
    (some_or_none (last_leaving xs))

last_stays : (p : Area → Bool) (xs : List Area) (b : Area) → last_leaving xs ≡ Some b → p b ≡ true
    → last_leaving (filter p xs) ≡ Some b
last_stays p [] b found stays = cc
last_stays p (x ∷ xs) b found stays =
    ⊎_elim
    (λ (behind : (c : Area) × (last_leaving xs ≡ Some c)).
    let same : behind.0 ≡ b = injective behind.0 b (rw behind.1 at found) in
    let rest = last_stays p xs b (behind.1 ∙ ap Some same) stays in
    ⊎_elim (λ (kept : p x ≡ true). rw (kept, rest) refl) (λ (goes : p x ≡ false). rw goes rest) (cases_Bool (p x)))
    (λ (none : last_leaving xs ≡ None).
    ⊎_elim
    (λ (is : leaves x ≡ true).
    let same : x ≡ b = injective x b (rw (none, is) at found) in
    let kept : p x ≡ true = rw same stays in
    rw (kept, none_last p xs none, is) (ap Some same))
    (λ (live : leaves x ≡ false). let other = rw (none, live) at found in cc)
    (cases_Bool (leaves x)))
    (some_or_none (last_leaving xs))
  where
    injective : (x y : Area) → Some x ≡ Some y → x ≡ y
    injective x y same = cc

-- where areas go that lie inside the hull, but reach neither end of it, the hull stays
pub hull_stays : (h gone : Bounds) (xs : List Area) → AreApart xs → leaving_span xs ≡ Some h → h.first < gone.first
    → gone.last < h.last → leaving_span (areas_outside gone xs) ≡ Some h
hull_stays h gone xs apart is front back =
    by_ends (find leaves xs) (last_leaving xs) refl refl (sym (span_ends 0 xs apart) ∙ is)
  where
    outside : Area → Bool
    outside a = not (lies_in a.span gone)

    left : leaving_span (areas_outside gone xs)
        ≡ ends (find leaves (filter outside xs)) (last_leaving (filter outside xs))
    left = span_ends 0 (areas_outside gone xs) (apart-filter outside 0 xs apart)

    by_ends : (first last : Option Area) → find leaves xs ≡ first → last_leaving xs ≡ last → ends first last ≡ Some h
        → leaving_span (areas_outside gone xs) ≡ Some h
    by_ends None last none found hull = cc
    by_ends (Some a) None found none hull = cc
    by_ends (Some a) (Some b) first last hull =
        let begin : a.span.first ≡ h.first = ap first_of (injective hull) in
        let end : b.span.last ≡ h.last = ap last_of (injective hull) in
        let here : outside a ≡ true = grind (arith, nat_tests) in
        let there : outside b ≡ true = grind (arith, nat_tests) in
        left ∙ rw (first_stays outside xs a first here, last_stays outside xs b last there) hull
      where
        injective : {x y : Bounds} → ◌≡◌ {A = Option Bounds} (Some x) (Some y) → x ≡ y
        injective same = cc

        first_of : Bounds → ℕ
        first_of bounds = bounds.first

        last_of : Bounds → ℕ
        last_of bounds = bounds.last
