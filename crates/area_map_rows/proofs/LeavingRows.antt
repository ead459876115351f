-- Areas that are leaving, where some come, go or change.
use Rattle.std.proofs.Common.{◌≡◌, ◌∙◌, Bool, true, false, ◌||◌, ◌&&◌, ltb, ℕ, List, [], ◌∷◌, refl, sym, ap, map}
use Rattle.std.proofs.Common.{⊎_elim}
use Rattle.std.specs.List.{filter}
use Rattle.std.proofs.lemmas.Bool.{cases_Bool}
use Rattle.iofd_words.specs.Bounds.{Bounds}
use Rattle.iofd_words.specs.Areas.{with_tries}
use Rattle.iofd_words.specs.Span.{lies_in}
use Rattle.iofd_words.specs.declared.rows.Area.{Area}
use Rattle.iofd_words.specs.declared.rows.Phase.{Phase}
use Rattle.iofd_words.specs.declared.rows.Phase.TheVariants.{Live, Leaving}
use Rattle.area_map_rows.specs.declared.marking.Change.{Change}
use Rattle.area_map_rows.specs.declared.marking.Change.TheVariants.{Leave, Pay, SetTries}
use Rattle.area_map_rows.specs.Areas.{changed, with_area}
use Rattle.area_map_rows.proofs.RowsChanged.{live_paid}
use Rattle.area_map_rows.specs.Rows.{has_leaving, is_leaving, leaves, reaches_live}

or_swap : (a b c : Bool) → (a || (b || c)) ≡ (b || (a || c))
or_swap true true c = refl
or_swap true false c = refl
or_swap false b c = refl

or_turned : (a b : Bool) → (a || b) ≡ (b || a)
or_turned true true = refl
or_turned true false = refl
or_turned false true = refl
or_turned false false = refl

-- one area more
any_with : (a : Area) (xs : List Area) → has_leaving (with_area a xs) ≡ (leaves a || has_leaving xs)
any_with a [] = refl
any_with a (x ∷ xs) =
    ⊎_elim
    (λ (before : ltb a.span.first x.span.first ≡ true). rw before refl)
    (λ (behind : ltb a.span.first x.span.first ≡ false). rw behind
    (ap (λ b. leaves x || b) (any_with a xs) ∙ or_swap (leaves x) (leaves a) (has_leaving xs)))
    (cases_Bool (ltb a.span.first x.span.first))

pub leaving_with : (a : Area) (xs : List Area) (was : Bool) → was ≡ has_leaving xs
    → (was || leaves a) ≡ has_leaving (with_area a xs)
leaving_with a xs was is =
    or_turned was (leaves a) ∙ ap (λ b. leaves a || b) is ∙ sym (any_with a xs)

-- of areas of which none is leaving, none of those that are left is
none_left : (p : Area → Bool) (xs : List Area) → has_leaving xs ≡ false → has_leaving (filter p xs) ≡ false
none_left p [] none = refl
none_left p (x ∷ xs) none =
    ⊎_elim
    (λ (is : leaves x ≡ true). let some = rw is at none in cc)
    (λ (live : leaves x ≡ false).
    let rest = none_left p xs (rw live at none) in
    ⊎_elim (λ (stays : p x ≡ true). rw (stays, live) rest) (λ (goes : p x ≡ false). rw goes rest) (cases_Bool (p x)))
    (cases_Bool (leaves x))

pub leaving_left : (p : Area → Bool) (xs : List Area) (was : Bool) → was ≡ has_leaving xs
    → (was && has_leaving (filter p xs)) ≡ has_leaving (filter p xs)
leaving_left p xs true is = refl
leaving_left p xs false is = sym (none_left p xs (sym is))

-- ---- what changes leaving areas alone

live_tried : (tries : ℕ) (phase : Phase) → is_leaving phase ≡ false → with_tries tries phase ≡ phase
live_tried tries Live live = refl
live_tried tries (Leaving owed old) live = cc

live_changed : (change : Change) (span : Bounds) → reaches_live change ≡ false → (a : Area) → leaves a ≡ false
    → changed change span a ≡ a
live_changed (Leave owed) span other a live = cc
live_changed (Pay device) span other a live = let same = live_paid device a.phase live in rw same refl
live_changed (SetTries tries) span other a live =
    let same = live_tried tries a.phase live in
    ⊎_elim (λ (inside : lies_in a.span span ≡ true). rw (inside, same) refl)
    (λ (outside : lies_in a.span span ≡ false). rw outside refl) (cases_Bool (lies_in a.span span))

pub live_stay : (change : Change) (span : Bounds) → reaches_live change ≡ false → (xs : List Area)
    → has_leaving xs ≡ false → map (changed change span) xs ≡ xs
live_stay change span other [] none = refl
live_stay change span other (x ∷ xs) none =
    ⊎_elim
    (λ (is : leaves x ≡ true). let some = rw is at none in cc)
    (λ (live : leaves x ≡ false).
    let here = live_changed change span other x live in
    let rest = live_stay change span other xs (rw live at none) in
    rw (here, rest) refl)
    (cases_Bool (leaves x))
