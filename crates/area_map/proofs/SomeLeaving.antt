-- There is a span of leaving areas just where some area is leaving.
use Rattle.std.proofs.Common.{◌≡◌, Bool, true, false, ◌||◌, not, is_some, Option, Some, None, List, [], ◌∷◌, refl, ◌∙◌}
use Rattle.std.proofs.Common.{ap, fold}
use Rattle.std.specs.List.{list_any}
use Rattle.area_map.specs.Kept.{leaving_span, with_leaving}
use Rattle.iofd_words.specs.Bounds.{Bounds}
use Rattle.iofd_words.specs.TablePlaces.{is_live}
use Rattle.iofd_words.specs.declared.rows.Area.{Area}
use Rattle.iofd_words.specs.declared.rows.Phase.{Phase}
use Rattle.iofd_words.specs.declared.rows.Phase.TheVariants.{Live, Leaving}

-- the area that leaves makes a span
one_more : (hull : Option Bounds) (a : Area) → is_some (with_leaving hull a) ≡ (is_some hull || not (is_live a.phase))
one_more hull a = by_phase hull a.phase refl
  where
    by_phase : (h : Option Bounds) (p : Phase) → a.phase ≡ p
        → is_some (with_leaving h a) ≡ (is_some h || not (is_live p))
    by_phase None Live is = rw is refl
    by_phase (Some span) Live is = rw is refl
    by_phase None (Leaving owed tries) is = rw is refl
    by_phase (Some span) (Leaving owed tries) is = rw is refl

from : (hull : Option Bounds) (areas : List Area)
    → is_some (fold with_leaving hull areas) ≡ (is_some hull || list_any (λ area. not (is_live area.phase)) areas)
from hull [] = by_none (is_some hull)
  where
    by_none : (b : Bool) → b ≡ (b || false)
    by_none true = refl
    by_none false = refl
from hull (a ∷ areas) =
    from (with_leaving hull a) areas
    ∙ ap (λ b. b || list_any (λ area. not (is_live area.phase)) areas) (one_more hull a)
    ∙ grouped (is_some hull) (not (is_live a.phase)) (list_any (λ area. not (is_live area.phase)) areas)
  where
    grouped : (a b c : Bool) → ((a || b) || c) ≡ (a || (b || c))
    grouped true b c = refl
    grouped false b c = refl

pub some_leaving : (hull : Option Bounds) (areas : List Area) → hull ≡ leaving_span areas
    → is_some hull ≡ list_any (λ area. not (is_live area.phase)) areas
some_leaving hull areas is = ap (λ (h : Option Bounds). is_some h) is ∙ from None areas
