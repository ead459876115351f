-- Where a MAP or a COPY that nothing refuses puts its area, be the address fixed or chosen: at a page's border, in
-- addresses that can be used, and beside the areas that stand.
use Rattle.std.proofs.Common.{◌≡◌, ℕ, Bool, true, false, not, None, List, [], ◌∷◌, refl, sym, subst, arith}
use Rattle.std.proofs.lemmas.Bool.Decides.{nat_tests}
use Rattle.std.proofs.lemmas.Bool.{not-false}
use Rattle.iofd_steps.specs.Answers.{IsMappedAt}
use Rattle.iofd_words.specs.Areas.{areas_meet}
use Rattle.iofd_words.specs.Bounds.{Bounds}
use Rattle.iofd_refusals.specs.Checks.{choices, copy_checks, map_checks, may_choose, taken_spans, unusable_in}
use Rattle.iofd_words.specs.Copies.{placed_as}
use Rattle.iofd_words.specs.FirstTrue.{first_true}
use Rattle.iofd_words.specs.Pages.{is_above_sum, is_whole}
use Rattle.iofd_words.specs.Ranges.{meets_some}
use Rattle.iofd_words.specs.Rights.{is_fixed}
use Rattle.iofd_words.specs.Room.{fits}
use Rattle.iofd_words.specs.Span.{meets, span_from}
use Rattle.iofd_words.specs.Usable.{occupied}
use Rattle.iofd_words.specs.View.{View, view}
use Rattle.iofd_words.specs.World.{World}
use Rattle.iofd_words.specs.declared.event.CopyRequest.{CopyRequest}
use Rattle.iofd_words.specs.declared.event.MapRequest.{MapRequest}
use Rattle.iofd_words.specs.declared.numbers.FileNo.{FileNo}
use Rattle.iofd_words.specs.declared.numbers.Iova.{Iova}
use Rattle.iofd_words.specs.declared.rows.Area.{Area}
use Rattle.iofd_rows.proofs.Bools.{and_rest, and_true, not_true, or_false}
use Rattle.iofd_runs.proofs.NotRefused.{PlacePassed, copy_place, map_place}

pub record LiesAt (v : View) (file : FileNo) (request : MapRequest) (iova : ℕ) : Type 0 where
  pub sum : is_above_sum iova request.length ≡ false
  pub whole : is_whole iova ≡ true
  pub usable : meets_some (unusable_in v file request.ioas) (span_from iova request.length) ≡ false
  pub apart : areas_meet (span_from iova request.length) (v.areas_of file request.ioas) ≡ false

-- what meets none of the occupied spans meets no unusable one and no area
meets_parts : (unusable : List Bounds) (areas : List Area) (span : Bounds)
    → meets_some (occupied unusable areas) span ≡ false → (meets_some unusable span ≡ false)
    × (areas_meet span areas ≡ false)
meets_parts [] [] span clear = (refl, refl)
meets_parts [] (a ∷ areas) span clear =
    let parts = or_false (meets a.span span) (meets_some (occupied [] areas) span) clear in
    let rest = meets_parts [] areas span parts.1 in
    (refl, rw parts.0 rest.1)
meets_parts (one ∷ unusable) areas span clear =
    let parts = or_false (meets one span) (meets_some (occupied unusable areas) span) clear in
    let rest = meets_parts unusable areas span parts.1 in
    (rw parts.0 rest.0, rest.1)

chosen_lies : (v : View) (file : FileNo) (request : MapRequest) (iova : ℕ) → may_choose v file request iova ≡ true
    → LiesAt v file request iova
chosen_lies v file request iova may =
    let below = and_true (not (is_above_sum iova request.length))
    (fits request.length (choices v file request) (taken_spans v file request) iova) may in
    let whole : is_whole iova ≡ true = let fit = below.1 in grind (arith, nat_tests) in
    let free : meets_some (taken_spans v file request) (span_from iova request.length) ≡ false =
    let fit = below.1 in grind (arith, nat_tests) in
    let clear = meets_parts (unusable_in v file request.ioas) (v.areas_of file request.ioas)
    (span_from iova request.length) free in
    record { sum = not_true _ below.0; whole = whole; usable = clear.0; apart = clear.1 }

fixed_lies : (v : View) (file : FileNo) (request : MapRequest) → is_fixed request.flags ≡ true
    → PlacePassed v file request → LiesAt v file request request.iova.0
fixed_lies v file request is passed =
    record {
      sum = and_rest (is_fixed request.flags) _ is passed.sum;
      whole = not-false (is_whole request.iova.0) (and_rest (is_fixed request.flags) _ is passed.whole_iova);
      usable = and_rest (is_fixed request.flags) _ is passed.usable;
      apart = and_rest (is_fixed request.flags) _ is passed.apart;
    }

-- an area that is placed as the request says
pub placed_lies : (w : World) (file : FileNo) (request : MapRequest) (iova : Iova) → PlacePassed (view w) file request
    → IsMappedAt w file request (is_fixed request.flags) iova → LiesAt (view w) file request iova.0
placed_lies w file request iova passed is =
    by_flag (is_fixed request.flags) refl is
  where
    by_flag : (b : Bool) → is_fixed request.flags ≡ b → IsMappedAt w file request b iova
        → LiesAt (view w) file request iova.0
    by_flag true fixed at =
        let here = fixed_lies (view w) file request fixed passed in
        subst (λ (i : Iova). LiesAt (view w) file request i.0) (sym at) here
    by_flag false fixed chosen = chosen_lies (view w) file request iova.0 chosen

-- a MAP's
pub lies_at : (w : World) (file : FileNo) (request : MapRequest) (iova : Iova)
    → first_true (map_checks (view w) file request) ≡ None → IsMappedAt w file request (is_fixed request.flags) iova
    → LiesAt (view w) file request iova.0
lies_at w file request iova none is = placed_lies w file request iova (map_place (view w) file request none) is

-- a COPY's
pub copy_lies_at : (w : World) (file : FileNo) (request : CopyRequest) (iova : Iova)
    → first_true (copy_checks (view w) file request) ≡ None
    → IsMappedAt w file (placed_as request) (is_fixed request.flags) iova
    → LiesAt (view w) file (placed_as request) iova.0
copy_lies_at w file request iova none is =
    placed_lies w file (placed_as request) iova (copy_place (view w) file request none) is
