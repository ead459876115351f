use Rattle.std.proofs.Common.{◌≡◌, ◌∙◌, ap, arith, refl, sym, List, Option, Some, None, IfSome, IsSome}
use Rattle.std.specs.List.{find}
use Rattle.std.specs.Option.{option_copied}
use Rattle.iofd_words.specs.declared.rows.Area.{Area}
use Rattle.area_map_rows.specs.Rows.{in_rows, last_leaving, leaves}
use Rattle.area_map.proofs.HullEnds.{ends, first_below, span_ends}
use Rattle.area_map.proofs.leaving.ends_in.Goals as goal

pub returns-in_err-first : goal.returns-in_err-first
returns-in_err-first g c =
    let areas : List Area = in_rows c.args.rows.now in
    let first : find leaves areas ≡ None = sym c.first_leaving.ensures ∙ ap option_copied c.in_err-first.was in
    c.from_residual.ensures
    ∙ sym (span_ends 0 areas c.requires.apart ∙ ap (λ found. ends found (last_leaving areas)) first)

pub returns-in_err-last : goal.returns-in_err-last
returns-in_err-last g c =
    let areas : List Area = in_rows c.args.rows.now in
    let first : find leaves areas ≡ Some c.in_ok-first.first.now =
    sym c.first_leaving.ensures ∙ ap option_copied c.in_ok-first.was in
    let last : last_leaving areas ≡ None = sym c.last_leaving.ensures ∙ ap option_copied c.in_err-last.was in
    c.from_residual-in_err-last.ensures ∙ sym (span_ends 0 areas c.requires.apart ∙ rw (first, last) refl)

pub returns : goal.returns
returns g c =
    let areas : List Area = in_rows c.args.rows.now in
    let first : find leaves areas ≡ Some c.in_ok-first.first.now =
    sym c.first_leaving.ensures ∙ ap option_copied c.in_ok-first.was in
    let last : last_leaving areas ≡ Some c.in_ok-last.last.now =
    sym c.last_leaving.ensures ∙ ap option_copied c.in_ok-last.was in
    let below = first_below 0 areas c.in_ok-first.first.now c.in_ok-last.last.now c.requires.apart first last in
    let some = c.new.ensures.ordered.1 (omega (arith, below, c.first.ensures.value, c.last.ensures.value)) in
    let is = valued c.new.result _ some c.new.ensures.value in
    rw (c.first.ensures.value, c.last.ensures.value) at is
    ∙ sym (span_ends 0 areas c.requires.apart ∙ rw (first, last) refl)
  where
    valued : {X : Type 0} → (found : Option X) → (x : X) → IsSome found → IfSome found (λ y. y ≡ x) → found ≡ Some x
    valued None x some value = cc
    valued (Some y) x some value = ap Some value
