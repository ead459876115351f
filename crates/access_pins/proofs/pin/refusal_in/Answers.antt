use Rattle.std.proofs.Common.{◌≡◌, true, false, ◌&&◌, eqb, Some, [], ◌∷◌, refl, sym, ap}
use Rattle.std.proofs.Common.{◌∙◌, arith}
use Rattle.std.proofs.lemmas.Bool.{ne_eqb}
use Rattle.access_pins.proofs.PinPlace.{space_there, whole_span}
use Rattle.iofd_rows.proofs.Bools.{clash}
use Rattle.iofd_words.specs.Accesses.{has_gap, lacks_accessed_page, meets_leaving, meets_without_right, pinned_span}
use Rattle.iofd_words.specs.Bounds.{Bounds}
use Rattle.iofd_refusals.specs.Checks.{passes_limit_accessed, pin_checks_in}
use Rattle.iofd_words.specs.FirstTrue.{first_true}
use Rattle.iofd_words.specs.Pages.{is_above_sum, is_whole}
use Rattle.iofd_words.specs.Span.{is_whole_pages}
use Rattle.iofd_words.specs.View.{View}
use Rattle.iofd_words.specs.declared.event.PinRequest.{PinRequest}
use Rattle.iofd_words.specs.declared.numbers.FileNo.{FileNo}
use Rattle.iofd_words.specs.declared.numbers.ObjId.{ObjId}
use Rattle.iofd_words.specs.declared.refusal.Cause.TheVariants as cause
use Rattle.server_state.specs.Seen.{seen}
use Rattle.access_pins.proofs.pin.refusal_in.Goals as goal

module _ (v : View) (file : FileNo) (id ioas : ObjId) (request : PinRequest) where
  -- the rows of the span are left where the sum isn't above 2^64, and the span is of whole pages
  span_rows : (span : Bounds) → span ≡ pinned_span request → is_above_sum request.iova.0 request.length ≡ false
      → eqb request.length 0 ≡ false → (is_whole request.length && is_whole request.iova.0) ≡ true
      → first_true (pin_checks_in v file id request (Some ioas)) ≡ first_true (
      (cause.Span, has_gap span (v.areas_of file ioas))
      ∷ (cause.Leaving, meets_leaving span (v.areas_of file ioas))
      ∷ (cause.Rights, meets_without_right span request.write (v.areas_of file ioas))
      ∷ (cause.Full, v.has_most_pins file id)
      ∷ (cause.Absent, lacks_accessed_page v file ioas span)
      ∷ (cause.Account, passes_limit_accessed v file ioas span)
      ∷ [])
  span_rows span is sum some pages = rw (sum, some, pages, is) refl

pub unreachable-requires-in_default-areas_of : goal.unreachable-requires-in_default-areas_of
unreachable-requires-in_default-areas_of g c =
    clash _ c.in_default-areas_of.ensures (space_there c.args.state.now c.requires.known c.args.file c.args.id
    c.args.ioas c.requires.attached)

pub refusal_under-requires-clause-span : goal.refusal_under-requires-clause-span
refusal_under-requires-clause-span g c =
    let some = c.if-request-eq0.false in
    ap is_whole_pages c.in-Some.ensures.value
    ∙ whole_span c.args.request.iova.0 c.args.request.length (omega (arith, some))
    (sym c.are_pages.ensures ∙ c.if-not-are_pages.false)

pub returns : goal.returns
returns g c =
    c.refusal_under.ensures
    ∙ sym (span_rows (seen c.args.state.now) c.args.file c.args.id c.args.ioas c.args.request c.in-Some.span
    c.in-Some.ensures.value (sym c.is_above_sum.ensures ∙ c.if-is_above_sum.false)
    (ne_eqb c.args.request.length 0 c.if-request-eq0.false)
    (sym c.are_pages.ensures ∙ c.if-not-are_pages.false))
