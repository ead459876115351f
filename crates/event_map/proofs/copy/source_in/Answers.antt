use Rattle.std.proofs.Common.{◌≡◌, Bool, Option, Some, None, cond, List, sym, ◌∙◌, ap}
use Rattle.area_map_rows.specs.Areas.{AreApart, area_of}
use Rattle.iofd_words.specs.Bounds.{Bounds}
use Rattle.iofd_words.specs.Copies.{source_in}
use Rattle.iofd_words.specs.Span.{span_from}
use Rattle.iofd_words.specs.declared.event.CopyRequest.{CopyRequest}
use Rattle.iofd_words.specs.declared.rows.Area.{Area}
use Rattle.event_map.proofs.SourceFound.{live_of, source_found}
use Rattle.event_map.proofs.copy.source_in.Goals as goal

-- what is found by the span, if it is live
told : (areas : List Area) (request : CopyRequest) (span : Bounds) (o : Option Area) → AreApart areas
    → span ≡ span_from request.src_iova.0 request.length → o ≡ area_of span areas → live_of o ≡ source_in areas request
told areas request span o apart is found =
    ap live_of (found ∙ ap (λ (s : Bounds). area_of s areas) is)
    ∙ sym (source_found (span_from request.src_iova.0 request.length) 0 areas apart)

pub returns-in_default-exact : goal.returns-in_default-exact
returns-in_default-exact g c = told c.args.areas.now.areas c.args.request c.in-Some.span None c.facts.ensures.kept.apart
    c.in-Some.ensures.value c.in_default-exact.ensures

pub returns-then-is_live : goal.returns-then-is_live
returns-then-is_live g c =
    let live = sym c.is_live.ensures ∙ c.if-is_live.true in
    ap (λ (b : Bool). cond b (Some c.in-Some-exact.area.now) None) (sym live)
    ∙ told c.args.areas.now.areas c.args.request c.in-Some.span (Some c.in-Some-exact.area.now)
    c.facts.ensures.kept.apart
    c.in-Some.ensures.value c.in-Some-exact.ensures

pub returns-else-is_live : goal.returns-else-is_live
returns-else-is_live g c =
    let gone = sym c.is_live.ensures ∙ c.if-is_live.false in
    ap (λ (b : Bool). cond b (Some c.in-Some-exact.area.now) None) (sym gone)
    ∙ told c.args.areas.now.areas c.args.request c.in-Some.span (Some c.in-Some-exact.area.now)
    c.facts.ensures.kept.apart
    c.in-Some.ensures.value c.in-Some-exact.ensures
