use Rattle.std.proofs.Common.{◌≡◌, false, sym, ◌∙◌, subst}
use Rattle.iofd_rows.proofs.Bools.{clash}
use Rattle.iofd_words.specs.Rights.{is_fixed}
use Rattle.event_map.proofs.StartTold.{chosen_place, fixed_place}
use Rattle.event_map.specs.Place.{HasNoPlaceBy}
use Rattle.server_state.specs.Seen.{seen}
use Rattle.event_map.proofs.placing.place_of.Goals as goal

pub returns-then-is_fixed : goal.returns-then-is_fixed
returns-then-is_fixed g c =
    fixed_place (seen c.args.state.now) c.args.file c.args.request c.fixed_span.result
    (sym c.is_fixed.ensures ∙ c.if-is_fixed.true) c.fixed_span.ensures

pub least_span-requires-clause-here : goal.least_span-requires-clause-here
least_span-requires-clause-here g c = c.in-Some.ensures.1

pub returns-in-Some : goal.returns-in-Some
returns-in-Some g c =
    chosen_place (seen c.args.state.now) c.args.file c.args.request c.least_span.result
    (sym c.is_fixed.ensures ∙ c.if-is_fixed.false) c.least_span.ensures

pub returns-in-None : goal.returns-in-None
returns-in-None g c =
    let chosen : is_fixed c.args.request.flags ≡ false = sym c.is_fixed.ensures ∙ c.if-is_fixed.false in
    subst (HasNoPlaceBy (seen c.args.state.now) c.args.file c.args.request) (sym chosen)
    (λ there. absurd (clash _ c.in-None.ensures there))
