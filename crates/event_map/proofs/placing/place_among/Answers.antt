use Rattle.std.proofs.Common.{sym, ◌∙◌}
use Rattle.event_map.proofs.StartTold.{chosen_place, fixed_place}
use Rattle.server_state.specs.Seen.{seen}
use Rattle.event_map.proofs.placing.place_among.Goals as goal

pub returns-then-is_fixed : goal.returns-then-is_fixed
returns-then-is_fixed g c =
    fixed_place (seen c.args.state.now) c.args.file c.args.request c.fixed_span.result
    (sym c.is_fixed.ensures ∙ c.if-is_fixed.true) c.fixed_span.ensures

pub returns : goal.returns
returns g c =
    chosen_place (seen c.args.state.now) c.args.file c.args.request c.least_span.result
    (sym c.is_fixed.ensures ∙ c.if-is_fixed.false) c.least_span.ensures
