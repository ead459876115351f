use Rattle.std.proofs.Common.{sym, ◌∙◌}
use Rattle.event_map.proofs.Chosen.{choice_told}
use Rattle.server_state.specs.Seen.{seen}
use Rattle.event_map.proofs.placing.has_choice.Goals as goal

pub returns-then-may_end_last : goal.returns-then-may_end_last
returns-then-may_end_last g c = c.if-may_end_last.true ∙ sym (c.may_end_last.ensures c.if-may_end_last.true)

pub returns-else-may_end_last : goal.returns-else-may_end_last
returns-else-may_end_last g c =
    c.is_some.ensures
    ∙ choice_told (seen c.args.state.now) c.args.file c.args.request c.least_span.result c.least_span.ensures
