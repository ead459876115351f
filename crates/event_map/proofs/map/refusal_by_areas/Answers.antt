use Rattle.std.proofs.Common.{sym, ◌∙◌}
use Rattle.event_map.proofs.AreaRows.{absent_row, account_row, frames_row, no_row, row_before}
use Rattle.event_map.specs.Place.{place_checks}
use Rattle.server_state.specs.Seen.{seen}
use Rattle.event_map.proofs.map.refusal_by_areas.Goals as goal

pub returns-in-Some : goal.returns-in-Some
returns-in-Some g c =
    row_before (place_checks (seen c.args.state.now) c.args.file c.args.request) _ _ _
    c.in-Some.cause (sym c.in-Some.is ∙ c.refusal.ensures)

pub returns-then-lacks_page : goal.returns-then-lacks_page
returns-then-lacks_page g c =
    absent_row (place_checks (seen c.args.state.now) c.args.file c.args.request) _ _ _
    (sym c.in_default.is ∙ c.refusal.ensures)
    (sym c.lacks_page.ensures ∙ c.if-lacks_page.true)

pub returns-then-passes_limit : goal.returns-then-passes_limit
returns-then-passes_limit g c =
    account_row (place_checks (seen c.args.state.now) c.args.file c.args.request) _ _ _
    (sym c.in_default.is ∙ c.refusal.ensures)
    (sym c.lacks_page.ensures ∙ c.if-lacks_page.false)
    (sym c.passes_limit.ensures ∙ c.if-passes_limit.true)

pub returns-then-lacks_frames : goal.returns-then-lacks_frames
returns-then-lacks_frames g c =
    frames_row (place_checks (seen c.args.state.now) c.args.file c.args.request) _ _ _
    (sym c.in_default.is ∙ c.refusal.ensures)
    (sym c.lacks_page.ensures ∙ c.if-lacks_page.false)
    (sym c.passes_limit.ensures ∙ c.if-passes_limit.false)
    (sym c.lacks_frames.ensures ∙ c.if-lacks_frames.true)

pub returns : goal.returns
returns g c =
    no_row (place_checks (seen c.args.state.now) c.args.file c.args.request) _ _ _
    (sym c.in_default.is ∙ c.refusal.ensures)
    (sym c.lacks_page.ensures ∙ c.if-lacks_page.false)
    (sym c.passes_limit.ensures ∙ c.if-passes_limit.false)
    (sym c.lacks_frames.ensures ∙ c.if-lacks_frames.false)

pub refusal-requires : goal.refusal-requires
refusal-requires g c = c.requires

pub lacks_page-requires : goal.lacks_page-requires
lacks_page-requires g c = c.requires.known

pub passes_limit-requires : goal.passes_limit-requires
passes_limit-requires g c = c.requires.known

pub lacks_frames-requires-clause-seeks : goal.lacks_frames-requires-clause-seeks
lacks_frames-requires-clause-seeks g c = c.requires

pub lacks_frames-requires-clause-passed : goal.lacks_frames-requires-clause-passed
lacks_frames-requires-clause-passed g c = sym c.refusal.ensures ∙ c.in_default.is
