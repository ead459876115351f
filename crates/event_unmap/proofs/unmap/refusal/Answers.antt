use Rattle.std.proofs.Common.{refl, sym, ◌∙◌}
use Rattle.event_unmap.proofs.UnmapRows.{closed_row, empty_row, no_length, rows_behind, some_length, space_row}
use Rattle.event_unmap.proofs.UnmapRows.{sum_row}
use Rattle.server_state.specs.Seen.{seen}
use Rattle.event_unmap.proofs.unmap.refusal.Goals as goal

pub returns-then-not-is_open : goal.returns-then-not-is_open
returns-then-not-is_open g c =
    closed_row (seen c.args.state.now) c.args.file c.args.request (sym c.is_open.ensures ∙ c.if-not-is_open.true)

pub returns-then-is_above_sum : goal.returns-then-is_above_sum
returns-then-is_above_sum g c =
    sum_row (seen c.args.state.now) c.args.file c.args.request
    (sym c.is_open.ensures ∙ c.if-not-is_open.false)
    (sym c.is_above_sum.ensures ∙ c.if-is_above_sum.true)

pub returns-in_default : goal.returns-in_default
returns-in_default g c =
    let within = sym c.is_above_sum.ensures ∙ c.if-is_above_sum.false in
    empty_row (seen c.args.state.now) c.args.file c.args.request
    (sym c.is_open.ensures ∙ c.if-not-is_open.false) within
    (no_length c.args.request.length (λ more. (rw c.in_default.is at c.unmapped_span.ensures.some) more within))

pub returns-in_default-areas_of : goal.returns-in_default-areas_of
returns-in_default-areas_of g c =
    space_row (seen c.args.state.now) c.args.file c.args.request
    (sym c.is_open.ensures ∙ c.if-not-is_open.false)
    (sym c.is_above_sum.ensures ∙ c.if-is_above_sum.false)
    (some_length c.args.request.length ((rw c.in-Some.is at c.unmapped_span.ensures.none) refl))
    c.in_default-areas_of.ensures

pub returns : goal.returns
returns g c =
    c.refusal_by_areas.ensures
    ∙ sym (rows_behind (seen c.args.state.now) c.args.file c.args.request
    (sym c.is_open.ensures ∙ c.if-not-is_open.false)
    (sym c.is_above_sum.ensures ∙ c.if-is_above_sum.false)
    (some_length c.args.request.length ((rw c.in-Some.is at c.unmapped_span.ensures.none) refl))
    c.in-Some-areas_of.ensures.0
    c.in-Some.span c.in-Some-areas_of.areas.now.areas
    (rw c.in-Some.is at c.unmapped_span.ensures.value) c.in-Some-areas_of.ensures.1)
