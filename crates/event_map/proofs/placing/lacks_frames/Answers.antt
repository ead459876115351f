use Rattle.std.proofs.Common.{◌≡◌, ℕ, false, ltb, Some, None, sym, ◌∙◌, ap}
use Rattle.iofd_runs.proofs.Runs.{tests_false}
use Rattle.iofd_refusals.specs.Checks.{mapped_start, tables_to_map}
use Rattle.iofd_words.specs.Objects.{has_hwpt}
use Rattle.event_map.proofs.StartTold.{lacks_none, lacks_nowhere, lacks_there, place_usable, place_whole, start_told}
use Rattle.event_map.specs.Place.{IsPlace, place_checks}
use Rattle.server_state.specs.Held.{objects_in}
use Rattle.server_state.specs.Seen.{seen}
use Rattle.event_map.proofs.placing.lacks_frames.Goals as goal

pub tables_to_map-requires-clause-pages : goal.tables_to_map-requires-clause-pages
tables_to_map-requires-clause-pages g c =
    place_whole (seen c.args.state.now) c.args.file c.args.request c.in-Some.span
    (rw c.in-Some.is at c.place_among.ensures) c.requires.seeks.some c.requires.seeks.whole c.requires.seeks.starts

pub tables_to_map-requires-clause-usable : goal.tables_to_map-requires-clause-usable
tables_to_map-requires-clause-usable g c =
    place_usable (seen c.args.state.now) c.args.file c.args.request c.in-Some.span
    (rw c.in-Some.is at c.place_among.ensures)
    (tests_false (place_checks (seen c.args.state.now) c.args.file c.args.request) 0 c.requires.passed)

pub returns-in-Some : goal.returns-in-Some
returns-in-Some g c =
    let v = seen c.args.state.now in
    let place : IsPlace v c.args.file c.args.request c.in-Some.span = rw c.in-Some.is at c.place_among.ensures in
    let start : mapped_start v c.args.file c.args.request ≡ Some c.in-Some.span.first =
    start_told v c.args.file c.args.request (Some c.in-Some.span) c.requires.seeks.sum c.requires.seeks.space place in
    ap (ltb c.from.result) c.tables_to_map.ensures
    ∙ ap (λ (n : ℕ). ltb n (tables_to_map v c.args.file c.args.request.ioas c.in-Some.span)) (c.from.ensures
    ∙ c.free_count.ensures)
    ∙ sym (lacks_there v c.args.file c.args.request c.in-Some.span place start)

pub returns-in-None : goal.returns-in-None
returns-in-None g c =
    let v = seen c.args.state.now in
    sym (lacks_nowhere v c.args.file c.args.request
    (start_told v c.args.file c.args.request None c.requires.seeks.sum c.requires.seeks.space
    (rw c.in-None.is at c.place_among.ensures)))

pub returns-then-not-has_hwpt : goal.returns-then-not-has_hwpt
returns-then-not-has_hwpt g c =
    let is = c.if-not-has_hwpt.true in
    let none : has_hwpt (objects_in c.args.state.now.objects) c.args.file c.args.request.ioas ≡ false =
    sym c.has_hwpt.ensures ∙ is in
    sym (lacks_none (seen c.args.state.now) c.args.file c.args.request none)
