use Rattle.std.proofs.Common.{◌≡◌, ℕ, ◌<◌, ◌≤◌, eqb, false, ap, arith}
use Rattle.std.proofs.lemmas.Bool.Decides.{nat_tests}
use Rattle.iofd_words.specs.Bounds.{Bounds}
use Rattle.iofd_refusals.specs.Checks.{unusable_in}
use Rattle.iofd_words.specs.Span.{span_from}
use Rattle.event_map.proofs.Chosen.{open_or_gap, taken_in_the_way, unusable_one}
use Rattle.server_state.specs.Seen.{seen}
use Rattle.event_map.proofs.choice.closed_meeting.Goals as goal

positive : (n : ℕ) → eqb n 0 ≡ false → 0 < n
positive n is = grind (arith, nat_tests)

ordered : (span : Bounds) (length : ℕ) → 0 < length → span ≡ span_from span.first length → span.first ≤ span.last
ordered span length some from = let last = ap (λ (s : Bounds). s.last) from in omega (arith, last, some)

pub returns-in-Some : goal.returns-in-Some
returns-in-Some g c =
    let v = seen c.args.state.now in
    taken_in_the_way v c.args.file c.args.request c.args.span c.in-Some.one
    (positive c.args.request.length c.requires.some) c.requires.from
    (unusable_one (unusable_in v c.args.file c.args.request.ioas) (v.areas_of c.args.file c.args.request.ioas)
    c.args.span c.in-Some.one (rw c.in-Some.is at c.unusable_meeting.ensures))

pub returns-in-None : goal.returns-in-None
returns-in-None g c =
    let some = positive c.args.request.length c.requires.some in
    open_or_gap (seen c.args.state.now) c.args.file c.args.request c.args.span c.gap_meeting.result some
    c.requires.from (ordered c.args.span c.args.request.length some c.requires.from)
    (rw c.in-None.is at c.unusable_meeting.ensures)
    c.gap_meeting.ensures
