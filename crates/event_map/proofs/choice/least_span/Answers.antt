use Rattle.std.proofs.Common.{◌≡◌, ℕ, ◌+◌, ◌<◌, ◌≤◌, eqb, false, List, ap, sym, subst, ◌∙◌, arith}
use Rattle.std.specs.List.{list_all}
use Rattle.std.proofs.lemmas.Bool.Decides.{nat_tests}
use Rattle.area_map_rows.specs.Areas.{AreKept}
use Rattle.iofd_runs.specs.Fits.{begins_at_page, is_of_pages}
use Rattle.iofd_words.specs.Areas.{areas_meet}
use Rattle.iofd_words.specs.Bounds.{Bounds}
use Rattle.iofd_words.specs.Fits.{whole_from}
use Rattle.iofd_words.specs.declared.event.MapRequest.{MapRequest}
use Rattle.iofd_words.specs.declared.numbers.FileNo.{FileNo}
use Rattle.iofd_words.specs.declared.rows.Area.{Area}
use Rattle.event_map.proofs.Chosen.{IsSearched, begins, fewer_left, found, goes_on, goes_to, is_clear, is_least}
use Rattle.event_map.proofs.Chosen.{is_there, none_above, none_free, rises}
use Rattle.event_map.specs.Place.{IsClear, IsFreeSpan, IsInTheWay}
use Rattle.server_state.proofs.NewTables.{known_pages, known_starts}
use Rattle.server_state.specs.Held.{areas_at}
use Rattle.server_state.specs.Seen.{seen}
use Rattle.server_state.specs.Step.{IsKnown}
use Rattle.server_state.specs.declared.state.State.{State}
use Rattle.event_map.proofs.choice.least_span.Goals as goal

pub loop-span-init : goal.loop-span-init
loop-span-init g c = begins (seen c.args.state.now) c.args.file c.args.request

positive : (n : ℕ) → eqb n 0 ≡ false → 0 < n
positive n is = grind (arith, nat_tests)

-- no address below the least from which no area is met may be chosen, and a page begins there
goes : {A : Type 0} → (s : State A) (file : FileNo) (request : MapRequest) (start : ℕ) (span : Bounds)
    (areas : List Area) → IsKnown s → areas_at s.objects.rows file request.ioas ≡ areas
    → AreKept areas → eqb request.length 0 ≡ false → IsSearched (seen s) file request start
    → IsFreeSpan start request.length areas span → IsSearched (seen s) file request span.first
goes s file request start span areas known here kept some searched free =
    goes_to (seen s) file request start span.first areas here (positive request.length some) kept.apart
    (ap (list_all begins_at_page) (sym here) ∙ known_starts s file request.ioas known)
    (ap (list_all is_of_pages) (sym here) ∙ known_pages s file request.ioas known) searched free.first

pub closed_meeting-requires-clause-from : goal.closed_meeting-requires-clause-from
closed_meeting-requires-clause-from g c = c.in-Some.ensures.span.is

pub returns-in_default-closed_meeting : goal.returns-in_default-closed_meeting
returns-in_default-closed_meeting g c =
    let v = seen c.args.state.now in
    let file = c.args.file in
    let request = c.args.request in
    let free = c.in-Some.ensures.span in
    let first = c.in-Some.span.first in
    let searched = goes c.args.state.now file request c.loop-span.start c.in-Some.span c.args.areas.now.areas
    c.requires.known c.requires.here c.free_span.ensures.kept c.requires.some c.loop-span.invariant free in
    let met = ap (λ (s : Bounds). areas_meet s c.args.areas.now.areas) free.is ∙ free.first.free in
    let clear =
    is_clear v file request c.args.areas.now.areas c.in-Some.span c.requires.here c.in_default-closed_meeting.ensures
    met in
    let may = found v file request first (positive request.length c.requires.some) free.first.within searched
    (subst (IsClear v file request) free.is clear) in
    record {
      is = free.is;
      may = may;
      least = is_least v file request first searched;
      there = is_there v file request first may;
    }

pub returns-in_default-page_after : goal.returns-in_default-page_after
returns-in_default-page_after g c =
    let v = seen c.args.state.now in
    let one = c.in-Some-closed_meeting.one in
    let some = positive c.args.request.length c.requires.some in
    let searched = goes c.args.state.now c.args.file c.args.request c.loop-span.start c.in-Some.span
    c.args.areas.now.areas c.requires.known c.requires.here c.free_span.ensures.kept c.requires.some
    c.loop-span.invariant c.in-Some.ensures.span in
    let next = goes_on v c.args.file c.args.request c.in-Some.span.first one searched
    (subst (λ (s : Bounds). IsInTheWay v c.args.file c.args.request s one) c.in-Some.ensures.span.is
    c.in-Some-closed_meeting.ensures) in
    let high : 18446744073709551616 ≤ whole_from (one.last + 1) =
    rw c.last.ensures.value at c.in_default-page_after.ensures in
    none_above v c.args.file c.args.request (whole_from (one.last + 1)) next (omega (arith, high, some))

pub loop-span-smaller : goal.loop-span-smaller
loop-span-smaller g c =
    let v = seen c.args.state.now in
    let one = c.in-Some-closed_meeting.one in
    let above = rises v c.args.file c.args.request c.in-Some.span.first one
    (subst (λ (s : Bounds). IsInTheWay v c.args.file c.args.request s one) c.in-Some.ensures.span.is
    c.in-Some-closed_meeting.ensures) in
    let next : c.in-Some-page_after.next ≡ whole_from (one.last + 1) =
    rw c.last.ensures.value at c.in-Some-page_after.ensures in
    let from = c.in-Some.ensures.span.first.from in
    let within = c.in-Some.ensures.span.first.within in
    let some = positive c.args.request.length c.requires.some in
    fewer_left c.loop-span.start c.in-Some-page_after.next 18446744073709551616
    (rw next (omega (arith, from, above))) (omega (arith, from, within, some))

pub loop-span-preserved : goal.loop-span-preserved
loop-span-preserved g c =
    let v = seen c.args.state.now in
    let one = c.in-Some-closed_meeting.one in
    let searched = goes c.args.state.now c.args.file c.args.request c.loop-span.start c.in-Some.span
    c.args.areas.now.areas c.requires.known c.requires.here c.free_span.ensures.kept c.requires.some
    c.loop-span.invariant c.in-Some.ensures.span in
    let next : c.in-Some-page_after.next ≡ whole_from (one.last + 1) =
    rw c.last.ensures.value at c.in-Some-page_after.ensures in
    subst (λ (n : ℕ). IsSearched v c.args.file c.args.request n) (sym next)
    (goes_on v c.args.file c.args.request c.in-Some.span.first one searched
    (subst (λ (s : Bounds). IsInTheWay v c.args.file c.args.request s one) c.in-Some.ensures.span.is
    c.in-Some-closed_meeting.ensures))

pub returns : goal.returns
returns g c =
    none_free (seen c.args.state.now) c.args.file c.args.request c.loop-span.start c.args.areas.now.areas
    c.requires.here c.loop-span.invariant c.in_default.ensures.span
