use Rattle.std.proofs.Common.{◌≡◌, ℕ, ◌+◌, ◌-◌, ◌<◌, ◌≤◌, ◌%◌, false, not, Option, Some, None, is_some}
use Rattle.std.proofs.Common.{MatchOption, ap, refl, sym, subst, ◌∙◌, arith}
use Rattle.std.proofs.lemmas.Bool.Decides.{nat_tests}
use Rattle.iofd_words.specs.Bounds.{Bounds}
use Rattle.iofd_words.specs.Span.{span_from}
use Rattle.iofd_words.specs.View.{View}
use Rattle.iofd_words.specs.declared.event.MapRequest.{MapRequest}
use Rattle.iofd_words.specs.declared.numbers.FileNo.{FileNo}
use Rattle.event_map.proofs.Chosen.{is_clear, is_there, may_at}
use Rattle.event_map.specs.Place.{IsClear, IsInTheWay, IsOpen}
use Rattle.server_state.specs.Seen.{seen}
use Rattle.event_map.proofs.choice.may_end_last.Goals as goal

-- nothing is in the way of the span
open_of : (v : View) (file : FileNo) (request : MapRequest) (span : Bounds) (o : Option Bounds)
    → MatchOption o (IsOpen v file request span) (IsInTheWay v file request span) → is_some o ≡ false
    → IsOpen v file request span
open_of v file request span None is none = is
open_of v file request span (Some one) is none = cc

-- a span from an address begins there
begins : (span : Bounds) (first length : ℕ) → span ≡ span_from first length → span ≡ span_from span.first length
begins span first length from =
    from ∙ ap (λ (n : ℕ). span_from n length) (sym (ap (λ (s : Bounds). s.first) from))

-- behind it no address is left, so it begins with a page
of_page : (first length : ℕ) → 0 < length → first ≡ 18446744073709551615 - (length - 1)
    → first + length ≤ 18446744073709551616 → length % 4096 ≡ 0 → first % 4096 ≡ 0
of_page first length some is high whole = omega (arith, some, is, high, whole)

pub returns : goal.returns
returns g c told =
    let v = seen c.args.state.now in
    let file = c.args.file in
    let request = c.args.request in
    let span = c.in-Some.span in
    let is = c.requires.some in
    let some : 0 < request.length = search (is, arith, nat_tests) in
    let pages = c.requires.whole in
    let whole : request.length % 4096 ≡ 0 = search (pages, arith, nat_tests) in
    let first : span.first ≡ 18446744073709551615 - (request.length - 1) =
    ap (λ (s : Bounds). s.first) c.in-Some.ensures.value in
    let high : span.first + request.length ≤ 18446744073709551616 = rw first (c.in-Some.ensures.fits.0 refl).1 in
    let from = begins span (18446744073709551615 - (request.length - 1)) request.length c.in-Some.ensures.value in
    let is_open = open_of v file request span c.closed_meeting.result c.closed_meeting.ensures
    (c.is_none.ensures ∙ ap not told) in
    let clear = is_clear v file request c.args.areas.now.areas span c.requires.here is_open
    (sym c.meets.ensures ∙ c.if-meets.false) in
    is_there v file request span.first
    (may_at v file request span.first some high (of_page span.first request.length some first high whole)
    (subst (IsClear v file request) from clear))
