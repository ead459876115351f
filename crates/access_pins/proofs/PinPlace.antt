-- A pin that is asked for: where its length and its address are of whole pages its span is, and the address space to
-- which the access object is attached is there.
use Rattle.std.proofs.Common.{◌≡◌, ℕ, ◌+◌, ◌-◌, ◌%◌, ◌<◌, true, ◌&&◌, Some}
use Rattle.std.proofs.Common.{List, refl, ap, sym, ◌∙◌, arith}
use Rattle.std.proofs.Math.Nat.{div-add-mod, mod-lt}
use Rattle.std.proofs.lemmas.Bool.Decides.{nat_tests}
use Rattle.access_pins.proofs.Spanned.{whole_is}
use Rattle.iofd_rows.proofs.Bools.{and_true, both_true}
use Rattle.iofd_rows.proofs.InSpaces.{attached_kind}
use Rattle.iofd_words.specs.Objects.{access_ioas_of, has_ioas}
use Rattle.iofd_words.specs.Pages.{is_whole}
use Rattle.iofd_words.specs.Span.{is_whole_pages, span_from}
use Rattle.iofd_words.specs.declared.numbers.FileNo.{FileNo}
use Rattle.iofd_words.specs.declared.numbers.ObjId.{ObjId}
use Rattle.iofd_words.specs.declared.rows.Object.{Object}
use Rattle.server_state.proofs.AccessesShown.{attached_space}
use Rattle.server_state.specs.Held.{objects_in}
use Rattle.server_state.specs.Step.{IsKnown}
use Rattle.server_state.specs.declared.state.State.{State}

-- a span of whole pages
pub whole_span : (first length : ℕ) → 0 < length → (is_whole length && is_whole first) ≡ true
    → is_whole_pages (span_from first length) ≡ true
whole_span first length some pages =
    let parts = and_true (is_whole length) (is_whole first) pages in
    let long = whole_is length parts.0 in
    let start = whole_is first parts.1 in
    let cut = div-add-mod (first + length - 1) 4096 in
    let less = mod-lt (first + length - 1) {m = 4096} (omega arith) in
    let end : (first + length - 1) % 4096 ≡ 4095 = omega (arith, long, start, some, cut, less) in
    both_true (is_whole first) _ parts.1 (search (end, arith, nat_tests))

-- its address space is there
pub space_there : {A : Type 0} (s : State A) → IsKnown s → (file : FileNo) (id ioas : ObjId)
    → access_ioas_of (objects_in s.objects) file id ≡ Some ioas → has_ioas (objects_in s.objects) file ioas ≡ true
space_there s known file id ioas attached =
    let w = known.world in
    let rows = known.shows.objects.rows in
    let here : access_ioas_of w.objects file id ≡ Some ioas =
    ap (λ (l : List Object). access_ioas_of l file id) rows ∙ attached in
    ap (λ (l : List Object). has_ioas l file ioas) (sym rows)
    ∙ (attached_space known.at w s file id (Some ioas) s.objects known.tidy known.shows
    (attached_kind w.objects file id ioas here) ioas refl).0
