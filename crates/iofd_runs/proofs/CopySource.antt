-- The area whose memory a COPY maps again: it stands, is live and of the source's address space, and its span is
-- exactly the source's. So the new area's memory object is there and has the new area's size.
use Rattle.std.proofs.Common.{◌≡◌, ◌<◌, ℕ, ◌+◌, ◌-◌, true, false, ◌&&◌, eqb, is_none, Option, Some, None, refl}
use Rattle.std.proofs.Common.{arith}
use Rattle.std.proofs.lemmas.Bool.{eqb-true}
use Rattle.std.proofs.lemmas.Bool.Decides.{nat_tests}
use Rattle.iofd_words.specs.Areas.{areas_of, is_of}
use Rattle.iofd_refusals.specs.Checks.{copy_checks}
use Rattle.iofd_words.specs.Copies.{is_live_at, source_in}
use Rattle.iofd_words.specs.FirstTrue.{first_true}
use Rattle.iofd_words.specs.Span.{size_of, span_from}
use Rattle.iofd_words.specs.TablePlaces.{is_live}
use Rattle.iofd_words.specs.View.{view}
use Rattle.iofd_words.specs.World.{World}
use Rattle.iofd_words.specs.declared.event.CopyRequest.{CopyRequest}
use Rattle.iofd_words.specs.declared.numbers.FileNo.{FileNo}
use Rattle.iofd_words.specs.declared.numbers.Iova.{Iova}
use Rattle.iofd_words.specs.declared.rows.Area.{Area}
use Rattle.iofd_rows.proofs.Bools.{and_true}
use Rattle.iofd_rows.proofs.Each.{IsIn, in_filter, in_found}
use Rattle.iofd_rows.proofs.Named.{file_is}
use Rattle.iofd_runs.proofs.NotRefused.{copy_passed}

-- the source of a COPY, as the definitions look for it
abbrev pub source_area : World → FileNo → CopyRequest → Option Area
source_area w file request = source_in (areas_of w.areas file request.src_ioas) request

pub record IsSource (w : World) (file : FileNo) (request : CopyRequest) (source : Area) : Type 0 where
  pub listed : IsIn (areas_of w.areas file request.src_ioas) source
  pub within : IsIn w.areas source
  pub of_space : is_of file request.src_ioas source ≡ true
  pub of_file : source.file ≡ file
  pub live : is_live source.phase ≡ true
  pub first : source.span.first ≡ request.src_iova.0
  pub last : source.span.last ≡ request.src_iova.0 + request.length - 1

pub source_is : (w : World) (file : FileNo) (request : CopyRequest) (source : Area)
    → source_area w file request ≡ Some source → IsSource w file request source
source_is w file request source found =
    let span = span_from request.src_iova.0 request.length in
    let listed = in_found (is_live_at span) (areas_of w.areas file request.src_ioas) source found in
    let stands = in_filter (is_of file request.src_ioas) w.areas source listed.0 in
    let names = and_true (eqb source.file.0 file.0) (eqb source.ioas.0 request.src_ioas.0) stands.1 in
    let ends =
    and_true (is_live source.phase && eqb source.span.first span.first) (eqb source.span.last span.last) listed.1 in
    let lives = and_true (is_live source.phase) (eqb source.span.first span.first) ends.0 in
    record {
      listed = listed.0;
      within = stands.0;
      of_space = stands.1;
      of_file = file_is source.file file names.0;
      live = lives.0;
      first = eqb-true source.span.first span.first lives.1;
      last = eqb-true source.span.last span.last ends.1;
    }

-- a COPY that nothing refuses has one
pub copy_source : (w : World) (file : FileNo) (request : CopyRequest)
    → first_true (copy_checks (view w) file request) ≡ None
    → (source : Area) × (source_area w file request ≡ Some source) × IsSource w file request source
copy_source w file request none =
    by_found (source_area w file request) refl (copy_passed (view w) file request none).found
  where
    by_found : (o : Option Area) → source_area w file request ≡ o → is_none o ≡ false
        → (source : Area) × (source_area w file request ≡ Some source) × IsSource w file request source
    by_found None is some = cc
    by_found (Some source) is some = (source, is, source_is w file request source is)

-- ---- sizes

-- two spans of one length have one size
one_size : (first last new length : ℕ) (at : ℕ) → eqb length 0 ≡ false → first ≡ at → last ≡ at + length - 1
    → last + 1 - first ≡ new + length - 1 + 1 - new
one_size first last new length at some begins ends =
    let above : 0 < length = search (some, arith, nat_tests) in omega (arith, above)

-- the new area has the source's size
pub copied_size : (w : World) (file : FileNo) (request : CopyRequest) (iova : Iova) (source : Area)
    → first_true (copy_checks (view w) file request) ≡ None → IsSource w file request source
    → size_of source.span ≡ size_of (span_from iova.0 request.length)
copied_size w file request iova source none is =
    one_size source.span.first source.span.last iova.0 request.length request.src_iova.0
    (copy_passed (view w) file request none).some is.first is.last
