-- Where a MAP puts its area.
use Rattle.std.specs.Prelude.{◌≡◌, ℕ, ◌≤◌, ◌==◌, ◌&&◌, ◌||◌, not, Bool, true, false, List, [], ◌∷◌}
use Rattle.area_map_rows.specs.Areas.{IsFirstFree}
use Rattle.iofd_words.specs.Areas.{has_no_room}
use Rattle.iofd_words.specs.Bounds.{Bounds}
use Rattle.iofd_refusals.specs.Checks.{choices, has_choice, is_outside_usable, lacks_choice, may_choose, overlaps}
use Rattle.iofd_refusals.specs.Checks.{taken_spans, unusable_in}
use Rattle.iofd_words.specs.Objects.{has_ioas}
use Rattle.iofd_words.specs.Pages.{is_above_sum, is_whole}
use Rattle.iofd_words.specs.Ranges.{meets_some}
use Rattle.iofd_words.specs.Rights.{is_fixed}
use Rattle.iofd_words.specs.Room.{is_covered_by}
use Rattle.iofd_words.specs.Span.{span_from}
use Rattle.iofd_words.specs.View.{View}
use Rattle.iofd_words.specs.declared.event.MapRequest.{MapRequest}
use Rattle.iofd_words.specs.declared.numbers.FileNo.{FileNo}
use Rattle.iofd_words.specs.declared.refusal.Cause.{Cause}
use Rattle.iofd_words.specs.declared.refusal.Cause.TheVariants as cause
use Rattle.iofd_words.specs.declared.rows.Area.{Area}
use Rattle.server_state.specs.Held.{areas_at, objects_in}
use Rattle.server_state.specs.Step.{IsKnown}
use Rattle.server_state.specs.declared.state.State.{State}

-- the rows of a MAP, and of a COPY, that ask whether there is a place
abbrev pub place_checks : View → FileNo → MapRequest → List (Cause × Bool)
place_checks v file request =
    (cause.Reserved, is_outside_usable v file request)
    ∷ (cause.Overlap, overlaps v file request)
    ∷ (cause.Full, has_no_room (v.areas_of file request.ioas) || lacks_choice v file request)
    ∷ []

module _ {A : Type 0} where
  -- what the rows before these have settled: some whole pages seek a place among the areas of their address space.
  -- Where the address is fixed it is the first of a page, and with the length not above 2^64
  pub record SeeksPlace (s : State A) (file : FileNo) (request : MapRequest) (areas : List Area) : Type 0 where
    pub known : IsKnown s
    pub some : (request.length == 0) ≡ false
    pub sum : (is_fixed request.flags && is_above_sum request.iova.0 request.length) ≡ false
    pub whole : is_whole request.length ≡ true
    pub starts : (is_fixed request.flags && not (is_whole request.iova.0)) ≡ false
    pub space : has_ioas (objects_in s.objects) file request.ioas ≡ true
    pub here : areas_at s.objects.rows file request.ioas ≡ areas

-- nothing stands in the way of the span: it lies in the allowed ranges, can be used, and meets no area
pub record IsClear (v : View) (file : FileNo) (request : MapRequest) (span : Bounds) : Type 0 where
  pub inside : is_covered_by (choices v file request) span ≡ true
  pub free : meets_some (taken_spans v file request) span ≡ false

-- but for areas nothing stands in its way
pub record IsOpen (v : View) (file : FileNo) (request : MapRequest) (span : Bounds) : Type 0 where
  pub inside : is_covered_by (choices v file request) span ≡ true
  pub usable : meets_some (unusable_in v file request.ioas) span ≡ false

-- so many addresses from the least one on, from the start on, from which they meet no area
pub record IsFreeSpan (start length : ℕ) (areas : List Area) (span : Bounds) : Type 0 where
  pub is : span ≡ span_from span.first length
  pub first : IsFirstFree start length areas span.first

-- something stands in its way: from no address of the span up to this one's last may a span be chosen
pub record IsInTheWay (v : View) (file : FileNo) (request : MapRequest) (span one : Bounds) : Type 0 where
  pub reaches : span.first ≤ one.last
  pub none : (x : ℕ) → span.first ≤ x → x ≤ one.last → may_choose v file request x ≡ false

-- the span from the least address that may be chosen
pub record IsLeastSpan (v : View) (file : FileNo) (request : MapRequest) (span : Bounds) : Type 0 where
  pub is : span ≡ span_from span.first request.length
  pub may : may_choose v file request span.first ≡ true
  pub least : (x : ℕ) → may_choose v file request x ≡ true → span.first ≤ x
  pub there : has_choice v file request ≡ true

-- the span that is mapped: from the fixed address, or from the least that may be chosen
abbrev pub IsPlaceBy : View → FileNo → MapRequest → Bool → Bounds → Type 0
IsPlaceBy v file request true span = span ≡ span_from request.iova.0 request.length
IsPlaceBy v file request false span = IsLeastSpan v file request span

abbrev pub IsPlace : View → FileNo → MapRequest → Bounds → Type 0
IsPlace v file request span = IsPlaceBy v file request (is_fixed request.flags) span

-- there is no such span
abbrev pub HasNoPlaceBy : View → FileNo → MapRequest → Bool → Type 0
HasNoPlaceBy v file request true = is_above_sum request.iova.0 request.length ≡ true
HasNoPlaceBy v file request false =
    has_ioas v.objects file request.ioas ≡ true → (x : ℕ) → may_choose v file request x ≡ false

abbrev pub HasNoPlace : View → FileNo → MapRequest → Type 0
HasNoPlace v file request = HasNoPlaceBy v file request (is_fixed request.flags)
