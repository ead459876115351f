-- The areas of address spaces: live, or leaving until the devices that may have cached them have flushed. UNMAPs that
-- find them so are counted, up to a hundred, and are told then that asking again leads nowhere: this project's rule.
use Rattle.std.specs.Prelude.{ℕ, ◌+◌, Bool, ◌==◌, ◌&&◌, ◌||◌, not, nat_le, nat_lt, max, Option, List, length}
use Rattle.std.specs.Prelude.{map, filter, fold}
use Rattle.std.specs.Prelude.{find, sum_by, if◌then◌else◌}
use Rattle.std.specs.List.{list_any}
use Rattle.iofd_words.specs.Bounds.{Bounds}
use Rattle.iofd_words.specs.Sorted.{inserted}
use Rattle.iofd_words.specs.Span.{holds, meets, lies_in, size_of, span_from}
use Rattle.iofd_words.specs.DeviceSet.{without_device}
use Rattle.iofd_words.specs.declared.numbers.FileNo.{FileNo}
use Rattle.iofd_words.specs.declared.numbers.ObjId.{ObjId}
use Rattle.iofd_words.specs.declared.numbers.DeviceNo.{DeviceNo}
use Rattle.iofd_words.specs.declared.event.UnmapRequest.{UnmapRequest}
use Rattle.iofd_words.specs.declared.refusal.Errno.{Errno}
use Rattle.iofd_words.specs.declared.refusal.Errno.TheVariants.{EAGAIN, EDEADLOCK}
use Rattle.iofd_words.specs.declared.rows.Area.{Area}
use Rattle.iofd_words.specs.declared.rows.Phase.{Phase}
use Rattle.iofd_words.specs.declared.rows.Phase.TheVariants.{Live, Leaving}

-- ---- one area

-- an area of this address space
abbrev pub is_of : FileNo → ObjId → Area → Bool
is_of file ioas area = area.file.0 == file.0 && area.ioas.0 == ioas.0

-- the devices that still have to flush, where those attached now are given
abbrev pub owed_by : List ℕ → Phase → List ℕ
owed_by attached Live = attached
owed_by attached (Leaving owed tries) = owed

-- live no longer: those attached now have to flush
abbrev pub leaving : List ℕ → Phase → Phase
leaving attached Live = Leaving attached 0
leaving attached (Leaving owed tries) = Leaving owed tries

-- what a leaving area counts of UNMAPs that waited for it (`tried`); at most a hundred
abbrev pub tries_of : Phase → ℕ
tries_of Live = 0
tries_of (Leaving owed tries) = tries

abbrev pub counted_tries : ℕ
counted_tries = 100

-- so many of them from now on
abbrev pub with_tries : ℕ → Phase → Phase
with_tries tries Live = Live
with_tries tries (Leaving owed before) = Leaving owed tries

-- one more, where so many are the most among the areas that an UNMAP names; as many as before where all are counted
abbrev pub tried : ℕ → Phase → Phase
tried most phase = if nat_lt most counted_tries then with_tries (most + 1) phase else phase

-- the device has flushed
abbrev pub paid : DeviceNo → Phase → Phase
paid device Live = Live
paid device (Leaving owed tries) = Leaving (without_device device.0 owed) tries

abbrev pub with_phase : Phase → Area → Area
with_phase phase area = record area { phase = phase }

-- ---- the areas of one address space

-- an address space has at most 65,535 areas
abbrev pub most_areas : ℕ
most_areas = 65535

-- so there is no room for one more
abbrev pub has_no_room : List Area → Bool
has_no_room areas = nat_le most_areas (length areas)

-- some area, of any phase, meets the span
abbrev pub areas_meet : Bounds → List Area → Bool
areas_meet span areas = list_any (λ area. meets area.span span) areas

-- some area meets the span and isn't wholly in it
abbrev pub is_cut : Bounds → List Area → Bool
is_cut span areas = list_any (λ area. meets area.span span && not (lies_in area.span span)) areas

-- the area that holds the address
abbrev pub area_at : ℕ → List Area → Option Area
area_at iova areas = find (λ area. holds area.span iova) areas

-- ---- all areas

abbrev pub areas_of : List Area → FileNo → ObjId → List Area
areas_of areas file ioas = filter (is_of file ioas) areas

-- some area of the address space meets the span
abbrev pub meets_area : List Area → FileNo → ObjId → Bounds → Bool
meets_area areas file ioas span = areas_meet span (areas_of areas file ioas)

-- the second is of the first's address space, and begins after it
abbrev pub lies_before : Area → Area → Bool
lies_before area a = is_of area.file area.ioas a && nat_lt area.span.first a.span.first

-- one more area, before the first of its address space that begins after it
abbrev pub with_area : Area → List Area → List Area
with_area = inserted lies_before

-- the device owes no area a flush any more
abbrev pub all_paid : DeviceNo → List Area → List Area
all_paid device areas = map (λ area. with_phase (paid device area.phase) area) areas

-- ---- what an UNMAP names

-- iova 0 with a length of 2^64 - 1 is every address, the last one too
abbrev pub is_everything : UnmapRequest → Bool
is_everything request = request.iova.0 == 0 && request.length == 0xffff_ffff_ffff_ffff

abbrev pub unmapped_span : UnmapRequest → Bounds
unmapped_span request =
    if is_everything request then record { first = 0; last = 0xffff_ffff_ffff_ffff }
    else span_from request.iova.0 request.length

-- the areas of its address space that meet its span
abbrev pub is_touched : FileNo → UnmapRequest → Area → Bool
is_touched file request area = is_of file request.ioas area && meets area.span (unmapped_span request)

abbrev pub touched : List Area → FileNo → UnmapRequest → List Area
touched areas file request = filter (is_touched file request) areas

-- the area may not go yet: some device still has to flush, or it is pinned, by a test of areas
abbrev pub is_held_back : List ℕ → (Area → Bool) → Area → Bool
is_held_back attached is_pinned area = not (length (owed_by attached area.phase) == 0) || is_pinned area

-- one of the touched areas is
abbrev pub is_waiting : List Area → List ℕ → (Area → Bool) → FileNo → UnmapRequest → Bool
is_waiting areas attached is_pinned file request =
    list_any (is_held_back attached is_pinned) (touched areas file request)

-- the most tries that one of these areas counts
abbrev pub most_tries : List Area → ℕ
most_tries areas = fold (λ most area. max most (tries_of area.phase)) 0 areas

abbrev pub touched_tries : List Area → FileNo → UnmapRequest → ℕ
touched_tries areas file request = most_tries (touched areas file request)

-- what an UNMAP that waits answers: call again, or, after a hundred tries, that this leads nowhere
abbrev pub pending_errno : ℕ → Errno
pending_errno most = if nat_lt most counted_tries then EAGAIN else EDEADLOCK

-- how many bytes go
abbrev pub touched_bytes : List Area → FileNo → UnmapRequest → ℕ
touched_bytes areas file request = sum_by (λ area. size_of area.span) (touched areas file request)

-- all touched areas are leaving, and count this try where one is counted
abbrev pub with_leaving : List Area → List ℕ → FileNo → UnmapRequest → List Area
with_leaving areas attached file request =
    map (λ area. with_phase (if is_touched file request area
    then tried (touched_tries areas file request) (leaving attached area.phase)
    else area.phase) area) areas
