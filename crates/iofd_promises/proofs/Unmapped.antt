-- What an UNMAP names, waits for and takes away, and what a flush pays.
use Rattle.std.proofs.Common.{◌≡◌, ◌≢◌, ◌≤◌, ℕ, suc, ◌+◌, ◌-◌, Bool, true, false, cond, ◌&&◌, not, eqb, leb, List}
use Rattle.std.proofs.Common.{[], ◌∷◌, length, Contains, refl, ap, sym, ◌∙◌, subst, arith, inl}
use Rattle.std.proofs.Common.{inr, ⊎_elim, ◌⊎◌, ◌<◌, ltb, max, map, Option, Some, None, ◌||◌}
use Rattle.std.specs.List.{sum_by, fold}
use Rattle.std.proofs.lemmas.Bool.{eqb-true}
use Rattle.std.proofs.lemmas.Bool.Decides.{nat_tests}
use Rattle.std.proofs.lemmas.List.Sums.{sum_by-cons}
use Rattle.iofd_words.specs.Areas.{all_paid, areas_of, is_cut, is_everything, is_of, is_touched, leaving}
use Rattle.iofd_words.specs.Areas.{owed_by, paid, touched, touched_bytes, unmapped_span, with_leaving, with_phase}
use Rattle.iofd_words.specs.Areas.{tried, tries_of, touched_tries, pending_errno, with_tries, is_held_back}
use Rattle.iofd_words.specs.Attachments.{devices_of}
use Rattle.iofd_words.specs.DeviceSet.{without_device}
use Rattle.iofd_words.specs.Span.{lies_in, meets, size_of, span_from}
use Rattle.iofd_words.specs.World.{World}
use Rattle.iofd_words.specs.declared.event.UnmapRequest.{UnmapRequest}
use Rattle.iofd_words.specs.declared.numbers.DeviceNo.{DeviceNo}
use Rattle.iofd_words.specs.declared.numbers.FileNo.{FileNo}
use Rattle.iofd_words.specs.declared.numbers.ObjId.{ObjId}
use Rattle.iofd_words.specs.declared.rows.Area.{Area}
use Rattle.iofd_words.specs.declared.rows.Phase.{Phase}
use Rattle.iofd_words.specs.declared.rows.Phase.TheVariants.{Live, Leaving}
use Rattle.iofd_words.specs.declared.rows.AccessPin.{AccessPin}
use Rattle.iofd_words.specs.declared.rows.ObjectKind.{ObjectKind}
use Rattle.iofd_words.specs.declared.rows.ObjectKind.TheVariants as kind
use Rattle.iofd_rows.proofs.Bools.{and_true, clash, not_false, not_true, both_true, or_false}
use Rattle.iofd_rows.proofs.Each.{IsIn, in_filter, of_any}
use Rattle.iofd_rows.proofs.Named.{file_is, id_is, kind_only, object_of_kind, some_passes}
use Rattle.iofd_rows.proofs.Unusable.{each_not}
use Rattle.iofd_rows.specs.Ids.{have_own_ids}
use Rattle.iofd_runs.proofs.StillTabled.{in_kept}
use Rattle.iofd_promises.specs.Unmaps.{AllLeave, AllPaid, LeavesBy, Owes, PaidBy, bytes_named, is_named, last_named}
use Rattle.iofd_promises.specs.Unmaps.{AreMost, tries_after, tries_seen, ADevice, APin, HoldsBack, LiesIn}
use Rattle.iofd_promises.proofs.Rows.{contains, within}
use Rattle.iofd_promises.proofs.Spaces.{device_translates, translates_device}
use Rattle.iofd_laws.proofs.FreeFrames.{some_in}
use Rattle.iofd_words.specs.declared.refusal.Errno.TheVariants.{EAGAIN, EDEADLOCK}
use Rattle.iofd_steps.specs.Answers.{waits}
use Rattle.iofd_words.specs.Pins.{has_pin_in, is_pin_in}
use Rattle.iofd_words.specs.Objects.{is_access_to, kind_of}

-- ---- what it names

span_ends : (b : Bool) (first count : ℕ) → (b ≡ true → first ≡ 0)
    → ((cond b (record { first = 0; last = 0xffff_ffff_ffff_ffff }) (span_from first count)).first ≡ first)
    × ((cond b (record { first = 0; last = 0xffff_ffff_ffff_ffff }) (span_from first count)).last ≡ cond b
    0xffff_ffff_ffff_ffff (first + count - 1))
span_ends true first count start = (sym (start refl), refl)
span_ends false first count start = (refl, refl)

from_zero : (request : UnmapRequest) → is_everything request ≡ true → request.iova.0 ≡ 0
from_zero request is =
    eqb-true request.iova.0 0 (and_true (eqb request.iova.0 0) (eqb request.length 0xffff_ffff_ffff_ffff) is).0

pub first_is : (request : UnmapRequest) → (unmapped_span request).first ≡ request.iova.0
first_is request = (span_ends (is_everything request) request.iova.0 request.length (from_zero request)).0

pub last_is : (request : UnmapRequest) → (unmapped_span request).last ≡ last_named request
last_is request = (span_ends (is_everything request) request.iova.0 request.length (from_zero request)).1

pub touched_named : (file : FileNo) (request : UnmapRequest) (area : Area)
    → is_touched file request area ≡ is_named file request area
touched_named file request area =
    ap (λ (last : ℕ). is_of file request.ioas area
    && (leb area.span.first last && leb (unmapped_span request).first area.span.last)) (last_is request)
    ∙ ap (λ (first : ℕ). is_of file request.ioas area
    && (leb area.span.first (last_named request) && leb first area.span.last)) (first_is request)

-- each that it names lies in it
pub uncut_whole : (w : World) (file : FileNo) (request : UnmapRequest) (area : Area)
    → is_cut (unmapped_span request) (areas_of w.areas file request.ioas) ≡ false → IsIn w.areas area
    → is_named file request area ≡ true
    → (request.iova.0 ≤ area.span.first) × (area.span.last ≤ last_named request)
uncut_whole w file request area uncut there named =
    let touched_it : is_touched file request area ≡ true = touched_named file request area ∙ named in
    let parts = and_true (is_of file request.ioas area) (meets area.span (unmapped_span request)) touched_it in
    let none = each_not (λ (a : Area). meets a.span (unmapped_span request)
    && not (lies_in a.span (unmapped_span request))) (areas_of w.areas file request.ioas) area uncut (in_kept
    (is_of file request.ioas) w.areas area there parts.0) in
    let lies = and_true (leb (unmapped_span request).first area.span.first)
    (leb area.span.last (unmapped_span request).last)
    (inside (meets area.span (unmapped_span request)) (lies_in area.span (unmapped_span request)) parts.1 none) in
    let first = first_is request in
    let last = last_is request in
    (search (lies.0, first, arith, nat_tests), search (lies.1, last, arith, nat_tests))
  where
    inside : (a b : Bool) → a ≡ true → (a && not b) ≡ false → b ≡ true
    inside true true is none = refl
    inside true false is none = cc
    inside false b is none = cc

-- ---- how many bytes

pub bytes_are : (file : FileNo) (request : UnmapRequest) (areas : List Area)
    → touched_bytes areas file request ≡ bytes_named file request areas
bytes_are file request [] = refl
bytes_are file request (area ∷ areas) = by_test (is_touched file request area) (is_named file request area) refl
    (touched_named file request area) (bytes_are file request areas)
  where
    by_test : (a b : Bool) → is_touched file request area ≡ a → a ≡ b
        → touched_bytes areas file request ≡ bytes_named file request areas
        → sum_by (λ (x : Area). size_of x.span) (cond a (area ∷ touched areas file request)
        (touched areas file request)) ≡ cond b (area.span.last + 1 - area.span.first
        + bytes_named file request areas) (bytes_named file request areas)
    by_test true true is same rest = sum_by-cons (λ (x : Area). size_of x.span) area (touched areas file request)
        ∙ ap (λ n. area.span.last + 1 - area.span.first + n) rest
    by_test false false is same rest = rest
    by_test true false is same rest = cc
    by_test false true is same rest = cc

-- ---- who owes

none_owed : (owed : List ℕ) (d : ℕ) → eqb (length owed) 0 ≡ true → IsIn owed d → ⊥
none_owed [] d none there = there
none_owed (x ∷ owed) d none there =
    let never : suc (length owed) ≡ 0 = eqb-true (suc (length owed)) 0 none in absurd (omega (arith, never))

some_owed : (owed : List ℕ) → not (eqb (length owed) 0) ≡ true → (d : ℕ) × IsIn owed d
some_owed [] some = cc
some_owed (d ∷ owed) some = (d, inl refl)

-- the devices that owe an area are those of its address space, or those that it is owed by
pub owing : (w : World) (area : Area) (phase : Phase) (device : DeviceNo) → have_own_ids w.objects ≡ true
    → Owes w area device phase → IsIn (owed_by (devices_of w.objects w.attachments area.file area.ioas) phase) device.0
owing w area Live device own owes = translates_device w area.file area.ioas device own owes
owing w area (Leaving owed tries) device own owes = within owed device.0 owes

pub owes_by : (w : World) (area : Area) (phase : Phase) (device : DeviceNo)
    → IsIn (owed_by (devices_of w.objects w.attachments area.file area.ioas) phase) device.0 → Owes w area device phase
owes_by w area Live device there = device_translates w area.file area.ioas device there
owes_by w area (Leaving owed tries) device there = contains owed device.0 there

-- a touched area is of the request's address space
space_of_touched : (file : FileNo) (request : UnmapRequest) (area : Area) → is_named file request area ≡ true
    → (area.file ≡ file) × (area.ioas ≡ request.ioas)
space_of_touched file request area named =
    let own = (and_true (eqb area.file.0 file.0 && eqb area.ioas.0 request.ioas.0) _ named).0 in
    let names = and_true (eqb area.file.0 file.0) (eqb area.ioas.0 request.ioas.0) own in
    (file_is area.file file names.0, id_is area.ioas request.ioas names.1)

pub nobody_owes : (w : World) (file : FileNo) (request : UnmapRequest) (area : Area) (device : DeviceNo)
    → have_own_ids w.objects ≡ true → waits w file request ≡ false
    → IsIn w.areas area → is_named file request area ≡ true → Owes w area device area.phase → ⊥
nobody_owes w file request area device own done there named owes =
    let attached : List ℕ = devices_of w.objects w.attachments file request.ioas in
    let (of_file, of_space) = space_of_touched file request area named in
    let listed = in_kept (is_touched file request) w.areas area there (touched_named file request area ∙ named) in
    let none = not_not _ (or_false _ _ (each_not (is_held_back attached (has_pin_in w.objects w.access_pins))
    (touched w.areas file request) area done listed)).0 in
    let here = owing w area area.phase device own owes in
    let moved = subst (λ (i : ObjId). IsIn (owed_by (devices_of w.objects w.attachments file i) area.phase) device.0)
    of_space (subst (λ (f : FileNo). IsIn (owed_by (devices_of w.objects w.attachments f area.ioas) area.phase)
    device.0) of_file here) in
    none_owed (owed_by attached area.phase) device.0 none moved
  where
    not_not : (b : Bool) → not b ≡ false → b ≡ true
    not_not true is = refl
    not_not false is = cc

-- ---- access pins

-- the ioas that an attached access object has
attached_to : (k : ObjectKind) (ioas : ObjId) → is_access_to ioas k ≡ true → k ≡ kind.Access (Some ioas)
attached_to kind.Ioas ioas is = cc
attached_to (kind.Hwpt over width automatic) ioas is = cc
attached_to (kind.Device device) ioas is = cc
attached_to (kind.Access None) ioas is = cc
attached_to (kind.Access (Some own)) ioas is = ap (λ (i : ObjId). kind.Access (Some i)) (id_is own ioas is)

-- a pin that meets the area lies in it
lies : (w : World) (pin : AccessPin) (area : Area) → IsIn w.access_pins pin
    → (is_pin_in w.objects pin area && meets area.span pin.span) ≡ true → LiesIn w pin area
lies w pin area among both =
    let parts = and_true (is_pin_in w.objects pin area) (meets area.span pin.span) both in
    let own = and_true (eqb area.file.0 pin.file.0) _ parts.0 in
    let ends = and_true (leb area.span.first pin.span.last) (leb pin.span.first area.span.last) parts.1 in
    let (k, found, to) = some_passes (is_access_to area.ioas) (kind_of w.objects pin.file pin.access) own.1 in
    let (x, first, there, of_file, of_id, of_kind) = object_of_kind w.objects pin.file pin.access k found in
    record {
      there = contains w.access_pins pin among;
      of_file = sym (file_is area.file pin.file own.0);
      access = x;
      holds = contains w.objects x there;
      access_file = of_file;
      access_id = of_id;
      attached = of_kind ∙ attached_to k area.ioas to;
      first = let end = ends.1 in search (end, arith, nat_tests);
      last = let end = ends.0 in search (end, arith, nat_tests);
    }

-- and one that lies in it meets it
meets_it : (w : World) (pin : AccessPin) (area : Area) → have_own_ids w.objects ≡ true → LiesIn w pin area
    → (is_pin_in w.objects pin area && meets area.span pin.span) ≡ true
meets_it w pin area own lies_in =
    let found : kind_of w.objects pin.file pin.access ≡ Some (kind.Access (Some area.ioas)) =
    rw (← lies_in.access_file, ← lies_in.access_id) (kind_only w.objects lies_in.access own
    (within w.objects lies_in.access lies_in.holds) ∙ ap Some lies_in.attached) in
    let to : elim (kind_of w.objects pin.file pin.access) as (λ _. Bool)
    [ Some k ↦ is_access_to area.ioas k | None ↦ false ] ≡ true =
    ap (λ (o : Option ObjectKind). elim o as (λ _. Bool) [ Some k ↦ is_access_to area.ioas k | None ↦ false ]) found
    ∙ itself area.ioas.0 in
    let files : eqb area.file.0 pin.file.0 ≡ true =
    ap (λ (f : FileNo). eqb area.file.0 f.0) lies_in.of_file ∙ itself area.file.0 in
    both_true _ _ (both_true _ _ files to)
    (spans_meet area.span.first area.span.last pin.span.first pin.span.last lies_in.first lies_in.last)
  where
    spans_meet : (a b c d : ℕ) → c ≤ b → a ≤ d → (leb a d && leb c b) ≡ true
    spans_meet a b c d low high = search (low, high, arith, nat_tests)

    itself : (n : ℕ) → eqb n n ≡ true
    itself n = search (arith, nat_tests)

pub no_pin_lies : (w : World) (file : FileNo) (request : UnmapRequest) (area : Area) (pin : AccessPin)
    → have_own_ids w.objects ≡ true → waits w file request ≡ false → IsIn w.areas area
    → is_named file request area ≡ true → LiesIn w pin area → ⊥
no_pin_lies w file request area pin own done there named lies_in =
    let listed = in_kept (is_touched file request) w.areas area there (touched_named file request area ∙ named) in
    let free = (or_false _ _ (each_not (is_held_back (devices_of w.objects w.attachments file request.ioas)
    (has_pin_in w.objects w.access_pins)) (touched w.areas file request) area done listed)).1 in
    clash _ free (of_any (λ (p : AccessPin). is_pin_in w.objects p area && meets area.span p.span) w.access_pins pin
    (within w.access_pins pin lies_in.there) (meets_it w pin area own lies_in))

-- ---- what holds an area back

pub record HeldBack (w : World) (file : FileNo) (request : UnmapRequest) : Type 0 where
  pub area : Area
  pub there : IsIn w.areas area
  pub named : is_named file request area ≡ true
  pub by : HoldsBack w area

pub something_holds : (w : World) (file : FileNo) (request : UnmapRequest) → waits w file request ≡ true
    → HeldBack w file request
something_holds w file request waiting =
    let (area, listed, some) = some_in (is_held_back (devices_of w.objects w.attachments file request.ioas)
    (has_pin_in w.objects w.access_pins)) (touched w.areas file request) waiting in
    let (there, is) = in_filter (is_touched file request) w.areas area listed in
    let named : is_named file request area ≡ true = sym (touched_named file request area) ∙ is in
    record { area = area; there = there; named = named; by = by_test area named _ refl some }
  where
    attached : List ℕ
    attached = devices_of w.objects w.attachments file request.ioas

    owed_one : (area : Area) → is_named file request area ≡ true
        → not (eqb (length (owed_by attached area.phase)) 0) ≡ true → HoldsBack w area
    owed_one area named some =
        let (of_file, of_space) = space_of_touched file request area named in
        let (d, owed) = some_owed (owed_by attached area.phase) some in
        let moved = subst (λ (i : ObjId). IsIn (owed_by (devices_of w.objects w.attachments area.file i) area.phase) d)
        (sym of_space) (subst (λ (f : FileNo). IsIn
        (owed_by (devices_of w.objects w.attachments f request.ioas) area.phase) d) (sym of_file) owed) in
        ADevice (record { 0 = d }) (owes_by w area area.phase (record { 0 = d }) moved)

    by_test : (area : Area) → is_named file request area ≡ true → (b : Bool)
        → not (eqb (length (owed_by attached area.phase)) 0) ≡ b
        → (b || has_pin_in w.objects w.access_pins area) ≡ true → HoldsBack w area
    by_test area named true is some = owed_one area named is
    by_test area named false is some =
        let (pin, among, both) = some_in (λ (p : AccessPin). is_pin_in w.objects p area && meets area.span p.span)
        w.access_pins some in
        APin pin (lies w pin area among both)

-- ---- areas leave

-- a phase after one try more
tried_leaving : (most : ℕ) (owed : List ℕ) (tries : ℕ)
    → tried most (Leaving owed tries) ≡ Leaving owed (tries_after most tries)
tried_leaving most owed tries = by_count (ltb most 100)
  where
    by_count : (b : Bool) → cond b (with_tries (most + 1) (Leaving owed tries)) (Leaving owed tries)
        ≡ Leaving owed (cond b (most + 1) tries)
    by_count true = refl
    by_count false = refl

leaves : (w : World) (area : Area) (most : ℕ) (phase : Phase) → have_own_ids w.objects ≡ true
    → LeavesBy w area most phase (tried most
    (leaving (devices_of w.objects w.attachments area.file area.ioas) phase))
leaves w area most Live own =
    rw (tried_leaving most (devices_of w.objects w.attachments area.file area.ioas) 0) (
      (λ device. (
        (λ has. device_translates w area.file area.ioas device (within _ device.0 has)),
        (λ by. contains _ device.0 (translates_device w area.file area.ioas device own by)),
      )),
      refl,
    )
leaves w area most (Leaving owed tries) own = tried_leaving most owed tries

-- the areas, where so many tries are the most
abbrev left_areas : World → FileNo → UnmapRequest → ℕ → List Area → List Area
left_areas w file request most areas =
    map (λ (area : Area). with_phase (cond (is_touched file request area)
    (tried most (leaving (devices_of w.objects w.attachments file request.ioas) area.phase)) area.phase) area) areas

all_left : (w : World) (file : FileNo) (request : UnmapRequest) (most : ℕ) (areas : List Area)
    → have_own_ids w.objects ≡ true → AllLeave w file request most areas (left_areas w file request most areas)
all_left w file request most [] own = tt
all_left w file request most (area ∷ areas) own = (
  refl,
  leave (is_touched file request area) refl,
  stay (is_touched file request area) refl,
  all_left w file request most areas own,
)
  where
    left : ObjId → FileNo → Phase
    left i f = tried most (leaving (devices_of w.objects w.attachments f i) area.phase)

    leave : (b : Bool) → is_touched file request area ≡ b → is_named file request area ≡ true
        → LeavesBy w area most area.phase (cond b (left request.ioas file) area.phase)
    leave true is named =
        let (of_file, of_space) = space_of_touched file request area named in
        subst (λ (i : ObjId). LeavesBy w area most area.phase (left i file)) of_space
        (subst (λ (f : FileNo). LeavesBy w area most area.phase (left area.ioas f)) of_file
        (leaves w area most area.phase own))
    leave false is named = absurd (clash _ is (touched_named file request area ∙ named))

    stay : (b : Bool) → is_touched file request area ≡ b → is_named file request area ≡ false
        → with_phase (cond b (left request.ioas file) area.phase) area ≡ area
    stay true is other = absurd (clash _ (touched_named file request area ∙ other) is)
    stay false is other = refl

pub all_leave : (w : World) (file : FileNo) (request : UnmapRequest) → have_own_ids w.objects ≡ true
    → AllLeave w file request (touched_tries w.areas file request) w.areas (with_leaving w.areas
    (devices_of w.objects w.attachments file request.ioas) file request)
all_leave w file request own = all_left w file request (touched_tries w.areas file request) w.areas own

-- ---- how many tries are the most

seen_is : (phase : Phase) → tries_of phase ≡ tries_seen phase
seen_is Live = refl
seen_is (Leaving owed tries) = refl

-- the most of some areas, and so many: each area has at most that, and one has it or they are as many as given
record MostFrom (areas : List Area) (given most : ℕ) : Type 0 where
  above : given ≤ most
  each : (area : Area) → IsIn areas area → tries_of area.phase ≤ most
  one : (most ≡ given) ⊎ ((area : Area) × IsIn areas area × (tries_of area.phase ≡ most))

most_from : (areas : List Area) (given : ℕ)
    → MostFrom areas given (fold (λ most (area : Area). max most (tries_of area.phase)) given areas)
most_from [] given = record { above = omega arith; each = λ area within. absurd within; one = inl refl }
most_from (a ∷ areas) given = by_rest _ (most_from areas (max given (tries_of a.phase)))
  where
    by_rest : (most : ℕ) → MostFrom areas (max given (tries_of a.phase)) most → MostFrom (a ∷ areas) given most
    by_rest most rest = record {
      above = let up = rest.above in omega (arith, up);
      each = λ area within. ⊎_elim
          (λ (here : a ≡ area). let up = rest.above in
          let of_a : tries_of a.phase ≤ most = omega (arith, up) in
          subst (λ (x : Area). tries_of x.phase ≤ most) here of_a)
          (λ (later : IsIn areas area). rest.each area later) within;
      one = ⊎_elim
          (λ (same : most ≡ max given (tries_of a.phase)). by_max (leb given (tries_of a.phase)) refl same)
          (λ (found : (area : Area) × IsIn areas area × (tries_of area.phase ≡ most)).
          inr (found.0, inr found.1, found.2)) rest.one;
    }
      where
        by_max : (b : Bool) → leb given (tries_of a.phase) ≡ b → most ≡ max given (tries_of a.phase)
            → (most ≡ given) ⊎ ((area : Area) × IsIn (a ∷ areas) area × (tries_of area.phase ≡ most))
        by_max true above same =
            inr (a, inl refl, (let at : tries_of a.phase ≡ most = search (above, same, arith, nat_tests) in at))
        by_max false below same = inl (search (below, same, arith, nat_tests))

pub are_most : (w : World) (file : FileNo) (request : UnmapRequest) (area : Area) → IsIn w.areas area
    → is_named file request area ≡ true → AreMost w file request (touched_tries w.areas file request)
are_most w file request area there named = by_most _ (most_from (touched w.areas file request) 0)
  where
    kept : (x : Area) → IsIn w.areas x → is_named file request x ≡ true → IsIn (touched w.areas file request) x
    kept x among is = in_kept (is_touched file request) w.areas x among (touched_named file request x ∙ is)

    by_most : (most : ℕ) → MostFrom (touched w.areas file request) 0 most → AreMost w file request most
    by_most most from =
        let upper : (x : Area) → Contains w.areas x → is_named file request x ≡ true → tries_seen x.phase ≤ most =
        λ x has is. subst (λ n. n ≤ most) (seen_is x.phase) (from.each x (kept x (within w.areas x has) is)) in
        ⊎_elim
        (λ (none : most ≡ 0). record {
          each = upper;
          seen_by = area;
          there = contains w.areas area there;
          named = named;
          seen = let few = upper area (contains w.areas area there) named in omega (arith, few, none);
        })
        (λ (found : (x : Area) × IsIn (touched w.areas file request) x × (tries_of x.phase ≡ most)).
        let (among, is) = in_filter (is_touched file request) w.areas found.0 found.1 in
        record {
          each = upper;
          seen_by = found.0;
          there = contains w.areas found.0 among;
          named = sym (touched_named file request found.0) ∙ is;
          seen = sym (seen_is found.0.phase) ∙ found.2;
        }) from.one

pub pending_again : (most : ℕ) → most < 100 → pending_errno most ≡ EAGAIN
pending_again most few = by_test (ltb most 100) refl
  where
    by_test : (b : Bool) → ltb most 100 ≡ b → cond b EAGAIN EDEADLOCK ≡ EAGAIN
    by_test true is = refl
    by_test false is = absurd (search (few, is, arith, nat_tests))

pub pending_in_vain : (most : ℕ) → 100 ≤ most → pending_errno most ≡ EDEADLOCK
pending_in_vain most many = by_test (ltb most 100) refl
  where
    by_test : (b : Bool) → ltb most 100 ≡ b → cond b EAGAIN EDEADLOCK ≡ EDEADLOCK
    by_test true is = absurd (search (many, is, arith, nat_tests))
    by_test false is = refl

-- ---- a flush

pays : (device : DeviceNo) (phase : Phase) → PaidBy device phase (paid device phase)
pays device Live = refl
pays device (Leaving owed tries) = ((λ other. (paid_from other, paid_to other)), refl)
  where
    paid_from : (other : ℕ) → Contains (without_device device.0 owed) other → Contains owed other × (other ≢ device.0)
    paid_from other has =
        let (there, stays) = in_filter (λ (d : ℕ). not (eqb d device.0)) owed other (within _ other has) in
        (contains owed other there, differ other (not_true _ stays))
      where
        differ : (n : ℕ) → eqb n device.0 ≡ false → n ≢ device.0
        differ n is same = search (is, same, arith, nat_tests)

    paid_to : (other : ℕ) → Contains owed other × (other ≢ device.0) → Contains (without_device device.0 owed) other
    paid_to other has = contains _ other (in_kept (λ (d : ℕ). not (eqb d device.0)) owed other (within owed other has.0)
        (not_false _ (by_test (eqb other device.0) refl)))
      where
        by_test : (b : Bool) → eqb other device.0 ≡ b → b ≡ false
        by_test true is = absurd (has.1 (eqb-true other device.0 is))
        by_test false is = refl

pub all_pay : (device : DeviceNo) (areas : List Area) → AllPaid device areas (all_paid device areas)
all_pay device [] = tt
all_pay device (area ∷ areas) = (refl, pays device area.phase, all_pay device areas)
