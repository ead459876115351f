-- Where an area lets an access pass, its page has a pin.
use Rattle.std.proofs.Common.{◌≡◌, ℕ, zero, suc, ◌+◌, ◌-◌, ◌*◌, ◌/◌, ◌%◌, ◌^◌, ◌<◌, ◌≤◌, Bool, true, false, cond, ◌&&◌}
use Rattle.std.proofs.Common.{◌||◌, eqb, leb, is_some, Option, Some, None, List, [], ◌∷◌, ◌++◌, map, refl, sym, ◌∙◌, ap}
use Rattle.std.proofs.Common.{arith}
use Rattle.iofd_rows.proofs.Found.{found_passes}
use Rattle.iofd_rows.proofs.Each.{in_found}
use Rattle.iofd_rows.specs.Pinned.{ArePinned}
use Rattle.iofd_runs.proofs.SamePages.{area_pinned}
use Rattle.std.proofs.Math.Nat.{div-lt_iff_lt-mul, div-add-mod}
use Rattle.std.specs.List.{filter, find, list_any, range_with_len}
use Rattle.std.proofs.lemmas.Bool.Decides.{nat_tests}
use Rattle.iofd_rows.proofs.Bools.{and_true, both_true}
use Rattle.iofd_rows.proofs.PageTables.{hwpt_alike}
use Rattle.iofd_rows.proofs.PageLists.{any-pinned, at_page, pins_page}
use Rattle.iofd_words.specs.Areas.{area_at, areas_of, is_of}
use Rattle.iofd_words.specs.Attachments.{attachment_of, ioas_of, ioas_of_attachment}
use Rattle.iofd_runs.specs.Fits.{is_of_pages, RowsFit}
use Rattle.iofd_words.specs.Objects.{has_hwpt, is_hwpt_over, is_object, kind_of}
use Rattle.iofd_words.specs.Pages.{is_whole}
use Rattle.iofd_words.specs.Pins.{is_page, area_pages, pinned_frame, pinned_pages}
use Rattle.iofd_words.specs.Policy.{Outcome, Passes, Denied, at_area, by_phase, by_width, access_outcomes, outcomes}
use Rattle.iofd_words.specs.Policy.{page_in, passing, translated}
use Rattle.iofd_words.specs.DeviceSet.{has_device}
use Rattle.iofd_words.specs.Fault.{denied_by}
use Rattle.iofd_words.specs.Files.{device_of}
use Rattle.iofd_words.specs.Rights.{has_right}
use Rattle.iofd_words.specs.Settings.{DeviceSettings}
use Rattle.iofd_words.specs.View.{view}
use Rattle.iofd_words.specs.Width.{bits_of}
use Rattle.iofd_words.specs.declared.fault.FaultReason.TheVariants.{NoContext, BeyondWidth}
use Rattle.iofd_words.specs.declared.numbers.FrameNo.{FrameNo}
use Rattle.iofd_words.specs.declared.rows.Phase.{Phase}
use Rattle.iofd_words.specs.declared.rows.Phase.TheVariants.{Live, Leaving}
use Rattle.iofd_words.specs.declared.rows.Pin.{Pin}
use Rattle.iofd_words.specs.Span.{holds, size_of}
use Rattle.iofd_words.specs.World.{World}
use Rattle.iofd_words.specs.declared.fault.AccessKind.{AccessKind}
use Rattle.iofd_words.specs.declared.numbers.DeviceNo.{DeviceNo}
use Rattle.iofd_words.specs.declared.numbers.ObjId.{ObjId}
use Rattle.iofd_words.specs.declared.rows.Area.{Area}
use Rattle.iofd_words.specs.declared.rows.Attachment.{Attachment}
use Rattle.iofd_words.specs.declared.rows.Object.{Object}
use Rattle.iofd_words.specs.declared.rows.ObjectKind.{ObjectKind}
use Rattle.iofd_words.specs.declared.rows.ObjectKind.TheVariants as kind

-- ---- the page of an address is one of the area's pages

page_listed : (memory from count index : ℕ) → from ≤ index → index < from + count
    → list_any (is_page (record { memory = memory; index = index }))
    (map (λ i. record { memory = memory; index = i }) (range_with_len from count)) ≡ true
page_listed memory from zero index low high = absurd (omega (arith, low, high))
page_listed memory from (suc count) index low high =
    by_first (eqb index from) refl (λ later. page_listed memory (from + 1) count index later (omega (arith, high)))
  where
    mine : eqb memory memory ≡ true
    mine = search (arith, nat_tests)

    by_first : (b : Bool) → eqb index from ≡ b
        → (from + 1 ≤ index → list_any (is_page (record { memory = memory; index = index }))
        (map (λ i. record { memory = memory; index = i }) (range_with_len (from + 1) count)) ≡ true)
        → ((eqb memory memory && eqb index from)
        || list_any (is_page (record { memory = memory; index = index }))
        (map (λ i. record { memory = memory; index = i }) (range_with_len (from + 1) count))) ≡ true
    by_first true is later = rw (mine, is) refl
    by_first false is later = rw (mine, is) (later (search (is, low, arith, nat_tests)))

whole_size : (size : ℕ) → is_whole size ≡ true → size / 4096 * 4096 ≡ size
whole_size size whole =
    let rest : size % 4096 ≡ 0 = search (whole, arith, nat_tests) in
    let parts = div-add-mod size 4096 in
    omega (arith, rest, parts)

index_within : (offset size : ℕ) → is_whole size ≡ true → offset < size → offset / 4096 < size / 4096
index_within offset size whole below =
    let exact = whole_size size whole in
    (div-lt_iff_lt-mul {k = 4096} {x = offset} {y = size / 4096} (omega arith)).1 (rw exact below)

page_of_area : (area : Area) (address : ℕ) → is_of_pages area ≡ true → holds area.span address ≡ true
    → list_any (is_page (page_in area address)) (area_pages area) ≡ true
page_of_area area address pages held =
    let parts = and_true (leb area.span.first address) (leb address area.span.last) held in
    let low : area.span.first ≤ address = search (parts.0, arith, nat_tests) in
    let high : address ≤ area.span.last = search (parts.1, arith, nat_tests) in
    let sizes = and_true (is_whole (size_of area.span)) _ pages in
    let inside = index_within (address - area.span.first) (size_of area.span) sizes.0 (omega (arith, low, high)) in
    page_listed area.memory 0 (size_of area.span / 4096) ((address - area.span.first) / 4096)
    (omega arith) (omega (arith, inside))

-- ---- the address space of an attachment has a page table

over : (object : Object) (a : Attachment) (ioas : ObjId) → is_object a.file a.hwpt object ≡ true
    → ioas_of object.kind ≡ Some ioas → (eqb object.file.0 a.file.0 && is_hwpt_over ioas object.kind) ≡ true
over object a ioas is same =
    by_kind object.kind same (and_true (eqb object.file.0 a.file.0) (eqb object.id.0 a.hwpt.0) is).0
  where
    by_kind : (k : ObjectKind) → ioas_of k ≡ Some ioas → eqb object.file.0 a.file.0 ≡ true
        → (eqb object.file.0 a.file.0 && is_hwpt_over ioas k) ≡ true
    by_kind kind.Ioas same file = cc
    by_kind (kind.Device device) same file = cc
    by_kind (kind.Access attached) same file = cc
    by_kind (kind.Hwpt own width automatic) same file =
        let is : own ≡ ioas = cc in rw (file, is) (search (arith, nat_tests))

any_of_found : {X : Type 0} (p q : X → Bool) (xs : List X) (x : X) → find p xs ≡ Some x → q x ≡ true
    → list_any q xs ≡ true
any_of_found p q [] x found is = cc
any_of_found p q (y ∷ xs) x found is = by_test (p y) found (λ later. any_of_found p q xs x later is)
  where
    or_true : (b : Bool) → (b || true) ≡ true
    or_true true = refl
    or_true false = refl

    by_test : (b : Bool) → cond b (Some y) (find p xs) ≡ Some x → (find p xs ≡ Some x → list_any q xs ≡ true)
        → (q y || list_any q xs) ≡ true
    by_test true found later = let same : y ≡ x = cc in rw (same, is) refl
    by_test false found later = rw (later found) (or_true (q y))

no_space : (ioas : ObjId) → None ≡ Some ioas → ⊥
no_space ioas is = cc

pub attached_hwpt : (objects : List Object) (a : Attachment) (ioas : ObjId) → ioas_of_attachment objects a ≡ Some ioas
    → has_hwpt objects a.file ioas ≡ true
attached_hwpt objects a ioas is = by_found (find (is_object a.file a.hwpt) objects) refl
  where
    by_found : (o : Option Object) → find (is_object a.file a.hwpt) objects ≡ o → has_hwpt objects a.file ioas ≡ true
    by_found None found = absurd (no_space ioas (rw (found, kind_of, ioas_of_attachment) at is))
    by_found (Some object) found =
        let same : ioas_of object.kind ≡ Some ioas = rw (found, kind_of, ioas_of_attachment) at is in
        let at_id = (in_found (is_object a.file a.hwpt) objects object found).1 in
        any_of_found (is_object a.file a.hwpt) (λ (o : Object). eqb o.file.0 a.file.0 && is_hwpt_over ioas o.kind)
        objects object found (over object a ioas at_id same)

-- ---- the page of a passing access has a pin

-- what is found among the rows that a filter keeps
kept_found : {X : Type 0} (p q : X → Bool) (xs : List X) → find (λ x. q x && p x) xs ≡ find p (filter q xs)
kept_found p q [] = refl
kept_found p q (x ∷ xs) = by_test (q x) (kept_found p q xs)
  where
    by_test : (b : Bool) → find (λ x. q x && p x) xs ≡ find p (filter q xs)
        → cond (b && p x) (Some x) (find (λ x. q x && p x) xs) ≡ find p (cond b (x ∷ filter q xs) (filter q xs))
    by_test true rest = ap (cond (p x) (Some x)) rest
    by_test false rest = rest

pub page_pinned : (at : ℕ) (w : World) (a : Attachment) (ioas : ObjId) (area : Area) (address : ℕ) → ArePinned at w
    → RowsFit w → ioas_of_attachment w.objects a ≡ Some ioas
    → area_at address (areas_of w.areas a.file ioas) ≡ Some area
    → is_some (pinned_frame w.pins (page_in area address)) ≡ true
page_pinned at w a ioas area address pins fits space found_own =
    let found = kept_found (λ (x : Area). holds x.span address) (is_of a.file ioas) w.areas ∙ found_own in
    let passes = (in_found (λ (x : Area). is_of a.file ioas x && holds x.span address) w.areas area found).1 in
    let parts = and_true (is_of a.file ioas area) (holds area.span address) passes in
    let ids = and_true (eqb area.file.0 a.file.0) (eqb area.ioas.0 ioas.0) parts.0 in
    let table = attached_hwpt w.objects a ioas space in
    let fit = (found_passes is_of_pages (λ (x : Area). is_of a.file ioas x && holds x.span address) w.areas
    area fits.pages found).0 in
    let own : has_hwpt w.objects area.file area.ioas ≡ true =
    sym (hwpt_alike w.objects area.file a.file area.ioas ioas ids.0 ids.1) ∙ table in
    let page : pins_page w.objects (page_in area address) area ≡ true =
    both_true _ _ own (page_of_area area address fit parts.1) in
    let listed = any_of_found (λ (x : Area). is_of a.file ioas x && holds x.span address)
    (pins_page w.objects (page_in area address)) w.areas area found page in
    at_page (λ page. is_some (pinned_frame w.pins page)) (pinned_pages w.objects w.areas w.memory w.access_pins)
    (page_in area address) pins.pinned (area_pinned w.objects w.areas w.memory w.access_pins (page_in area address)
    pins.sizes (any-pinned w.objects w.areas (page_in area address) ∙ listed))

-- ---- something may come of each access

not_empty : {X : Type 0} (x : X) (xs : List X) → x ∷ xs ≡ [] → ⊥
not_empty x xs is = cc

within_empty : (o : Option DeviceSettings) (address : ℕ) (x : Outcome) (within : List Outcome)
    → by_width o address (x ∷ []) within ≡ [] → within ≡ []
within_empty None address x within is = is
within_empty (Some device) address x within is = by_test (leb (2 ^ bits_of device.width) address) is
  where
    by_test : (b : Bool) → cond b (x ∷ []) within ≡ [] → within ≡ []
    by_test true is = cc
    by_test false is = is

phase_not_empty : (device : DeviceNo) (phase : Phase) (x y : Outcome) → by_phase device phase (x ∷ []) (y ∷ []) ≡ [] → ⊥
phase_not_empty device Live x y is = cc
phase_not_empty device (Leaving owed tries) x y is = by_test (has_device owed device.0) is
  where
    by_test : (b : Bool) → cond b (x ∷ [] ++ y ∷ []) (y ∷ []) ≡ [] → ⊥
    by_test true is = cc
    by_test false is = cc

passing_some : (pins : List Pin) (area : Area) (address : ℕ) (frame : FrameNo)
    → pinned_frame pins (page_in area address) ≡ Some frame
    → passing (pinned_frame pins (page_in area address)) ≡ Passes frame ∷ []
passing_some pins area address frame is = rw (is, passing) refl

area_not_empty : (pins : List Pin) (device : DeviceNo) (address : ℕ) (kind : AccessKind) (area : Area) (frame : FrameNo)
    → pinned_frame pins (page_in area address) ≡ Some frame
    → at_area (pinned_frame pins) device address kind (Some area) ≡ [] → ⊥
area_not_empty pins device address kind area frame pinned is = by_right (has_right area.rights kind) is
  where
    by_right : (b : Bool) → cond b (by_phase device area.phase (passing (pinned_frame pins (page_in area address)))
        (Denied (denied_by kind) ∷ [])) (Denied (denied_by kind) ∷ []) ≡ [] → ⊥
    by_right true is = phase_not_empty device area.phase (Passes frame) (Denied (denied_by kind))
        (rw (passing_some pins area address frame pinned) at is)
    by_right false is = cc

pub some_outcome : (at : ℕ) (w : World) (device : DeviceNo) (address : ℕ) (kind : AccessKind) → ArePinned at w
    → RowsFit w → outcomes w device address kind ≡ [] → ⊥
unfolding outcomes access_outcomes
some_outcome at w device address kind pins fits none = by_attachment (attachment_of w.attachments device) refl
  where
    by_frame : (a : Attachment) (ioas : ObjId) → ioas_of_attachment w.objects a ≡ Some ioas → (area : Area)
        → area_at address (areas_of w.areas a.file ioas) ≡ Some area → (o : Option FrameNo)
        → pinned_frame w.pins (page_in area address) ≡ o
        → at_area (pinned_frame w.pins) device address kind (Some area) ≡ [] → ⊥
    by_frame a ioas space area there None pinned is =
        let some = rw pinned at (page_pinned at w a ioas area address pins fits space there) in cc
    by_frame a ioas space area there (Some frame) pinned is =
        area_not_empty w.pins device address kind area frame pinned is

    by_area : (a : Attachment) (ioas : ObjId) → ioas_of_attachment w.objects a ≡ Some ioas → (o : Option Area)
        → area_at address (areas_of w.areas a.file ioas) ≡ o → at_area (pinned_frame w.pins) device address kind o ≡ []
        → ⊥
    by_area a ioas space None there is = cc
    by_area a ioas space (Some area) there is =
        by_frame a ioas space area there (pinned_frame w.pins (page_in area address)) refl is

    by_space : (a : Attachment) → (o : Option ObjId) → ioas_of_attachment w.objects a ≡ o
        → translated (view w) device address kind a ≡ [] → ⊥
    by_space a None space is = not_empty (Denied (denied_by kind)) [] (rw (space, translated) at is)
    by_space a (Some ioas) space is =
        by_area a ioas space (area_at address (areas_of w.areas a.file ioas)) refl (rw (space, translated) at is)

    by_attachment : (o : Option Attachment) → attachment_of w.attachments device ≡ o → ⊥
    by_attachment None found = not_empty (Denied NoContext) [] (rw (found, outcomes, access_outcomes) at none)
    by_attachment (Some a) found = by_space a (ioas_of_attachment w.objects a) refl
        (within_empty (device_of w.settings device) address (Denied BeyondWidth)
        (translated (view w) device address kind a) (rw (found, outcomes, access_outcomes) at none))
