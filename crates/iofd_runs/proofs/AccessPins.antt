-- One access pin more, and one less: what holds of the pin that comes, and which pages are covered then.
use Rattle.std.proofs.Common.{◌≡◌, ℕ, zero, suc, ◌+◌, ◌*◌, ◌-◌, ◌/◌, ◌%◌, ◌<◌, ◌≤◌, Bool, true, false, cond, ◌&&◌, ◌||◌}
use Rattle.std.proofs.Common.{not, eqb, leb, is_none, is_some, Option, Some, None, List, [], ◌∷◌, ◌++◌, map, refl}
use Rattle.std.proofs.Common.{ltb, ◌^◌, ap, sym, subst, ◌∙◌, inl, inr, arith}
use Rattle.std.specs.List.{flat_map, list_any, range_with_len}
use Rattle.std.proofs.Math.Nat.{div-add-mod, div-lt_iff_lt-mul}
use Rattle.std.proofs.lemmas.Bool.{eqb-true, not-false}
use Rattle.std.proofs.lemmas.Bool.Decides.{nat_tests}
use Rattle.std.proofs.lemmas.List.Folds.{list_any-append}
use Rattle.iofd_rows.proofs.Bools.{and_true, both_true, or_false, or_none}
use Rattle.iofd_rows.proofs.Each.{IsIn}
use Rattle.iofd_rows.proofs.InSpaces.{attached_in}
use Rattle.iofd_rows.proofs.ListTests.{any-filter, any_weaker, or_right}
use Rattle.iofd_rows.proofs.ObjectPages.{in_pinned, is_listed}
use Rattle.iofd_rows.proofs.PageLists.{no_page, page_kept}
use Rattle.iofd_rows.specs.AccessPins.{IsHeld, are_in_spaces, is_under}
use Rattle.iofd_rows.specs.Pinned.{ArePinned}
use Rattle.iofd_runs.specs.PinsFit.{is_fitting_pin}
use Rattle.iofd_runs.proofs.Accessed.{EachHeld}
use Rattle.iofd_runs.proofs.AccessesPassed.{AccessPinPassed}
use Rattle.iofd_runs.proofs.AttachedPages.{never_pinned}
use Rattle.iofd_runs.proofs.PagesToPin.{pages_in}
use Rattle.iofd_words.specs.Accesses.{has_gap, is_spanned, newly_accessed, pin_of}
use Rattle.iofd_words.specs.Accesses.{pinned_span}
use Rattle.iofd_words.specs.Areas.{areas_of, is_of}
use Rattle.iofd_words.specs.Bounds.{Bounds}
use Rattle.iofd_words.specs.Objects.{access_ioas, access_ioas_of, is_access_to, kind_of}
use Rattle.iofd_words.specs.Pages.{is_whole}
use Rattle.iofd_words.specs.Pins.{ObjectPage, covers_page, frame_now, is_accessed, is_equal, is_page}
use Rattle.iofd_words.specs.Pins.{is_pinned, is_translated, pages_of, pinned_frame, span_of_page, unpinned_pages}
use Rattle.iofd_words.specs.Pins.{without_pin}
use Rattle.iofd_words.specs.Span.{holds, lies_in, size_of, span_from}
use Rattle.iofd_words.specs.View.{View, view}
use Rattle.iofd_words.specs.World.{World}
use Rattle.iofd_words.specs.declared.event.PinRequest.{PinRequest}
use Rattle.iofd_words.specs.declared.numbers.FileNo.{FileNo}
use Rattle.iofd_words.specs.declared.numbers.FrameNo.{FrameNo}
use Rattle.iofd_words.specs.declared.numbers.ObjId.{ObjId}
use Rattle.iofd_words.specs.declared.rows.AccessPin.{AccessPin}
use Rattle.iofd_words.specs.declared.rows.Area.{Area}
use Rattle.iofd_words.specs.declared.rows.Object.{Object}
use Rattle.iofd_words.specs.declared.rows.ObjectKind.{ObjectKind}
use Rattle.iofd_words.specs.declared.rows.ObjectKind.TheVariants as kind

-- ---- what lies under a pin that nothing refuses

-- each page of the span lies in an area
page_under : (span : Bounds) (areas : List Area) (from count i : ℕ)
    → list_any (λ page. not (list_any (λ (area : Area). lies_in page area.span) areas))
    (map (λ i. span_from (span.first + 4096 * i) 4096) (range_with_len from count)) ≡ false → from ≤ i
    → i < from + count
    → list_any (λ (area : Area). lies_in (span_from (span.first + 4096 * i) 4096) area.span) areas ≡ true
page_under span areas from zero i none low high = absurd (omega (arith, low, high))
page_under span areas from (suc count) i none low high =
    let parts = or_false (not (list_any (λ (area : Area). lies_in (span_from (span.first + 4096 * from) 4096) area.span)
    areas)) _ none in
    by_first (eqb from i) refl parts.0
    (λ above. page_under span areas (from + 1) count i parts.1 above (omega (arith, high)))
  where
    by_first : (b : Bool) → eqb from i ≡ b
        → not (list_any (λ (area : Area). lies_in (span_from (span.first + 4096 * from) 4096) area.span) areas) ≡ false
        → (from + 1 ≤ i
        → list_any (λ (area : Area). lies_in (span_from (span.first + 4096 * i) 4096) area.span) areas ≡ true)
        → list_any (λ (area : Area). lies_in (span_from (span.first + 4096 * i) 4096) area.span) areas ≡ true
    by_first true is here later =
        let same : from ≡ i = eqb-true from i is in
        subst (λ (n : ℕ). list_any (λ (area : Area). lies_in (span_from (span.first + 4096 * n) 4096) area.span) areas
        ≡ true) same (not-false _ here)
    by_first false is here later = later (search (is, low, arith, nat_tests))

-- the page of an address of a span of whole pages is one of its pages
index_of : (first length n : ℕ) → is_whole length ≡ true → eqb length 0 ≡ false
    → (leb first n && leb n (first + length - 1)) ≡ true
    → ((n - first) / 4096 < size_of (span_from first length) / 4096)
    × (first + 4096 * ((n - first) / 4096) ≤ n) × (n ≤ first + 4096 * ((n - first) / 4096) + 4096 - 1)
index_of first length n whole some here =
    let parts = and_true (leb first n) (leb n (first + length - 1)) here in
    let low : first ≤ n = let is = parts.0 in search (is, arith, nat_tests) in
    let high : n ≤ first + length - 1 = let is = parts.1 in search (is, arith, nat_tests) in
    let above : 0 < length = search (some, arith, nat_tests) in
    let rest : length % 4096 ≡ 0 = eqb-true (length % 4096) 0 whole in
    let size : size_of (span_from first length) ≡ length = omega (arith, above) in
    let exact : length / 4096 * 4096 ≡ length = let parts = div-add-mod length 4096 in omega (arith, rest, parts) in
    let below : n - first < length / 4096 * 4096 = rw exact (omega (arith, low, high, above)) in
    let within = (div-lt_iff_lt-mul {k = 4096} {x = n - first} {y = length / 4096} (omega arith)).1 below in
    let cut = div-add-mod (n - first) 4096 in
    (rw size within, omega (arith, cut, low), omega (arith, cut, low))

-- so some area lies under each of its addresses
pub gapless_under : (areas : List Area) (file : FileNo) (ioas : ObjId) (request : PinRequest)
    → is_whole request.length ≡ true → eqb request.length 0 ≡ false
    → has_gap (pinned_span request) (areas_of areas file ioas) ≡ false → (n : ℕ)
    → holds (pinned_span request) n ≡ true → is_under areas file ioas n ≡ true
gapless_under areas file ioas request whole some gapless n here =
    let first = request.iova.0 in
    let i = (n - first) / 4096 in
    let (below, low, high) = index_of first request.length n whole some here in
    let covered = page_under (pinned_span request) (areas_of areas file ioas) 0 _ i gapless (omega arith)
    (omega (arith, below)) in
    any_weaker (λ (area : Area). is_of file ioas area && lies_in (span_from (first + 4096 * i) 4096) area.span)
    (λ (area : Area). is_of file ioas area && holds area.span n) areas
    (λ area both.
    let parts = and_true (is_of file ioas area) (lies_in (span_from (first + 4096 * i) 4096) area.span) both in
    both_true _ _ parts.0 (inside area.span.first area.span.last (first + 4096 * i) n low high parts.1))
    (sym (any-filter (λ (area : Area). lies_in (span_from (first + 4096 * i) 4096) area.span) (is_of file ioas) areas)
    ∙ covered)
  where
    inside : (first last start n : ℕ) → start ≤ n → n ≤ start + 4096 - 1
        → (leb first start && leb (start + 4096 - 1) last) ≡ true → (leb first n && leb n last) ≡ true
    inside first last start n low high lies =
        let parts = and_true (leb first start) (leb (start + 4096 - 1) last) lies in
        let before : first ≤ start = let is = parts.0 in search (is, arith, nat_tests) in
        let behind : start + 4096 - 1 ≤ last = let is = parts.1 in search (is, arith, nat_tests) in
        let left : first ≤ n = omega (arith, before, low) in
        let right : n ≤ last = omega (arith, behind, high) in
        search (left, right, arith, nat_tests)

-- the pin is of whole pages, below 2^64
pub pin_fits : (v : View) (file : FileNo) (id ioas : ObjId) (request : PinRequest)
    → AccessPinPassed v file id ioas request → is_fitting_pin (pin_of file id request) ≡ true
pin_fits v file id ioas request passed =
    both_true _ _ (both_true _ _ (both_true _ _ passed.whole_iova
    (ends request.iova.0 request.length passed.whole_iova passed.whole passed.some))
    (is_some_span request.iova.0 request.length passed.some)) (below request.iova.0 request.length passed.sum)
  where
    ends : (first length : ℕ) → is_whole first ≡ true → is_whole length ≡ true → eqb length 0 ≡ false
        → eqb ((first + length - 1) % 4096) 4095 ≡ true
    ends first length at_page whole some =
        let above : 0 < length = search (some, arith, nat_tests) in
        let rest : length % 4096 ≡ 0 = eqb-true (length % 4096) 0 whole in
        let begin : first % 4096 ≡ 0 = eqb-true (first % 4096) 0 at_page in
        let parts = div-add-mod first 4096 in
        let more = div-add-mod length 4096 in
        let last = div-add-mod (first + length - 1) 4096 in
        let is : (first + length - 1) % 4096 ≡ 4095 = omega (arith, above, rest, begin, parts, more, last) in
        search (is, arith, nat_tests)

    is_some_span : (first length : ℕ) → eqb length 0 ≡ false → leb first (first + length - 1) ≡ true
    is_some_span first length some =
        let above : 0 < length = search (some, arith, nat_tests) in
        let low : first ≤ first + length - 1 = omega (arith, above) in
        search (low, arith, nat_tests)

    below : (first length : ℕ) → ltb (2 ^ 64) (first + length) ≡ false → ltb (first + length - 1) (2 ^ 64) ≡ true
    below first length is =
        let most : first + length ≤ 2 ^ 64 = search (is, arith, nat_tests) in
        let low : first + length - 1 < 2 ^ 64 = omega (arith, most) in
        search (low, arith, nat_tests)

-- the pin is held
pub pin_held : (w : World) (file : FileNo) (id ioas : ObjId) (request : PinRequest)
    → AccessPinPassed (view w) file id ioas request → are_in_spaces w.objects ≡ true
    → IsHeld w.objects w.areas (pin_of file id request)
pin_held w file id ioas request passed spaces =
    let to = attached_in w.objects file id ioas spaces passed.attached in
    record {
      ioas = ioas;
      attached = to.access;
      space = to.space;
      under = gapless_under w.areas file ioas request passed.whole passed.some passed.covered;
    }

-- ---- which pages are covered

-- the page is covered by this pin, in some area
abbrev pub is_accessed_by : List Object → List Area → AccessPin → ObjectPage → Bool
is_accessed_by objects areas pin page =
    list_any (λ (area : Area). eqb area.memory page.memory && covers_page objects page.index pin area) areas

pub accessed_pins_more : (objects : List Object) (areas : List Area) (pins : List AccessPin) (pin : AccessPin)
    (page : ObjectPage) → is_accessed objects areas (pins ++ pin ∷ []) page
    ≡ (is_accessed objects areas pins page || is_accessed_by objects areas pin page)
accessed_pins_more objects areas pins pin page =
    list_any-append (λ p. is_accessed_by objects areas p page) pins (pin ∷ [])
    ∙ ap (λ b. is_accessed objects areas pins page || b) (or_none (is_accessed_by objects areas pin page))

-- with one pin less a test of pins finds no more
pub any_without : (p : AccessPin → Bool) (pin : AccessPin) (pins : List AccessPin)
    → list_any p (without_pin pin pins) ≡ true → list_any p pins ≡ true
any_without p pin [] some = some
any_without p pin (q ∷ pins) some = by_test (is_equal pin q) some (any_without p pin pins)
  where
    by_test : (b : Bool) → list_any p (cond b pins (q ∷ without_pin pin pins)) ≡ true
        → (list_any p (without_pin pin pins) ≡ true → list_any p pins ≡ true) → (p q || list_any p pins) ≡ true
    by_test true some later = or_right (p q) (list_any p pins) some
    by_test false some later = by_first (p q) some later
      where
        by_first : (b : Bool) → (b || list_any p (without_pin pin pins)) ≡ true
            → (list_any p (without_pin pin pins) ≡ true → list_any p pins ≡ true) → (b || list_any p pins) ≡ true
        by_first true some later = refl
        by_first false some later = later some

pub in_without : (pin : AccessPin) (pins : List AccessPin) (p : AccessPin) → IsIn (without_pin pin pins) p
    → IsIn pins p
in_without pin [] p among = among
in_without pin (q ∷ pins) p among = by_test (is_equal pin q) among (in_without pin pins p)
  where
    by_test : (b : Bool) → IsIn (cond b pins (q ∷ without_pin pin pins)) p
        → (IsIn (without_pin pin pins) p → IsIn pins p) → IsIn (q ∷ pins) p
    by_test true among later = inr among
    by_test false (inl same) later = inl same
    by_test false (inr rest) later = inr (later rest)

pub accessed_pins_fewer : (objects : List Object) (areas : List Area) (pins : List AccessPin) (pin : AccessPin)
    (page : ObjectPage) → is_accessed objects areas (without_pin pin pins) page ≡ true
    → is_accessed objects areas pins page ≡ true
accessed_pins_fewer objects areas pins pin page =
    any_without (λ p. is_accessed_by objects areas p page) pin pins

-- each pin is held, with one more that is, and with one less
pub held_pins_more : (objects : List Object) (areas : List Area) (pins : List AccessPin) (pin : AccessPin)
    → EachHeld objects areas pins → IsHeld objects areas pin → EachHeld objects areas (pins ++ pin ∷ [])
held_pins_more objects areas [] pin held is p (inl same) = subst (IsHeld objects areas) same is
held_pins_more objects areas [] pin held is p (inr later) = absurd later
held_pins_more objects areas (q ∷ pins) pin held is p (inl same) = held p (inl same)
held_pins_more objects areas (q ∷ pins) pin held is p (inr later) =
    held_pins_more objects areas pins pin (λ other among. held other (inr among)) is p later

pub held_pins_fewer : (objects : List Object) (areas : List Area) (pins : List AccessPin) (pin : AccessPin)
    → EachHeld objects areas pins → EachHeld objects areas (without_pin pin pins)
held_pins_fewer objects areas pins pin held p among = held p (in_without pin pins p among)

-- ---- the pages that come

-- a page that the pin covers lies in its span, in an area of its address space
pub spanned : (w : World) (file : FileNo) (id ioas : ObjId) (request : PinRequest) (page : ObjectPage)
    → access_ioas_of w.objects file id ≡ Some ioas
    → is_accessed_by w.objects w.areas (pin_of file id request) page
    ≡ is_spanned (pinned_span request) (areas_of w.areas file ioas) page
spanned w file id ioas request page attached =
    by_areas w.areas
    ∙ sym (any-filter (λ (area : Area). eqb area.memory page.memory
    && lies_in (span_of_page area page.index) (pinned_span request)) (is_of file ioas) w.areas)
  where
    same : (area : Area)
        → elim (kind_of w.objects file id) [ Some k ↦ is_access_to area.ioas k | None ↦ false ] ≡ eqb ioas.0 area.ioas.0
    same area = by_kind (kind_of w.objects file id) attached
      where
        by_kind : (o : Option ObjectKind)
            → elim o [ Some k ↦ access_ioas k | None ↦ None ] ≡ Some ioas
            → elim o [ Some k ↦ is_access_to area.ioas k | None ↦ false ] ≡ eqb ioas.0 area.ioas.0
        by_kind None is = cc
        by_kind (Some kind.Ioas) is = cc
        by_kind (Some (kind.Hwpt over width automatic)) is = cc
        by_kind (Some (kind.Device device)) is = cc
        by_kind (Some (kind.Access to)) is =
            ap (λ (o : Option ObjId). elim o [ Some attached ↦ eqb attached.0 area.ioas.0 | None ↦ false ]) is

    joined : (names own there lies : Bool) (a b : ℕ) → there ≡ eqb b a
        → (names && ((own && there) && lies)) ≡ ((own && eqb a b) && (names && lies))
    joined names own there lies a b is = grind (arith, nat_tests)

    by_areas : (areas : List Area) → is_accessed_by w.objects areas (pin_of file id request) page
        ≡ list_any (λ (area : Area). is_of file ioas area && (eqb area.memory page.memory
        && lies_in (span_of_page area page.index) (pinned_span request))) areas
    by_areas [] = refl
    by_areas (area ∷ areas) =
        rw (
          joined (eqb area.memory page.memory) (eqb area.file.0 file.0) _ (lies_in (span_of_page area page.index)
              (pinned_span request)) area.ioas.0 ioas.0 (same area),
          by_areas areas,
        ) refl

-- each page that the pin adds is in its user's memory
pub pinned_present : (at : ℕ) (w : World) (file : FileNo) (id ioas : ObjId) (request : PinRequest) (page : ObjectPage)
    → ArePinned at w → AccessPinPassed (view w) file id ioas request → is_listed w.memory page ≡ true
    → is_accessed_by w.objects w.areas (pin_of file id request) page ≡ true
    → is_pinned w.objects w.areas w.access_pins page ≡ false → is_some (frame_now w.memory w.user_pages page) ≡ true
pinned_present at w file id ioas request page p passed listed covers before =
    let free = never_pinned at w page p before in
    let lies = sym (spanned w file id ioas request page passed.attached) ∙ covers in
    let unpinned : list_any (is_page page) (unpinned_pages (pinned_frame w.pins) w.memory) ≡ true =
    page_kept (λ (q : ObjectPage). is_none (pinned_frame w.pins q)) (flat_map pages_of w.memory) page listed free in
    let comes : list_any (is_page page) (newly_accessed (view w) file ioas (pinned_span request)) ≡ true =
    page_kept (is_spanned (pinned_span request) (areas_of w.areas file ioas))
    (unpinned_pages (pinned_frame w.pins) w.memory) page unpinned lies in
    there (frame_now w.memory w.user_pages page)
    (no_page (λ q. is_none (frame_now w.memory w.user_pages q))
    (newly_accessed (view w) file ioas (pinned_span request)) page passed.present comes)
  where
    there : (now : Option FrameNo) → is_none now ≡ false → is_some now ≡ true
    there (Some frame) is = refl
    there None is = cc

-- what is to be pinned with one pin more, and wasn't, is covered by that pin
pub comes_by_pin : (w : World) (pin : AccessPin) (page : ObjectPage)
    → list_any (is_page page) (pages_in (record w { access_pins = w.access_pins ++ pin ∷ [] })) ≡ true
    → list_any (is_page page) (pages_in w) ≡ false
    → (is_listed w.memory page ≡ true) × (is_accessed_by w.objects w.areas pin page ≡ true)
    × (is_pinned w.objects w.areas w.access_pins page ≡ false)
comes_by_pin w pin page within before =
    let now = and_true (is_listed w.memory page) _
    (sym (in_pinned w.objects w.areas w.memory (w.access_pins ++ pin ∷ []) page) ∙ within) in
    let old : is_pinned w.objects w.areas w.access_pins page ≡ false =
    rest _ _ now.0 (sym (in_pinned w.objects w.areas w.memory w.access_pins page) ∙ before) in (
      now.0,
      by_pin _ _ _ (ap (λ b. is_translated w.objects w.areas page.memory || b)
          (sym (accessed_pins_more w.objects w.areas w.access_pins pin page)) ∙ now.1) old,
      old,
    )
  where
    rest : (a b : Bool) → a ≡ true → (a && b) ≡ false → b ≡ false
    rest true b is none = none
    rest false b is none = cc

    by_pin : (t a b : Bool) → (t || (a || b)) ≡ true → (t || a) ≡ false → b ≡ true
    by_pin true a b is none = cc
    by_pin false true b is none = cc
    by_pin false false b is none = is

-- with one pin less no page comes
pub none_by_unpin : (w : World) (pin : AccessPin) (page : ObjectPage)
    → list_any (is_page page) (pages_in (record w { access_pins = without_pin pin w.access_pins })) ≡ true
    → list_any (is_page page) (pages_in w) ≡ true
none_by_unpin w pin page within =
    let now = and_true (is_listed w.memory page) _
    (sym (in_pinned w.objects w.areas w.memory (without_pin pin w.access_pins) page) ∙ within) in
    in_pinned w.objects w.areas w.memory w.access_pins page
    ∙ both_true _ _ now.0 (either _ _ _ now.1 (accessed_pins_fewer w.objects w.areas w.access_pins pin page))
  where
    either : (t a b : Bool) → (t || a) ≡ true → (a ≡ true → b ≡ true) → (t || b) ≡ true
    either true a b is more = refl
    either false a b is more = more is
