-- Where an access object holds a pin that covers an address, an area of its address space is there, and the page of the
-- area at the address is pinned: so each access to what is pinned reaches a frame.
use Rattle.std.proofs.Common.{◌≡◌, ℕ, ◌+◌, ◌-◌, ◌*◌, ◌/◌, ◌%◌, ◌<◌, ◌≤◌, Bool, true, false, ◌&&◌, eqb, leb, ltb}
use Rattle.std.proofs.Common.{is_some, Option, Some, None, List, refl, ap, sym, ◌∙◌, arith}
use Rattle.std.specs.List.{list_any}
use Rattle.std.proofs.Math.Nat.{div-add-mod}
use Rattle.std.proofs.lemmas.Bool.{eqb-true}
use Rattle.std.proofs.lemmas.Bool.Decides.{nat_tests}
use Rattle.iofd_rows.proofs.Bools.{and_true, both_true}
use Rattle.iofd_rows.proofs.Each.{IsIn, in_filter, in_found, of_any, of_each}
use Rattle.iofd_rows.proofs.ListTests.{any-filter, any_weaker, or_right}
use Rattle.iofd_rows.proofs.Named.{file_is, id_is}
use Rattle.iofd_rows.proofs.ObjectPages.{has_page, in_pinned, is_listed, listed_is}
use Rattle.iofd_rows.proofs.OwnIds.{any_found}
use Rattle.iofd_rows.proofs.PageLists.{at_page}
use Rattle.iofd_rows.specs.AccessPins.{is_under}
use Rattle.iofd_rows.specs.Pinned.{ArePinned, has_object}
use Rattle.iofd_runs.proofs.Accessed.{each_held, some_in}
use Rattle.iofd_runs.proofs.PagesToPin.{pages_in}
use Rattle.iofd_runs.specs.Fits.{RowsFit, begins_at_page}
use Rattle.iofd_runs.specs.PinsFit.{AccessPinsFit, is_fitting_pin}
use Rattle.iofd_words.specs.Accesses.{accessed_frame, frame_in}
use Rattle.iofd_words.specs.Areas.{area_at, areas_of, is_of}
use Rattle.iofd_words.specs.Objects.{access_ioas, is_access_to, kind_of}
use Rattle.iofd_words.specs.Pins.{ObjectPage, allows, covers_page, is_covered, is_of_access}
use Rattle.iofd_words.specs.Pins.{is_translated, pinned_frame}
use Rattle.iofd_words.specs.Policy.{page_in}
use Rattle.iofd_words.specs.Span.{holds, size_of}
use Rattle.iofd_words.specs.View.{view}
use Rattle.iofd_words.specs.World.{World}
use Rattle.iofd_words.specs.declared.fault.AccessKind.{AccessKind}
use Rattle.iofd_words.specs.declared.numbers.FileNo.{FileNo}
use Rattle.iofd_words.specs.declared.numbers.FrameNo.{FrameNo}
use Rattle.iofd_words.specs.declared.numbers.ObjId.{ObjId}
use Rattle.iofd_words.specs.declared.rows.AccessPin.{AccessPin}
use Rattle.iofd_words.specs.declared.rows.Area.{Area}
use Rattle.iofd_words.specs.declared.rows.MemoryObject.{MemoryObject}
use Rattle.iofd_words.specs.declared.rows.Object.{Object}
use Rattle.iofd_words.specs.declared.rows.ObjectKind.{ObjectKind}
use Rattle.iofd_words.specs.declared.rows.ObjectKind.TheVariants as kind

-- a pin of the access object that covers the address, and is for such an access
pub record HoldsPin (w : World) (file : FileNo) (id : ObjId) (address : ℕ) (access : AccessKind) : Type 0 where
  pub pin : AccessPin
  pub among : IsIn w.access_pins pin
  pub of_file : pin.file ≡ file
  pub of_id : pin.access ≡ id
  pub over : holds pin.span address ≡ true
  pub right : allows pin.write access ≡ true
  pub ioas : ObjId
  pub attached : kind_of w.objects file id ≡ Some (kind.Access (Some ioas))

-- the area of the address space that holds the address
pub record HasAreaAt (w : World) (file : FileNo) (ioas : ObjId) (address : ℕ) : Type 0 where
  pub area : Area
  pub there : area_at address (areas_of w.areas file ioas) ≡ Some area
  pub within : IsIn w.areas area
  pub of_space : is_of file ioas area ≡ true
  pub lies : holds area.span address ≡ true

-- by which pin, in which area, and at which frame
pub record ReachesHeld (w : World) (file : FileNo) (id : ObjId) (address : ℕ) (access : AccessKind) : Type 0 where
  pub by : HoldsPin w file id address access
  pub under : HasAreaAt w file by.ioas address
  pub covers : covers_page w.objects ((address - under.area.span.first) / 4096) by.pin under.area ≡ true
  pub frame : FrameNo
  pub pinned : pinned_frame w.pins (page_in under.area address) ≡ Some frame
  pub frame_is : accessed_frame (view w) file id address ≡ Some frame

-- the whole page of an address lies in a span of whole pages, where the address does
page_lies : (first last start n : ℕ) → (eqb (first % 4096) 0 && eqb (last % 4096) 4095) ≡ true
    → eqb (start % 4096) 0 ≡ true → (leb first n && leb n last) ≡ true → start ≤ n
    → (leb first (start + 4096 * ((n - start) / 4096))
    && leb (start + 4096 * ((n - start) / 4096) + 4096 - 1) last) ≡ true
page_lies first last start n whole begins here low =
    let ends = and_true (eqb (first % 4096) 0) (eqb (last % 4096) 4095) whole in
    let inside = and_true (leb first n) (leb n last) here in
    let begin : first % 4096 ≡ 0 = eqb-true (first % 4096) 0 ends.0 in
    let end : last % 4096 ≡ 4095 = eqb-true (last % 4096) 4095 ends.1 in
    let at : start % 4096 ≡ 0 = eqb-true (start % 4096) 0 begins in
    let left : first ≤ n = let is = inside.0 in search (is, arith, nat_tests) in
    let right : n ≤ last = let is = inside.1 in search (is, arith, nat_tests) in
    let firsts = div-add-mod first 4096 in
    let lasts = div-add-mod last 4096 in
    let starts = div-add-mod start 4096 in
    let cut = div-add-mod (n - start) 4096 in
    let above : first ≤ start + 4096 * ((n - start) / 4096) =
    omega (arith, begin, at, left, low, firsts, starts, cut) in
    let below : start + 4096 * ((n - start) / 4096) + 4096 - 1 ≤ last =
    omega (arith, end, at, right, low, lasts, starts, cut) in
    both_true (leb first (start + 4096 * ((n - start) / 4096)))
    (leb (start + 4096 * ((n - start) / 4096) + 4096 - 1) last)
    (search (above, arith, nat_tests)) (search (below, arith, nat_tests))

-- a page of an area is one of its memory object's
pub page_of_object : (memory : List MemoryObject) (area : Area) (index : ℕ) → has_object memory area ≡ true
    → area.span.first + 4096 * index ≤ area.span.last
    → is_listed memory (record { memory = area.memory; index = index }) ≡ true
page_of_object memory area index has inside =
    listed_is memory (record { memory = area.memory; index = index })
    ∙ any_weaker (λ (m : MemoryObject). eqb m.number area.memory && eqb (m.count * 4096) (size_of area.span))
    (has_page (record { memory = area.memory; index = index })) memory
    (λ m is.
    let parts = and_true (eqb m.number area.memory) (eqb (m.count * 4096) (size_of area.span)) is in
    both_true _ _ (flipped m.number area.memory parts.0)
    (below area.span.first area.span.last m.count (eqb-true (m.count * 4096) (size_of area.span) parts.1) inside)) has
  where
    flipped : (m n : ℕ) → eqb m n ≡ true → eqb n m ≡ true
    flipped m n is = grind (arith, nat_tests)

    below : (first last count : ℕ) → count * 4096 ≡ last + 1 - first → first + 4096 * index ≤ last
        → ltb index count ≡ true
    below first last count size low =
        let is : index < count = omega (arith, size, low) in search (is, arith, nat_tests)

-- a kind is had under equal names
renamed : (objects : List Object) (f g : FileNo) (i j : ObjId) (k : ObjectKind) → f ≡ g → i ≡ j
    → kind_of objects f i ≡ Some k → kind_of objects g j ≡ Some k
renamed objects f g i j k files ids is = rw (← files, ← ids) is

module _ (at : ℕ) (w : World) (p : ArePinned at w) (fits : RowsFit w) (pins : AccessPinsFit w) where
  -- what a pin covers has a pin
  pub covered_pinned : (pin : AccessPin) (area : Area) (index : ℕ) → IsIn w.access_pins pin → IsIn w.areas area
      → area.span.first + 4096 * index ≤ area.span.last → covers_page w.objects index pin area ≡ true
      → is_some (pinned_frame w.pins (record { memory = area.memory; index = index })) ≡ true
  covered_pinned pin area index among within inside covers =
      let page : ObjectPage = record { memory = area.memory; index = index } in
      at_page (λ q. is_some (pinned_frame w.pins q)) (pages_in w) page p.pinned
      (in_pinned w.objects w.areas w.memory w.access_pins page
      ∙ both_true _ _ (page_of_object w.memory area index (of_each (has_object w.memory) w.areas area p.sizes within)
      inside)
      (or_right (is_translated w.objects w.areas area.memory) _
      (of_any (λ q. list_any (λ (a : Area). eqb a.memory area.memory && covers_page w.objects index q a) w.areas)
      w.access_pins pin among
      (of_any (λ (a : Area). eqb a.memory area.memory && covers_page w.objects index pin a) w.areas area within
      (both_true _ _ (itself area.memory) covers)))))
    where
      itself : (n : ℕ) → eqb n n ≡ true
      itself n = grind (arith, nat_tests)

  holds_pin_at : (file : FileNo) (id : ObjId) (address : ℕ) (access : AccessKind)
      → is_covered w.access_pins file id address access ≡ true → HoldsPin w file id address access
  holds_pin_at file id address access covered =
      let (pin, among, passes) = some_in (λ (q : AccessPin). is_of_access file id q
      && (holds q.span address && allows q.write access)) w.access_pins covered in
      let parts = and_true (is_of_access file id pin) (holds pin.span address && allows pin.write access) passes in
      let names = and_true (eqb pin.file.0 file.0) (eqb pin.access.0 id.0) parts.0 in
      let rights = and_true (holds pin.span address) (allows pin.write access) parts.1 in
      let of_file = file_is pin.file file names.0 in
      let of_id = id_is pin.access id names.1 in
      let held = each_held w.objects w.areas w.access_pins p.held pin among in
      record {
        pin = pin;
        among = among;
        of_file = of_file;
        of_id = of_id;
        over = rights.0;
        right = rights.1;
        ioas = held.ioas;
        attached = renamed w.objects pin.file file pin.access id _ of_file of_id held.attached;
      }

  module _ (file : FileNo) (id : ObjId) (address : ℕ) (access : AccessKind)
      (by : HoldsPin w file id address access) where
    -- the address space that the pin is in is the one to which its access object is attached
    same_space : (ioas : ObjId) → kind_of w.objects by.pin.file by.pin.access ≡ Some (kind.Access (Some ioas))
        → ioas ≡ by.ioas
    same_space ioas is =
        let here : kind_of w.objects file id ≡ Some (kind.Access (Some ioas)) =
        renamed w.objects by.pin.file file by.pin.access id _ by.of_file by.of_id is in
        let there = by.attached in
        cc

    some_area : is_some (area_at address (areas_of w.areas file by.ioas)) ≡ true
    some_area =
        let held = each_held w.objects w.areas w.access_pins p.held by.pin by.among in
        let under : is_under w.areas file by.ioas address ≡ true =
        rw (← by.of_file, ← same_space held.ioas held.attached) (held.under address by.over) in
        sym (any_found (λ (a : Area). holds a.span address) (areas_of w.areas file by.ioas))
        ∙ any-filter (λ (a : Area). holds a.span address) (is_of file by.ioas) w.areas ∙ under

    has_area_at : HasAreaAt w file by.ioas address
    has_area_at = by_found (area_at address (areas_of w.areas file by.ioas)) refl some_area
      where
        by_found : (o : Option Area) → area_at address (areas_of w.areas file by.ioas) ≡ o → is_some o ≡ true
            → HasAreaAt w file by.ioas address
        by_found None there some = cc
        by_found (Some area) there some =
            let found = in_found (λ (a : Area). holds a.span address) (areas_of w.areas file by.ioas) area there in
            let kept = in_filter (is_of file by.ioas) w.areas area found.0 in
            record { area = area; there = there; within = kept.0; of_space = kept.1; lies = found.1 }

    module _ (under : HasAreaAt w file by.ioas address) where
      begins : under.area.span.first ≤ address
      begins =
          let is = (and_true (leb under.area.span.first address) (leb address under.area.span.last) under.lies).0 in
          search (is, arith, nat_tests)

      page_covered : covers_page w.objects ((address - under.area.span.first) / 4096) by.pin under.area ≡ true
      page_covered =
          let area = under.area in
          let names = and_true (eqb area.file.0 file.0) (eqb area.ioas.0 by.ioas.0) under.of_space in
          let fit = of_each is_fitting_pin w.access_pins by.pin pins.spans by.among in
          let whole = (and_true _ _ (and_true _ _ fit).0).0 in
          let to : elim (kind_of w.objects by.pin.file by.pin.access) as (λ _. Bool)
          [ Some k ↦ is_access_to area.ioas k | None ↦ false ] ≡ true =
          ap (λ (o : Option ObjectKind). elim o as (λ _. Bool)
          [ Some k ↦ is_access_to area.ioas k | None ↦ false ])
          (renamed w.objects file by.pin.file id by.pin.access _ (sym by.of_file) (sym by.of_id) by.attached)
          ∙ flipped area.ioas.0 by.ioas.0 names.1 in
          both_true _ _ (both_true _ _ (ap (λ (f : FileNo). eqb area.file.0 f.0) by.of_file ∙ names.0) to)
          (page_lies by.pin.span.first by.pin.span.last area.span.first address whole
          (of_each begins_at_page w.areas area fits.starts under.within) by.over begins)
        where
          flipped : (m n : ℕ) → eqb m n ≡ true → eqb n m ≡ true
          flipped m n is = grind (arith, nat_tests)

      some_frame : is_some (pinned_frame w.pins (page_in under.area address)) ≡ true
      some_frame =
          covered_pinned by.pin under.area ((address - under.area.span.first) / 4096) by.among under.within
          (inside under.area.span.first under.area.span.last under.lies) page_covered
        where
          inside : (first last : ℕ) → (leb first address && leb address last) ≡ true
              → first + 4096 * ((address - first) / 4096) ≤ last
          inside first last here =
              let parts = and_true (leb first address) (leb address last) here in
              let low : first ≤ address = let is = parts.0 in search (is, arith, nat_tests) in
              let high : address ≤ last = let is = parts.1 in search (is, arith, nat_tests) in
              let cut = div-add-mod (address - first) 4096 in
              omega (arith, low, high, cut)

      reaches_frame : ReachesHeld w file id address access
      reaches_frame = by_frame (pinned_frame w.pins (page_in under.area address)) refl some_frame
        where
          by_frame : (o : Option FrameNo) → pinned_frame w.pins (page_in under.area address) ≡ o → is_some o ≡ true
              → ReachesHeld w file id address access
          by_frame None is some = cc
          by_frame (Some frame) is some =
              record {
                by = by;
                under = under;
                covers = page_covered;
                frame = frame;
                pinned = is;
                frame_is =
                    ap (λ (o : Option ObjectKind). elim (elim o as (λ _. Option ObjId)
                    [ Some k ↦ access_ioas k | None ↦ None ]) as (λ _. Option FrameNo) [
                      | Some to ↦ frame_in (view w) (area_at address (areas_of w.areas file to)) address
                      | None ↦ None
                    ]) by.attached
                    ∙ ap (λ (o : Option Area). frame_in (view w) o address) under.there ∙ is;
              }

  pub reaches_held : (file : FileNo) (id : ObjId) (address : ℕ) (access : AccessKind)
      → is_covered w.access_pins file id address access ≡ true → ReachesHeld w file id address access
  reaches_held file id address access covered =
      let by = holds_pin_at file id address access covered in
      reaches_frame file id address access by (has_area_at file id address access by)
