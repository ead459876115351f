-- A page is pinned just where something keeps it pinned.
use Rattle.std.proofs.Common.{◌≡◌, ℕ, ◌+◌, ◌-◌, ◌*◌, ◌/◌, ◌<◌, ◌≤◌, Bool, true, false, ◌&&◌, ◌||◌, eqb, leb, ltb}
use Rattle.std.proofs.Common.{is_some, Option, Some, None, List, [], ◌∷◌, ◌++◌, Contains, refl, ap, sym, ◌∙◌, arith}
use Rattle.std.proofs.Common.{inl, inr}
use Rattle.std.specs.List.{filter, find, list_any}
use Rattle.std.proofs.lemmas.Bool.{eqb-true}
use Rattle.std.proofs.lemmas.Bool.Decides.{nat_tests}
use Rattle.iofd_laws.proofs.FreeFrames.{some_in}
use Rattle.iofd_promises.proofs.Rows.{contains, within}
use Rattle.iofd_promises.specs.Holding.{APageTable, AnAccessPin, Covers, IsHeldIn, IsPageOf, KeepsPinned}
use Rattle.iofd_rows.proofs.Bools.{and_true, both_true}
use Rattle.iofd_rows.proofs.Each.{IsIn, in_found, in_kept, of_any, of_each}
use Rattle.iofd_rows.proofs.ListTests.{or_left, or_right}
use Rattle.iofd_rows.proofs.Named.{file_is, id_is, kind_only, object_of_kind, some_passes}
use Rattle.iofd_rows.proofs.ObjectPages.{in_pinned, is_listed}
use Rattle.iofd_rows.proofs.PageLists.{at_page, same_page}
use Rattle.iofd_rows.specs.Ids.{have_own_ids}
use Rattle.iofd_rows.specs.Pinned.{ArePinned, has_object}
use Rattle.iofd_runs.proofs.Accessed.{of_areas}
use Rattle.iofd_runs.proofs.HeldAccess.{page_of_object}
use Rattle.iofd_runs.proofs.Moves.{PinsMove, SamePins, Settled}
use Rattle.iofd_runs.proofs.PagesToPin.{pages_in}
use Rattle.iofd_steps.specs.After.{settle}
use Rattle.iofd_words.specs.Objects.{has_hwpt, is_access_to, is_hwpt_over, kind_of}
use Rattle.iofd_words.specs.Pins.{ObjectPage, covers_page, is_accessed, is_page, is_pin_in, is_translated, page_of_pin}
use Rattle.iofd_words.specs.Pins.{pinned_frame, span_of_page}
use Rattle.iofd_words.specs.Span.{lies_in}
use Rattle.iofd_words.specs.World.{World}
use Rattle.iofd_words.specs.declared.event.Event.{Event}
use Rattle.iofd_words.specs.declared.numbers.FileNo.{FileNo}
use Rattle.iofd_words.specs.declared.numbers.FrameNo.{FrameNo}
use Rattle.iofd_words.specs.declared.numbers.ObjId.{ObjId}
use Rattle.iofd_words.specs.declared.rows.AccessPin.{AccessPin}
use Rattle.iofd_words.specs.declared.rows.Area.{Area}
use Rattle.iofd_words.specs.declared.rows.Object.{Object}
use Rattle.iofd_words.specs.declared.rows.ObjectKind.{ObjectKind}
use Rattle.iofd_words.specs.declared.rows.ObjectKind.TheVariants as kind
use Rattle.iofd_words.specs.declared.rows.Pin.{Pin}
use Rattle.iofd_words.specs.declared.width.Width.{Width}

itself : (n : ℕ) → eqb n n ≡ true
itself n = grind (arith, nat_tests)

-- ---- a pin of an address space

-- the ioas that an attached access object has
attached_to : (k : ObjectKind) (ioas : ObjId) → is_access_to ioas k ≡ true → k ≡ kind.Access (Some ioas)
attached_to kind.Ioas ioas is = cc
attached_to (kind.Hwpt over width automatic) ioas is = cc
attached_to (kind.Device device) ioas is = cc
attached_to (kind.Access None) ioas is = cc
attached_to (kind.Access (Some own)) ioas is = ap (λ (i : ObjId). kind.Access (Some i)) (id_is own ioas is)

pub held_in : (w : World) (pin : AccessPin) (ioas : ObjId) → IsIn w.access_pins pin
    → kind_of w.objects pin.file pin.access ≡ Some (kind.Access (Some ioas)) → IsHeldIn w pin ioas
held_in w pin ioas among is =
    let (x, first, there, of_file, of_id, of_kind) = object_of_kind w.objects pin.file pin.access _ is in
    record {
      there = contains w.access_pins pin among;
      access = x;
      holds = contains w.objects x there;
      access_file = of_file;
      access_id = of_id;
      attached = of_kind;
    }

-- the pin is one of the area's address space, and the page lies in it
pub covers_it : (w : World) (pin : AccessPin) (area : Area) (index : ℕ) → IsIn w.access_pins pin
    → covers_page w.objects index pin area ≡ true → Covers w pin area index
covers_it w pin area index among covers =
    let parts = and_true (is_pin_in w.objects pin area) (lies_in (span_of_page area index) pin.span) covers in
    let own = and_true (eqb area.file.0 pin.file.0) _ parts.0 in
    let (k, found, to) = some_passes (is_access_to area.ioas) (kind_of w.objects pin.file pin.access) own.1 in
    let ends = inside pin.span.first pin.span.last (area.span.first + 4096 * index) parts.1 in
    record {
      of_file = sym (file_is area.file pin.file own.0);
      held = held_in w pin area.ioas among (found ∙ ap Some (attached_to k area.ioas to));
      first = ends.0;
      last = ends.1;
    }
  where
    inside : (first last start : ℕ) → (leb first start && leb (start + 4096 - 1) last) ≡ true
        → (first ≤ start) × (start + 4095 ≤ last)
    inside first last start lies =
        let parts = and_true (leb first start) (leb (start + 4096 - 1) last) lies in
        let low : first ≤ start = let is = parts.0 in search (is, arith, nat_tests) in
        let high : start + 4096 - 1 ≤ last = let is = parts.1 in search (is, arith, nat_tests) in
        (low, omega (arith, high))

covered_by : (w : World) (pin : AccessPin) (area : Area) (index : ℕ) → have_own_ids w.objects ≡ true
    → Covers w pin area index → covers_page w.objects index pin area ≡ true
covered_by w pin area index own covers =
    let held = covers.held in
    let found : kind_of w.objects pin.file pin.access ≡ Some (kind.Access (Some area.ioas)) =
    rw (← held.access_file, ← held.access_id) (kind_only w.objects held.access own
    (within w.objects held.access held.holds) ∙ ap Some held.attached) in
    let to : elim (kind_of w.objects pin.file pin.access) as (λ _. Bool)
    [ Some k ↦ is_access_to area.ioas k | None ↦ false ] ≡ true =
    ap (λ (o : Option ObjectKind). elim o as (λ _. Bool) [ Some k ↦ is_access_to area.ioas k | None ↦ false ]) found
    ∙ itself area.ioas.0 in
    let files : eqb area.file.0 pin.file.0 ≡ true =
    ap (λ (f : FileNo). eqb area.file.0 f.0) covers.of_file ∙ itself area.file.0 in
    both_true _ _ (both_true _ _ files to)
    (inside pin.span.first pin.span.last (area.span.first + 4096 * index) covers.first covers.last)
  where
    inside : (first last start : ℕ) → first ≤ start → start + 4095 ≤ last
        → (leb first start && leb (start + 4096 - 1) last) ≡ true
    inside first last start low high =
        let end : start + 4096 - 1 ≤ last = omega (arith, high) in
        both_true (leb first start) (leb (start + 4096 - 1) last) (search (low, arith, nat_tests))
        (search (end, arith, nat_tests))

-- ---- a page table

over_it : (k : ObjectKind) (ioas : ObjId) → is_hwpt_over ioas k ≡ true
    → (width : Width) × (automatic : Bool) × (k ≡ kind.Hwpt ioas width automatic)
over_it kind.Ioas ioas is = cc
over_it (kind.Hwpt over width automatic) ioas is =
    (width, automatic, ap (λ (i : ObjId). let k : ObjectKind = kind.Hwpt i width automatic in k) (id_is over ioas is))
over_it (kind.Device device) ioas is = cc
over_it (kind.Access attached) ioas is = cc

has_table : (w : World) (table : Object) (area : Area) (width : Width) (automatic : Bool) → IsIn w.objects table
    → table.file ≡ area.file → table.kind ≡ kind.Hwpt area.ioas width automatic
    → has_hwpt w.objects area.file area.ioas ≡ true
has_table w table area width automatic among of_file is =
    of_any (λ (o : Object). eqb o.file.0 area.file.0 && is_hwpt_over area.ioas o.kind) w.objects table among
    (both_true _ _ (ap (λ (f : FileNo). eqb f.0 area.file.0) of_file ∙ itself area.file.0)
    (ap (is_hwpt_over area.ioas) is ∙ itself area.ioas.0))

-- ---- the row of a page's pin

pub pin_row : (pins : List Pin) (page : ObjectPage) → is_some (pinned_frame pins page) ≡ true
    → (pin : Pin) × IsIn pins pin × (page_of_pin pin ≡ page)
pin_row pins page some = by_found (find (λ pin. is_page (page_of_pin pin) page) pins) refl some
  where
    by_found : (o : Option Pin) → find (λ pin. is_page (page_of_pin pin) page) pins ≡ o
        → is_some (elim o as (λ _. Option FrameNo) [ Some pin ↦ Some pin.frame | None ↦ None ]) ≡ true
        → (pin : Pin) × IsIn pins pin × (page_of_pin pin ≡ page)
    by_found None found some = cc
    by_found (Some pin) found some =
        let (among, passes) = in_found (λ pin. is_page (page_of_pin pin) page) pins pin found in
        (pin, among, same_page (page_of_pin pin) page passes)

-- ---- what keeps a page pinned

module _ (at : ℕ) (w : World) (p : ArePinned at w) (own : have_own_ids w.objects ≡ true) where
  listed_of : (area : Area) (memory index : ℕ) → IsPageOf w area memory index
      → is_listed w.memory (record { memory = memory; index = index }) ≡ true
  listed_of area memory index of =
      rw (← of.over) (page_of_object w.memory area index
      (of_each (has_object w.memory) w.areas area p.sizes (within w.areas area of.there)) of.within)

  pub keeps_page : (memory index : ℕ) → KeepsPinned w memory index
      → list_any (is_page (record { memory = memory; index = index })) (pages_in w) ≡ true
  keeps_page memory index (AnAccessPin pin area of covers) =
      let page : ObjectPage = record { memory = memory; index = index } in
      in_pinned w.objects w.areas w.memory w.access_pins page
      ∙ both_true _ _ (listed_of area memory index of)
      (or_right (is_translated w.objects w.areas memory) _
      (of_any (λ q. list_any (λ (a : Area). eqb a.memory memory && covers_page w.objects index q a) w.areas)
      w.access_pins pin (within w.access_pins pin covers.held.there)
      (of_any (λ (a : Area). eqb a.memory memory && covers_page w.objects index pin a) w.areas area
      (within w.areas area of.there)
      (both_true _ _ (ap (λ (n : ℕ). eqb n memory) of.over ∙ itself memory)
      (covered_by w pin area index own covers)))))
  keeps_page memory index (APageTable table area width automatic of there of_file is) =
      let page : ObjectPage = record { memory = memory; index = index } in
      in_pinned w.objects w.areas w.memory w.access_pins page
      ∙ both_true _ _ (listed_of area memory index of)
      (or_left _ (is_accessed w.objects w.areas w.access_pins page)
      (of_any (λ (a : Area). eqb a.memory memory && has_hwpt w.objects a.file a.ioas) w.areas area
      (within w.areas area of.there)
      (both_true _ _ (ap (λ (n : ℕ). eqb n memory) of.over ∙ itself memory)
      (has_table w table area width automatic (within w.objects table there) of_file is))))

  -- so it has a pin
  pub has_pin : (memory index : ℕ) → KeepsPinned w memory index
      → (pin : Pin) × Contains w.pins pin × (pin.memory ≡ memory) × (pin.index ≡ index)
  has_pin memory index keeps =
      let page : ObjectPage = record { memory = memory; index = index } in
      let (pin, among, same) = pin_row w.pins page
      (at_page (λ q. is_some (pinned_frame w.pins q)) (pages_in w) page p.pinned (keeps_page memory index keeps)) in (
        pin,
        contains w.pins pin among,
        ap (λ (q : ObjectPage). q.memory) same,
        ap (λ (q : ObjectPage). q.index) same,
      )

  -- a page of an area's memory object is one of the area
  of_area : (page : ObjectPage) (area : Area) → is_listed w.memory page ≡ true → IsIn w.areas area
      → eqb area.memory page.memory ≡ true → IsPageOf w area page.memory page.index
  of_area page area listed among same =
      record {
        there = contains w.areas area among;
        over = eqb-true area.memory page.memory same;
        within = below area.span.first area.span.last
            (of_areas w.memory w.areas page p.numbers p.sizes listed area among same);
      }
    where
      below : (first last : ℕ) → ltb page.index ((last + 1 - first) / 4096) ≡ true
          → first + 4096 * page.index ≤ last
      below first last is =
          let less : page.index < (last + 1 - first) / 4096 = search (is, arith, nat_tests) in
          omega (arith, less)

  keeper : (page : ObjectPage) → is_listed w.memory page ≡ true → (t : Bool)
      → is_translated w.objects w.areas page.memory ≡ t
      → (t || is_accessed w.objects w.areas w.access_pins page) ≡ true → KeepsPinned w page.memory page.index
  keeper page listed true translated is =
      let (area, among, both) = some_in (λ (a : Area). eqb a.memory page.memory
      && has_hwpt w.objects a.file a.ioas) w.areas translated in
      let parts = and_true (eqb area.memory page.memory) (has_hwpt w.objects area.file area.ioas) both in
      let (table, there, names) = some_in (λ (o : Object). eqb o.file.0 area.file.0
      && is_hwpt_over area.ioas o.kind) w.objects parts.1 in
      let names_of = and_true (eqb table.file.0 area.file.0) (is_hwpt_over area.ioas table.kind) names in
      let (width, automatic, same) = over_it table.kind area.ioas names_of.1 in
      APageTable table area width automatic (of_area page area listed among parts.0) (contains w.objects table there)
      (file_is table.file area.file names_of.0) same
  keeper page listed false translated is =
      let (pin, among, some) = some_in (λ (q : AccessPin). list_any (λ (a : Area). eqb a.memory page.memory
      && covers_page w.objects page.index q a) w.areas) w.access_pins is in
      let (area, there, both) = some_in (λ (a : Area). eqb a.memory page.memory
      && covers_page w.objects page.index pin a) w.areas some in
      let parts = and_true (eqb area.memory page.memory) (covers_page w.objects page.index pin area) both in
      AnAccessPin pin area (of_area page area listed there parts.0) (covers_it w pin area page.index among parts.1)

  -- and what has a pin is kept
  pub pin_is_kept : (pin : Pin) → IsIn w.pins pin → KeepsPinned w pin.memory pin.index
  pin_is_kept pin among =
      let page = page_of_pin pin in
      let in_pages = of_each (λ (q : Pin). list_any (is_page (page_of_pin q)) (pages_in w)) w.pins pin p.only among in
      let parts = and_true (is_listed w.memory page) _
      (sym (in_pinned w.objects w.areas w.memory w.access_pins page) ∙ in_pages) in
      keeper page parts.0 (is_translated w.objects w.areas page.memory) refl parts.1

-- ---- a step

-- the row of a page that is to be pinned after the step stays
pub row_stays : {A : Type 0} (at : ℕ) (w : World) (e : Event A) (new : World) (pin : Pin) → PinsMove at w e new
    → IsIn w.pins pin → list_any (is_page (page_of_pin pin)) (pages_in new) ≡ true → IsIn new.pins pin
unfolding settle
row_stays at w e new pin (SamePins is alike) among kept = rw is among
row_stays at w e new pin (Settled is present) among kept =
    rw is (in_more (filter (λ (q : Pin). list_any (is_page (page_of_pin q)) (pages_in new)) w.pins) _
    (in_kept (λ (q : Pin). list_any (is_page (page_of_pin q)) (pages_in new)) w.pins pin among kept))
  where
    in_more : (xs ys : List Pin) → IsIn xs pin → IsIn (xs ++ ys) pin
    in_more [] ys first = absurd first
    in_more (x ∷ xs) ys (inl same) = inl same
    in_more (x ∷ xs) ys (inr later) = inr (in_more xs ys later)
