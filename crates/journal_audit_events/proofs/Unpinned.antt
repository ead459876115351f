-- What is asked for where an access pin goes: the memory objects of the areas that it meets.
use Rattle.std.proofs.Common.{◌≡◌, ℕ, Bool, true, false, ◌&&◌, ◌||◌, eqb, cond, not, is_none, Option, Some, None, List, []}
use Rattle.std.proofs.Common.{◌∷◌, refl, sym, ap, subst, ◌∙◌, arith}
use Rattle.std.proofs.lemmas.Bool.{eqb-true}
use Rattle.std.proofs.lemmas.Bool.Decides.{nat_tests}
use Rattle.std.specs.List.{list_all, list_any}
use Rattle.iofd_rows.proofs.Bools.{and_true, both_true, clash}
use Rattle.iofd_rows.proofs.Each.{of_any}
use Rattle.iofd_rows.proofs.ListTests.{or_left, or_right}
use Rattle.iofd_rows.proofs.Named.{file_is, id_is}
use Rattle.iofd_rows.proofs.ObjectPages.{is_listed}
use Rattle.iofd_runs.proofs.AccessPins.{is_accessed_by}
use Rattle.iofd_runs.proofs.Accessed.{covered_meets, of_areas, some_in}
use Rattle.iofd_runs.proofs.Runs.{tests_false}
use Rattle.iofd_words.specs.Accesses.{pin_of, pinned_span}
use Rattle.iofd_words.specs.Areas.{is_of}
use Rattle.iofd_words.specs.Bounds.{Bounds}
use Rattle.iofd_refusals.specs.Checks.{access_unpin_checks}
use Rattle.iofd_words.specs.FirstTrue.{first_true}
use Rattle.iofd_words.specs.Objects.{access_ioas, access_ioas_of, is_access_to, kind_of}
use Rattle.iofd_words.specs.Pins.{ObjectPage, covers_page, is_accessed, is_equal, is_pin_in, is_pinned, page_of_pin}
use Rattle.iofd_words.specs.Pins.{without_pin}
use Rattle.iofd_words.specs.Span.{meets}
use Rattle.iofd_words.specs.View.{View, view}
use Rattle.iofd_words.specs.World.{World}
use Rattle.iofd_words.specs.declared.event.PinRequest.{PinRequest}
use Rattle.iofd_words.specs.declared.numbers.FileNo.{FileNo}
use Rattle.iofd_words.specs.declared.numbers.ObjId.{ObjId}
use Rattle.iofd_words.specs.declared.rows.AccessPin.{AccessPin}
use Rattle.iofd_words.specs.declared.rows.Area.{Area}
use Rattle.iofd_words.specs.declared.rows.Object.{Object}
use Rattle.iofd_words.specs.declared.rows.ObjectKind.{ObjectKind}
use Rattle.iofd_words.specs.declared.rows.Pin.{Pin}
use Rattle.journal_audit_world.specs.Keys.{has_number}
use Rattle.journal_audit_world.proofs.Asked.{still_pinned}
use Rattle.journal_audit_world.specs.Kept.{IsKept}
use Rattle.journal_audit_world.specs.Over.{is_over}

-- ---- it is attached

unattached : (v : View) (file : FileNo) (id : ObjId) (request : PinRequest) → access_ioas_of v.objects file id ≡ None
    → first_true (access_unpin_checks v file id request) ≡ None → ⊥
unfolding access_unpin_checks
unattached v file id request attached none =
    let rows = access_unpin_checks v file id request in
    clash (is_none (access_ioas_of v.objects file id)) (tests_false rows 2 none) (ap (λ o. is_none o) attached)

pub never_unattached : (v w : World) (file : FileNo) (id : ObjId) (request : PinRequest) (objects : List Object)
    (found : Option ObjId) → v ≡ w → first_true (access_unpin_checks (view w) file id request) ≡ None
    → objects ≡ v.objects → found ≡ access_ioas_of objects file id → found ≡ None → ⊥
never_unattached v w file id request objects found same none o is missing =
    unattached (view w) file id request
    (ap (λ (x : World). access_ioas_of x.objects file id) (sym same)
    ∙ ap (λ (l : List Object). access_ioas_of l file id) (sym o) ∙ sym is ∙ missing) none

-- ---- pages that it covers

-- what some pin passes, one that equals the one that goes passes, or one that is left
one_less : (p : AccessPin → Bool) (pin : AccessPin) (pins : List AccessPin)
    → ((q : AccessPin) → is_equal pin q ≡ true → p q ≡ true → p pin ≡ true) → list_any p pins ≡ true
    → (p pin || list_any p (without_pin pin pins)) ≡ true
one_less p pin [] alike some = or_right (p pin) false some
one_less p pin (q ∷ pins) alike some = by_tests (is_equal pin q) (p q) refl refl some (one_less p pin pins alike)
  where
    by_tests : (e b : Bool) → is_equal pin q ≡ e → p q ≡ b → (b || list_any p pins) ≡ true
        → (list_any p pins ≡ true → (p pin || list_any p (without_pin pin pins)) ≡ true)
        → (p pin || list_any p (cond e pins (q ∷ without_pin pin pins))) ≡ true
    by_tests true true same passes some later = or_left _ _ (alike q same passes)
    by_tests true false same fails some later = or_right (p pin) _ some
    by_tests false true other passes some later = or_right (p pin) _ (or_left _ _ passes)
    by_tests false false other fails some later = rw fails (later some)

-- equal pins cover the same pages
equal_cover : (objects : List Object) (areas : List Area) (page : ObjectPage) (pin q : AccessPin)
    → is_equal pin q ≡ true → is_accessed_by objects areas q page ≡ true → is_accessed_by objects areas pin page ≡ true
equal_cover objects areas page pin q same covers =
    let whole = and_true (eqb q.file.0 pin.file.0 && eqb q.access.0 pin.access.0
    && eqb pin.span.first q.span.first && eqb pin.span.last q.span.last) (cond pin.write q.write (not q.write)) same in
    let ends = and_true (eqb q.file.0 pin.file.0 && eqb q.access.0 pin.access.0
    && eqb pin.span.first q.span.first) (eqb pin.span.last q.span.last) whole.0 in
    let starts = and_true (eqb q.file.0 pin.file.0 && eqb q.access.0 pin.access.0) (eqb pin.span.first q.span.first)
    ends.0 in
    let names = and_true (eqb q.file.0 pin.file.0) (eqb q.access.0 pin.access.0) starts.0 in
    let span : pin.span ≡ q.span =
    ap (λ n. let b : Bounds = record { first = n; last = pin.span.last } in b)
    (eqb-true pin.span.first q.span.first starts.1)
    ∙ ap (λ n. let b : Bounds = record { first = q.span.first; last = n } in b)
    (eqb-true pin.span.last q.span.last ends.1) in
    ap (λ (f : FileNo). covered_by f pin.access pin.span) (sym (file_is q.file pin.file names.0))
    ∙ ap (λ (a : ObjId). covered_by q.file a pin.span) (sym (id_is q.access pin.access names.1))
    ∙ ap (λ (b : Bounds). covered_by q.file q.access b) span
    ∙ covers
  where
    covered_by : FileNo → ObjId → Bounds → Bool
    covered_by file access span =
        is_accessed_by objects areas (record { file = file; access = access; span = span; write = true }) page

-- an area in which it covers a page is of its address space
in_space : (o : Option ObjectKind) (file own : FileNo) (ioas over : ObjId)
    → elim o as (λ _. Option ObjId) [ Some k ↦ access_ioas k | None ↦ None ] ≡ Some ioas
    → (eqb file.0 own.0 && elim o as (λ _. Bool) [ Some k ↦ is_access_to over k | None ↦ false ]) ≡ true
    → (eqb file.0 own.0 && eqb over.0 ioas.0) ≡ true
in_space None file own ioas over attached is = cc
in_space (Some k) file own ioas over attached is = by_space (access_ioas k) attached is
  where
    by_space : (a : Option ObjId) → a ≡ Some ioas
        → (eqb file.0 own.0 && elim a as (λ _. Bool) [ Some x ↦ eqb x.0 over.0 | None ↦ false ]) ≡ true
        → (eqb file.0 own.0 && eqb over.0 ioas.0) ≡ true
    by_space None attached is = cc
    by_space (Some x) attached is =
        let same : x ≡ ioas = cc in
        let parts = and_true (eqb file.0 own.0) (eqb x.0 over.0) is in
        both_true _ _ parts.0 (flipped x.0 over.0 ioas.0 (ap (λ (i : ObjId). i.0) same) parts.1)
      where
        flipped : (a b c : ℕ) → a ≡ c → eqb a b ≡ true → eqb b c ≡ true
        flipped a b c same is = grind (arith, nat_tests)

module _ (at : ℕ) (v w : World) (file : FileNo) (id ioas : ObjId) (request : PinRequest) (seen : List Area) (last : ℕ)
    (objects held : List Object) (areas : List Area) (left access_pins : List AccessPin) (pins : List Pin)
    (found : Option ObjId) (none asked : List ℕ) where
  pub unpin_pinned : v ≡ w → IsKept at w → held ≡ v.objects → found ≡ access_ioas_of held file id → found ≡ Some ioas
      → none ≡ [] → last ≡ (pinned_span request).last → seen ≡ v.areas
      → ((n : ℕ) → has_number asked n ≡ (has_number none n || is_over (λ (area : Area). is_of file ioas area
      && meets area.span (record { first = request.iova.0; last = last })) seen n))
      → left ≡ without_pin (pin_of file id request) v.access_pins
      → objects ≡ v.objects → areas ≡ v.areas → access_pins ≡ left → pins ≡ v.pins
      → list_all (λ pin. has_number asked pin.memory || is_pinned objects areas access_pins (page_of_pin pin)) pins
      ≡ true
  unpin_pinned same kept h is some empty ends seen_is gathered left_is o r p ps =
      let kept_v = subst (λ (x : World). IsKept at x) (sym same) kept in
      let attached : access_ioas_of v.objects file id ≡ Some ioas =
      ap (λ (l : List Object). access_ioas_of l file id) (sym h) ∙ sym is ∙ some in
      let over : (n : ℕ) → is_over (λ (area : Area). is_of file ioas area && meets area.span (pinned_span request))
      v.areas n ≡ true → has_number asked n ≡ true = λ n one. gathered n ∙ rw (empty, ends, seen_is) one in
      rw (o, r, p ∙ left_is, ps)
      (still_pinned v v.objects v.areas (without_pin (pin_of file id request) v.access_pins) asked
      (λ n translated. or_right (has_number asked n) _ translated)
      (λ page listed accessed. by_pin page
      (λ covers. over page.memory (met page kept_v listed attached covers))
      (one_less (λ q. is_accessed_by v.objects v.areas q page) (pin_of file id request) v.access_pins
      (λ q equal covers. equal_cover v.objects v.areas page (pin_of file id request) q equal covers) accessed))
      kept_v.pins.only)
    where
      -- an area in which it covers a page meets it
      met : (page : ObjectPage) → IsKept at v → is_listed v.memory page ≡ true
          → access_ioas_of v.objects file id ≡ Some ioas
          → is_accessed_by v.objects v.areas (pin_of file id request) page ≡ true
          → is_over (λ (area : Area). is_of file ioas area && meets area.span (pinned_span request)) v.areas page.memory
          ≡ true
      met page kept listed attached covers =
          let (area, within, both) = some_in (λ (area : Area). eqb area.memory page.memory
          && covers_page v.objects page.index (pin_of file id request) area) v.areas covers in
          let parts = and_true (eqb area.memory page.memory)
          (covers_page v.objects page.index (pin_of file id request) area) both in
          let of = of_areas v.memory v.areas page kept.pins.numbers kept.pins.sizes listed area within parts.0 in
          let meet = and_true (is_pin_in v.objects (pin_of file id request) area) (meets area.span (pinned_span request))
          (covered_meets v.objects page.index (pin_of file id request) area of parts.1) in
          of_any (λ (area : Area). (is_of file ioas area && meets area.span (pinned_span request))
          && eqb area.memory page.memory) v.areas area within
          (both_true _ _ (both_true _ _
          (in_space (kind_of v.objects file id) area.file file ioas area.ioas attached meet.0) meet.1) parts.0)

      by_pin : (page : ObjectPage)
          → (is_accessed_by v.objects v.areas (pin_of file id request) page ≡ true → has_number asked page.memory ≡ true)
          → (is_accessed_by v.objects v.areas (pin_of file id request) page
          || is_accessed v.objects v.areas (without_pin (pin_of file id request) v.access_pins) page) ≡ true
          → (has_number asked page.memory
          || is_accessed v.objects v.areas (without_pin (pin_of file id request) v.access_pins) page) ≡ true
      by_pin page asks some = by_test (is_accessed_by v.objects v.areas (pin_of file id request) page) refl asks some
        where
          by_test : (b : Bool) → is_accessed_by v.objects v.areas (pin_of file id request) page ≡ b
              → (is_accessed_by v.objects v.areas (pin_of file id request) page ≡ true
              → has_number asked page.memory ≡ true)
              → (is_accessed_by v.objects v.areas (pin_of file id request) page
              || is_accessed v.objects v.areas (without_pin (pin_of file id request) v.access_pins) page) ≡ true
              → (has_number asked page.memory
              || is_accessed v.objects v.areas (without_pin (pin_of file id request) v.access_pins) page) ≡ true
          by_test true is asks some = or_left _ _ (asks is)
          by_test false is asks some =
              let rest : is_accessed v.objects v.areas (without_pin (pin_of file id request) v.access_pins) page ≡ true =
              rw is at some in
              or_right (has_number asked page.memory) _ rest
