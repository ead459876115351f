-- Access pins, and the pages that they cover. An access object that holds one is attached, and areas of its address
-- space lie under the whole of it: so no area can come to lie there, and where none of these goes the same pages are
-- covered.
use Rattle.std.proofs.Common.{◌≡◌, ℕ, ◌+◌, ◌*◌, ◌-◌, ◌/◌, ◌<◌, ◌≤◌, Bool, true, false, ◌&&◌, ◌||◌, not, eqb, leb}
use Rattle.std.proofs.Common.{ltb, Option, Some, None, List, [], ◌∷◌, map, refl, ap, sym, subst, ◌∙◌, inl, inr, arith}
use Rattle.std.specs.List.{filter, list_all, list_any}
use Rattle.std.proofs.lemmas.Bool.Decides.{nat_tests}
use Rattle.iofd_rows.proofs.Bools.{and_true, both_true, clash}
use Rattle.iofd_rows.proofs.Each.{IsIn, of_any, of_each, in_kept}
use Rattle.iofd_rows.proofs.ListTests.{alike, any-filter, any_weaker, false_else, or_right, none_stronger}
use Rattle.iofd_rows.proofs.PageLists.{any-with_area}
use Rattle.iofd_rows.proofs.PageLists.{in_pages}
use Rattle.iofd_rows.specs.AccessPins.{AreHeld, IsHeld, is_under}
use Rattle.iofd_rows.specs.Pinned.{has_object, have_own_numbers}
use Rattle.iofd_runs.proofs.SamePages.{covered}
use Rattle.iofd_rows.proofs.ObjectPages.{is_listed}
use Rattle.iofd_rows.proofs.Unusable.{none_of}
use Rattle.iofd_words.specs.Areas.{areas_meet, areas_of, is_of, with_area, with_phase}
use Rattle.iofd_words.specs.Bounds.{Bounds}
use Rattle.iofd_words.specs.Objects.{is_access_to, kind_of}
use Rattle.iofd_words.specs.Pins.{ObjectPage, covers_page, has_pin_in, is_accessed, is_pin_in, span_of_page}
use Rattle.iofd_words.specs.Span.{holds, lies_in, meets, size_of}
use Rattle.iofd_words.specs.declared.numbers.FileNo.{FileNo}
use Rattle.iofd_words.specs.declared.numbers.ObjId.{ObjId}
use Rattle.iofd_words.specs.declared.rows.AccessPin.{AccessPin}
use Rattle.iofd_words.specs.declared.rows.Area.{Area}
use Rattle.iofd_words.specs.declared.rows.MemoryObject.{MemoryObject}
use Rattle.iofd_words.specs.declared.rows.Object.{Object}
use Rattle.iofd_words.specs.declared.rows.ObjectKind.{ObjectKind}
use Rattle.iofd_words.specs.declared.rows.ObjectKind.TheVariants as kind
use Rattle.iofd_words.specs.declared.rows.Phase.{Phase}

-- ---- who holds a pin, and what lies under it

-- said of each pin
abbrev pub EachHeld : List Object → List Area → List AccessPin → Type 0
EachHeld objects areas pins = (pin : AccessPin) → IsIn pins pin → IsHeld objects areas pin

pub each_held : (objects : List Object) (areas : List Area) (pins : List AccessPin) → AreHeld objects areas pins
    → EachHeld objects areas pins
each_held objects areas [] held pin within = absurd within
each_held objects areas (p ∷ pins) held pin (inl same) = subst (IsHeld objects areas) same held.0
each_held objects areas (p ∷ pins) held pin (inr later) = each_held objects areas pins held.1 pin later

pub are_held : (objects : List Object) (areas : List Area) (pins : List AccessPin) → EachHeld objects areas pins
    → AreHeld objects areas pins
are_held objects areas [] each = tt
are_held objects areas (p ∷ pins) each =
    (each p (inl refl), are_held objects areas pins (λ pin later. each pin (inr later)))

-- who holds a pin stays attached, and so does the address space
abbrev pub HoldersStay : List Object → List Object → List AccessPin → Type 0
HoldersStay objects left pins = (pin : AccessPin) → IsIn pins pin → (ioas : ObjId)
    → kind_of objects pin.file pin.access ≡ Some (kind.Access (Some ioas))
    → kind_of objects pin.file ioas ≡ Some kind.Ioas
    → (kind_of left pin.file pin.access ≡ Some (kind.Access (Some ioas)))
    × (kind_of left pin.file ioas ≡ Some kind.Ioas)

-- ---- an area and a pin of its address space

pub some_in : {X : Type 0} (p : X → Bool) (xs : List X) → list_any p xs ≡ true → (x : X) × IsIn xs x × (p x ≡ true)
some_in p [] some = cc
some_in p (x ∷ xs) some = by_test (p x) refl some (some_in p xs)
  where
    by_test : (b : Bool) → p x ≡ b → (b || list_any p xs) ≡ true
        → (list_any p xs ≡ true → (y : _) × IsIn xs y × (p y ≡ true))
        → (y : _) × IsIn (x ∷ xs) y × (p y ≡ true)
    by_test true is some later = (x, inl refl, is)
    by_test false is some later = let (y, within, passes) = later some in (y, inr within, passes)

-- a test of rows, each of which is kept if it passes, finds as much among those that are kept
any_kept_too : {X : Type 0} (p q : X → Bool) (xs : List X) → ((x : X) → IsIn xs x → p x ≡ true → q x ≡ true)
    → list_any p (filter q xs) ≡ list_any p xs
any_kept_too p q xs keeps =
    alike _ _
    (λ some. any_weaker (λ x. q x && p x) p xs (λ x both. (and_true (q x) (p x) both).1)
    (sym (any-filter p q xs) ∙ some))
    (λ some. let (x, within, passes) = some_in p xs some in
    any-filter p q xs ∙ of_any (λ x. q x && p x) xs x within (both_true _ _ (keeps x within passes) passes))

-- a page that an area has lies in its span
page_in_span : (area : Area) (index : ℕ) → ltb index (size_of area.span / 4096) ≡ true
    → area.span.first ≤ area.span.first + 4096 * index
    × (area.span.first + 4096 * index ≤ area.span.last)
page_in_span area index below = by_size area.span.first area.span.last refl below
  where
    by_size : (first last : ℕ) → size_of area.span ≡ last + 1 - first → ltb index (size_of area.span / 4096) ≡ true
        → first ≤ first + 4096 * index × (first + 4096 * index ≤ last)
    by_size first last size below =
        let less : index < size_of area.span / 4096 = search (below, arith, nat_tests) in
        (omega arith, omega (arith, less, size))

-- where a pin covers a page that an area has, the two have an address in common: the page's first
pub covered_page : (objects : List Object) (index : ℕ) (pin : AccessPin) (area : Area)
    → ltb index (size_of area.span / 4096) ≡ true → covers_page objects index pin area ≡ true
    → (is_pin_in objects pin area ≡ true) × (holds area.span (area.span.first + 4096 * index) ≡ true)
    × (holds pin.span (area.span.first + 4096 * index) ≡ true)
covered_page objects index pin area below covers =
    let parts = and_true (is_pin_in objects pin area) (lies_in (span_of_page area index) pin.span) covers in
    let inside = page_in_span area index below in
    let lies = parts.1 in (
      parts.0,
      held area.span.first area.span.last _ inside.0 inside.1,
      first_held pin.span.first pin.span.last (area.span.first + 4096 * index) lies,
    )
  where
    held : (first last n : ℕ) → first ≤ n → n ≤ last → (leb first n && leb n last) ≡ true
    held first last n low high = search (low, high, arith, nat_tests)

    first_held : (first last n : ℕ) → (leb first n && leb (n + 4096 - 1) last) ≡ true
        → (leb first n && leb n last) ≡ true
    first_held first last n lies =
        let parts = and_true (leb first n) (leb (n + 4096 - 1) last) lies in
        let high : n + 4096 - 1 ≤ last = let is = parts.1 in search (is, arith, nat_tests) in
        let low = parts.0 in
        let below : n ≤ last = omega (arith, high) in
        search (low, below, arith, nat_tests)

-- spans with an address in common meet
meet_at : (a b : Bounds) (n : ℕ) → holds a n ≡ true → holds b n ≡ true → meets a b ≡ true
meet_at a b n first second = grind (arith, nat_tests)

-- so the pin meets the area
pub covered_meets : (objects : List Object) (index : ℕ) (pin : AccessPin) (area : Area)
    → ltb index (size_of area.span / 4096) ≡ true → covers_page objects index pin area ≡ true
    → (is_pin_in objects pin area && meets area.span pin.span) ≡ true
covered_meets objects index pin area below covers =
    let (of, here, there) = covered_page objects index pin area below covers in
    both_true _ _ of (meet_at area.span pin.span (area.span.first + 4096 * index) here there)

-- ---- the same pages are covered

-- the page is covered in this area, by this pin
abbrev pub covers_here : List Object → ObjectPage → AccessPin → Area → Bool
covers_here objects page pin area = eqb area.memory page.memory && covers_page objects page.index pin area

-- pin by pin
by_pins : (objects left : List Object) (areas others : List Area) (pins : List AccessPin) (page : ObjectPage)
    → ((pin : AccessPin) → IsIn pins pin → list_any (covers_here left page pin) others
    ≡ list_any (covers_here objects page pin) areas)
    → is_accessed left others pins page ≡ is_accessed objects areas pins page
by_pins objects left areas others [] page same = refl
by_pins objects left areas others (pin ∷ pins) page same =
    rw (same pin (inl refl), by_pins objects left areas others pins page (λ other later. same other (inr later))) refl

-- access objects that hold pins stay attached
pub accessed_objects : (objects left : List Object) (areas : List Area) (pins : List AccessPin) (page : ObjectPage)
    → HoldersStay objects left pins → EachHeld objects areas pins
    → is_accessed left areas pins page ≡ is_accessed objects areas pins page
accessed_objects objects left areas pins page stay held =
    by_pins objects left areas areas pins page (λ pin within.
    let is = held pin within in
    ap (λ (o : Option ObjectKind). list_any (λ (area : Area). eqb area.memory page.memory
    && ((eqb area.file.0 pin.file.0 && elim o [ Some k ↦ is_access_to area.ioas k | None ↦ false ])
    && lies_in (span_of_page area page.index) pin.span)) areas)
    ((stay pin within is.ioas is.attached is.space).0 ∙ sym is.attached))

-- areas have other phases
pub accessed_phases : (objects : List Object) (phase : Area → Phase) (areas : List Area) (pins : List AccessPin)
    (page : ObjectPage) → is_accessed objects (map (λ (a : Area). with_phase (phase a) a) areas) pins page
    ≡ is_accessed objects areas pins page
accessed_phases objects phase areas pins page =
    by_pins objects objects areas (map (λ (a : Area). with_phase (phase a) a) areas) pins page
    (λ pin within. mapped pin areas)
  where
    mapped : (pin : AccessPin) (areas : List Area)
        → list_any (covers_here objects page pin) (map (λ (a : Area). with_phase (phase a) a) areas)
        ≡ list_any (covers_here objects page pin) areas
    mapped pin [] = refl
    mapped pin (a ∷ areas) = ap (λ b. covers_here objects page pin a || b) (mapped pin areas)

-- the page is one of its memory object's, by the areas over that
abbrev pub IsOfAreas : List Area → ObjectPage → Type 0
IsOfAreas areas page = (area : Area) → IsIn areas area → eqb area.memory page.memory ≡ true
    → ltb page.index (size_of area.span / 4096) ≡ true

pub of_areas : (memory : List MemoryObject) (areas : List Area) (page : ObjectPage) → have_own_numbers memory ≡ true
    → list_all (has_object memory) areas ≡ true → is_listed memory page ≡ true → IsOfAreas areas page
of_areas memory areas page own sizes listed area within same =
    (and_true (eqb page.memory area.memory) (ltb page.index (size_of area.span / 4096))
    (sym (in_pages page area.memory (size_of area.span / 4096))
    ∙ covered memory area page own (of_each (has_object memory) areas area sizes within) listed same)).1

-- areas go that no pin meets
pub accessed_fewer : (objects : List Object) (goes : Area → Bool) (areas : List Area) (pins : List AccessPin)
    (page : ObjectPage) → IsOfAreas areas page
    → ((area : Area) → IsIn areas area → goes area ≡ true → has_pin_in objects pins area ≡ false)
    → is_accessed objects (filter (λ (a : Area). not (goes a)) areas) pins page ≡ is_accessed objects areas pins page
accessed_fewer objects goes areas pins page of free =
    by_pins objects objects areas (filter (λ (a : Area). not (goes a)) areas) pins page
    (λ pin among. any_kept_too (covers_here objects page pin) (λ (a : Area). not (goes a)) areas
    (λ area within covers. stays pin among area within covers (goes area) refl))
  where
    stays : (pin : AccessPin) → IsIn pins pin → (area : Area) → IsIn areas area
        → covers_here objects page pin area ≡ true → (b : Bool) → goes area ≡ b → not b ≡ true
    stays pin among area within covers false is = refl
    stays pin among area within covers true is =
        let parts = and_true (eqb area.memory page.memory) (covers_page objects page.index pin area) covers in
        let meets_it = covered_meets objects page.index pin area (of area within parts.0) parts.1 in
        absurd (clash _ (free area within is)
        (of_any (λ (p : AccessPin). is_pin_in objects p area && meets area.span p.span) pins pin among meets_it))

-- an area comes where none was: each pin has areas under it, so it covers no page of the new one
pub new_uncovered : (objects : List Object) (area : Area) (areas : List Area) (pins : List AccessPin)
    (page : ObjectPage) → EachHeld objects areas pins
    → (eqb area.memory page.memory ≡ true → ltb page.index (size_of area.span / 4096) ≡ true)
    → areas_meet area.span (areas_of areas area.file area.ioas) ≡ false
    → (pin : AccessPin) → IsIn pins pin → covers_here objects page pin area ≡ false
new_uncovered objects area areas pins page held of apart pin among =
    false_else (covers_here objects page pin area) never
  where
    never : covers_here objects page pin area ≡ true → ⊥
    never covers =
        let parts = and_true (eqb area.memory page.memory) (covers_page objects page.index pin area) covers in
        let (pinned, here, there) = covered_page objects page.index pin area (of parts.0) parts.1 in
        let is = held pin among in
        let own = and_true (eqb area.file.0 pin.file.0) _ pinned in
        let to : eqb is.ioas.0 area.ioas.0 ≡ true =
        ap (λ (o : Option ObjectKind). elim o [ Some k ↦ is_access_to area.ioas k | None ↦ false ])
        (sym is.attached) ∙ own.1 in
        let (other, within, under) = some_in (λ (a : Area). is_of pin.file is.ioas a
        && holds a.span (area.span.first + 4096 * page.index)) areas
        (is.under (area.span.first + 4096 * page.index) there) in
        let both = and_true (is_of pin.file is.ioas other) _ under in
        let of_space : is_of area.file area.ioas other ≡ true = same_space pin.file area.file is.ioas area.ioas other
        own.0 to both.0 in
        clash _ apart (of_any (λ (a : Area). meets a.span area.span) (areas_of areas area.file area.ioas) other
        (in_kept (is_of area.file area.ioas) areas other within of_space)
        (meet_at other.span area.span (area.span.first + 4096 * page.index) both.1 here))
      where
        same_space : (f g : FileNo) (i j : ObjId) (a : Area) → eqb g.0 f.0 ≡ true → eqb i.0 j.0 ≡ true
            → is_of f i a ≡ true → is_of g j a ≡ true
        same_space f g i j a files spaces of = grind (arith, nat_tests)

pub accessed_more : (objects : List Object) (area : Area) (areas : List Area) (pins : List AccessPin)
    (page : ObjectPage) → EachHeld objects areas pins
    → (eqb area.memory page.memory ≡ true → ltb page.index (size_of area.span / 4096) ≡ true)
    → areas_meet area.span (areas_of areas area.file area.ioas) ≡ false
    → is_accessed objects (with_area area areas) pins page ≡ is_accessed objects areas pins page
accessed_more objects area areas pins page held of apart =
    by_pins objects objects areas (with_area area areas) pins page (λ pin among.
    any-with_area (covers_here objects page pin) area areas
    ∙ ap (λ b. b || list_any (covers_here objects page pin) areas)
    (new_uncovered objects area areas pins page held of apart pin among))

-- ---- pins are held still

pub held_objects : (objects left : List Object) (areas : List Area) (pins : List AccessPin)
    → HoldersStay objects left pins → EachHeld objects areas pins → EachHeld left areas pins
held_objects objects left areas pins stay held pin among =
    let is = held pin among in
    let stays = stay pin among is.ioas is.attached is.space in
    record { ioas = is.ioas; attached = stays.0; space = stays.1; under = is.under }

pub held_phases : (objects : List Object) (phase : Area → Phase) (areas : List Area) (pins : List AccessPin)
    → EachHeld objects areas pins → EachHeld objects (map (λ (a : Area). with_phase (phase a) a) areas) pins
held_phases objects phase areas pins held pin among =
    let is = held pin among in
    record {
      ioas = is.ioas;
      attached = is.attached;
      space = is.space;
      under = λ n here. mapped pin.file is.ioas n areas ∙ is.under n here;
    }
  where
    mapped : (file : FileNo) (ioas : ObjId) (n : ℕ) (areas : List Area)
        → is_under (map (λ (a : Area). with_phase (phase a) a) areas) file ioas n ≡ is_under areas file ioas n
    mapped file ioas n [] = refl
    mapped file ioas n (a ∷ areas) = ap (λ b. (is_of file ioas a && holds a.span n) || b) (mapped file ioas n areas)

pub held_fewer : (objects : List Object) (goes : Area → Bool) (areas : List Area) (pins : List AccessPin)
    → ((area : Area) → IsIn areas area → goes area ≡ true → has_pin_in objects pins area ≡ false)
    → EachHeld objects areas pins → EachHeld objects (filter (λ (a : Area). not (goes a)) areas) pins
held_fewer objects goes areas pins free held pin among =
    let is = held pin among in
    record {
      ioas = is.ioas;
      attached = is.attached;
      space = is.space;
      under = λ n here.
          any_kept_too (λ (a : Area). is_of pin.file is.ioas a && holds a.span n) (λ (a : Area). not (goes a)) areas
          (λ area within both. stays pin among is.ioas is.attached n here area within both (goes area) refl)
          ∙ is.under n here;
    }
  where
    stays : (pin : AccessPin) → IsIn pins pin → (ioas : ObjId)
        → kind_of objects pin.file pin.access ≡ Some (kind.Access (Some ioas)) → (n : ℕ)
        → holds pin.span n ≡ true → (area : Area) → IsIn areas area
        → (is_of pin.file ioas area && holds area.span n) ≡ true → (b : Bool) → goes area ≡ b → not b ≡ true
    stays pin among ioas attached n here area within both false is = refl
    stays pin among ioas attached n here area within both true is =
        let parts = and_true (is_of pin.file ioas area) (holds area.span n) both in
        let names = and_true (eqb area.file.0 pin.file.0) (eqb area.ioas.0 ioas.0) parts.0 in
        let pinned : is_pin_in objects pin area ≡ true =
        both_true _ _ names.0
        (ap (λ (o : Option ObjectKind). elim o [ Some k ↦ is_access_to area.ioas k | None ↦ false ]) attached
        ∙ flipped area.ioas.0 ioas.0 names.1) in
        absurd (clash _ (free area within is)
        (of_any (λ (p : AccessPin). is_pin_in objects p area && meets area.span p.span) pins pin among
        (both_true _ _ pinned (meet_at area.span pin.span n parts.1 here))))
      where
        flipped : (m n : ℕ) → eqb m n ≡ true → eqb n m ≡ true
        flipped m n is = grind (arith, nat_tests)

pub held_more : (objects : List Object) (area : Area) (areas : List Area) (pins : List AccessPin)
    → EachHeld objects areas pins → EachHeld objects (with_area area areas) pins
held_more objects area areas pins held pin among =
    let is = held pin among in
    record {
      ioas = is.ioas;
      attached = is.attached;
      space = is.space;
      under = λ n here.
          any-with_area (λ (a : Area). is_of pin.file is.ioas a && holds a.span n) area areas
          ∙ or_right _ _ (is.under n here);
    }

-- no area is over its memory object
pub none_covered : (objects : List Object) (areas : List Area) (pins : List AccessPin) (page : ObjectPage)
    → list_any (λ (a : Area). eqb a.memory page.memory) areas ≡ false → is_accessed objects areas pins page ≡ false
none_covered objects areas pins page none =
    none_of (λ pin. list_any (covers_here objects page pin) areas) pins (λ pin among.
    none_stronger (covers_here objects page pin) (λ (a : Area). eqb a.memory page.memory) areas
    (λ a covers. (and_true (eqb a.memory page.memory) (covers_page objects page.index pin a) covers).0) none)

-- with one more area no fewer pages are covered
pub accessed_grows : (objects : List Object) (area : Area) (areas : List Area) (pins : List AccessPin)
    (page : ObjectPage) → is_accessed objects areas pins page ≡ true
    → is_accessed objects (with_area area areas) pins page ≡ true
accessed_grows objects area areas pins page is =
    any_weaker (λ pin. list_any (covers_here objects page pin) areas)
    (λ pin. list_any (covers_here objects page pin) (with_area area areas)) pins
    (λ pin covers. any-with_area (covers_here objects page pin) area areas ∙ or_right _ _ covers) is
