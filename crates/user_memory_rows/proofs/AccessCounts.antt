-- How often access pins cover a page: as long as none comes or goes it stays, whatever areas and objects do.
use Rattle.std.proofs.Common.{◌≡◌, ℕ, ◌+◌, Bool, true, false, cond, ◌&&◌, ◌||◌, not, eqb, ltb, Option, Some}
use Rattle.std.proofs.Common.{None, List, [], ◌∷◌, map, refl, ap, sym, ◌∙◌, inl, inr, arith}
use Rattle.std.specs.List.{count_by, filter}
use Rattle.std.proofs.lemmas.Bool.Decides.{nat_tests}
use Rattle.std.proofs.lemmas.List.Sums.{sum_by-cons}
use Rattle.iofd_rows.proofs.Bools.{and_true, clash}
use Rattle.iofd_rows.proofs.Each.{IsIn, of_any}
use Rattle.iofd_runs.proofs.Accessed.{EachHeld, HoldersStay, IsOfAreas, covered_meets, covers_here}
use Rattle.iofd_words.specs.Areas.{with_area, with_phase}
use Rattle.iofd_words.specs.Objects.{is_access_to}
use Rattle.iofd_words.specs.Pins.{ObjectPage, covers_page, has_pin_in, is_accessed, is_pin_in, span_of_page}
use Rattle.iofd_words.specs.Span.{lies_in, meets}
use Rattle.iofd_words.specs.declared.rows.AccessPin.{AccessPin}
use Rattle.iofd_words.specs.declared.rows.Area.{Area}
use Rattle.iofd_words.specs.declared.rows.Object.{Object}
use Rattle.iofd_words.specs.declared.rows.ObjectKind.{ObjectKind}
use Rattle.iofd_words.specs.declared.rows.Phase.{Phase}
use Rattle.memory_objects.specs.Invariant.{MemoryInvariant}
use Rattle.memory_objects.specs.Objects.{MemoryEntry, object_at}
use Rattle.pinned_pages.proofs.AccessRows.{found_counted}
use Rattle.pinned_pages.specs.Access.{AccessRows, are_counted, pins_in, row_at}
use Rattle.pinned_pages.specs.declared.access_pins.AccessPin as pinned
use Rattle.user_memory.proofs.Found.{found_passes, has_index, row_has}
use Rattle.user_memory.specs.Memory.{Memory, access_pins, rows_of}
use Rattle.user_memory_rows.proofs.CountBy.{any_count, count-cons}
use Rattle.user_memory_rows.proofs.Counts.{count_map, count_with_area}
use Rattle.user_memory_rows.specs.Shown.{accessed, covered_by, has_page}

-- ---- some pin covers it, or none

pub accessed_some : (objects : List Object) (areas : List Area) (pins : List AccessPin) (page : ObjectPage)
    → is_accessed objects areas pins page ≡ ltb 0 (accessed objects areas pins page)
accessed_some objects areas [] page = refl
accessed_some objects areas (pin ∷ pins) page =
    rw (any_count (covers_here objects page pin) areas, accessed_some objects areas pins page)
    (either (covered_by objects areas page pin) (accessed objects areas pins page))
    ∙ ap (ltb 0) (sym (sum_by-cons (covered_by objects areas page) pin pins))
  where
    either : (a b : ℕ) → (ltb 0 a || ltb 0 b) ≡ ltb 0 (a + b)
    either a b = grind (arith, nat_tests)

-- ---- it stays

-- pin by pin
by_pins : (objects left : List Object) (areas others : List Area) (pins : List AccessPin) (page : ObjectPage)
    → ((pin : AccessPin) → IsIn pins pin → covered_by left others page pin ≡ covered_by objects areas page pin)
    → accessed left others pins page ≡ accessed objects areas pins page
by_pins objects left areas others [] page same = refl
by_pins objects left areas others (pin ∷ pins) page same =
    sum_by-cons (covered_by left others page) pin pins
    ∙ rw (same pin (inl refl), by_pins objects left areas others pins page (λ other later. same other (inr later)))
    (sym (sum_by-cons (covered_by objects areas page) pin pins))

-- access objects that hold pins stay attached
pub counted_objects : (objects left : List Object) (areas others : List Area) (pins : List AccessPin)
    (page : ObjectPage) → HoldersStay objects left pins → EachHeld objects others pins
    → accessed left areas pins page ≡ accessed objects areas pins page
counted_objects objects left areas others pins page stay held =
    by_pins objects left areas areas pins page (λ pin within.
    let is = held pin within in
    ap (λ (o : Option ObjectKind). count_by (λ (area : Area). eqb area.memory page.memory
    && ((eqb area.file.0 pin.file.0 && elim o [ Some k ↦ is_access_to area.ioas k | None ↦ false ])
    && lies_in (span_of_page area page.index) pin.span)) areas)
    ((stay pin within is.ioas is.attached is.space).0 ∙ sym is.attached))

-- areas change, and keep what pins cover
pub counted_map : (objects : List Object) (f : Area → Area) (areas : List Area) (pins : List AccessPin)
    (page : ObjectPage)
    → ((pin : AccessPin) (a : Area) → covers_here objects page pin (f a) ≡ covers_here objects page pin a)
    → accessed objects (map f areas) pins page ≡ accessed objects areas pins page
counted_map objects f areas pins page same =
    by_pins objects objects areas (map f areas) pins page
    (λ pin within. count_map (covers_here objects page pin) f areas (same pin))

-- areas have other phases
pub counted_phases : (objects : List Object) (phase : Area → Phase) (areas : List Area) (pins : List AccessPin)
    (page : ObjectPage) → accessed objects (map (λ (a : Area). with_phase (phase a) a) areas) pins page
    ≡ accessed objects areas pins page
counted_phases objects phase areas pins page =
    counted_map objects (λ (a : Area). with_phase (phase a) a) areas pins page (λ pin a. refl)

-- all rows that pass a test are kept
count_kept : {X : Type 0} (p q : X → Bool) (xs : List X) → ((x : X) → IsIn xs x → p x ≡ true → q x ≡ true)
    → count_by p (filter q xs) ≡ count_by p xs
count_kept p q [] keeps = refl
count_kept p q (x ∷ xs) keeps =
    by_test (q x) (p x) refl (keeps x (inl refl)) (count_kept p q xs (λ y later. keeps y (inr later)))
    ∙ sym (count-cons p x xs)
  where
    by_test : (b c : Bool) → p x ≡ c → (p x ≡ true → b ≡ true) → count_by p (filter q xs) ≡ count_by p xs
        → count_by p (cond b (x ∷ filter q xs) (filter q xs)) ≡ cond (p x) 1 0 + count_by p xs
    by_test true c is stays rest = count-cons p x (filter q xs) ∙ ap (λ n. cond (p x) 1 0 + n) rest
    by_test false true is stays rest = let never : false ≡ true = stays is in cc
    by_test false false is stays rest = rest ∙ rw is (omega arith)

-- areas go that no pin meets
pub counted_fewer : (objects : List Object) (goes : Area → Bool) (areas : List Area) (pins : List AccessPin)
    (page : ObjectPage) → IsOfAreas areas page
    → ((area : Area) → IsIn areas area → goes area ≡ true → has_pin_in objects pins area ≡ false)
    → accessed objects (filter (λ (a : Area). not (goes a)) areas) pins page ≡ accessed objects areas pins page
counted_fewer objects goes areas pins page of free =
    by_pins objects objects areas (filter (λ (a : Area). not (goes a)) areas) pins page
    (λ pin among. count_kept (covers_here objects page pin) (λ (a : Area). not (goes a)) areas
    (λ area within covers. stays pin among area within covers (goes area) refl))
  where
    stays : (pin : AccessPin) → IsIn pins pin → (area : Area) → IsIn areas area
        → covers_here objects page pin area ≡ true → (b : Bool) → goes area ≡ b → not b ≡ true
    stays pin among area within covers false is = refl
    stays pin among area within covers true is =
        let parts = and_true (eqb area.memory page.memory) (covers_page objects page.index pin area) covers in
        let meets_it = covered_meets objects page.index pin area (of area within parts.0) parts.1 in
        absurd (clash _ (free area within is)
        (of_any (λ (p : AccessPin). is_pin_in objects p area && meets area.span p.span) pins pin among meets_it))

-- an area comes, and no pin covers the page in it
pub counted_more : (objects : List Object) (area : Area) (areas : List Area) (pins : List AccessPin)
    (page : ObjectPage) → ((pin : AccessPin) → IsIn pins pin → covers_here objects page pin area ≡ false)
    → accessed objects (with_area area areas) pins page ≡ accessed objects areas pins page
counted_more objects area areas pins page none =
    by_pins objects objects areas (with_area area areas) pins page (λ pin among.
    count_with_area (covers_here objects page pin) area areas
    ∙ ap (λ b. covered_by objects areas page pin + cond b 1 0) (none pin among) ∙ omega arith)

-- ---- no area, or no pin

pub none_counted : (objects : List Object) (areas : List Area) (pins : List AccessPin) (page : ObjectPage)
    → count_by (λ (a : Area). eqb a.memory page.memory) areas ≡ 0 → accessed objects areas pins page ≡ 0
none_counted objects areas [] page none = refl
none_counted objects areas (pin ∷ pins) page none =
    sum_by-cons (covered_by objects areas page) pin pins
    ∙ rw (none_of areas none, none_counted objects areas pins page none) refl
  where
    none_of : (areas : List Area) → count_by (λ (a : Area). eqb a.memory page.memory) areas ≡ 0
        → covered_by objects areas page pin ≡ 0
    none_of [] none = refl
    none_of (a ∷ areas) none =
        count-cons (covers_here objects page pin) a areas
        ∙ by_test (eqb a.memory page.memory) (covers_page objects page.index pin a)
        (sym (count-cons (λ (a : Area). eqb a.memory page.memory) a areas) ∙ none) (none_of areas)
      where
        by_test : (b c : Bool) → cond b 1 0 + count_by (λ (a : Area). eqb a.memory page.memory) areas ≡ 0
            → (count_by (λ (a : Area). eqb a.memory page.memory) areas ≡ 0 → covered_by objects areas page pin ≡ 0)
            → cond (b && c) 1 0 + covered_by objects areas page pin ≡ 0
        by_test true c sum rest = absurd (omega (arith, sum))
        by_test false c sum rest = let none = rest (omega (arith, sum)) in omega (arith, none)

-- ---- pages that no memory object has

-- no access pins one
pub unlisted_unpinned : (kept : Memory) (page : ObjectPage) → MemoryInvariant kept.objects
    → has_page (rows_of kept) page ≡ false → access_pins kept page ≡ 0
unlisted_unpinned kept page invariant none =
    by_object (object_at kept.objects page.memory) refl
    (sym (row_has kept.objects page.memory page.index invariant.rising) ∙ none)
  where
    by_row : (count : ℕ) (rows : AccessRows) → are_counted count rows ≡ true → ltb page.index count ≡ false
        → (o : Option pinned.AccessPin) → row_at rows page.index ≡ o → pins_in o ≡ 0
    by_row count rows counted beyond None is = refl
    by_row count rows counted beyond (Some pin) is =
        let inside = (found_counted count rows counted page.index pin is).0 in
        absurd (clash _ beyond (search (inside, arith, nat_tests)))

    by_object : (o : Option MemoryEntry) → object_at kept.objects page.memory ≡ o → has_index o page.index ≡ false
        → access_pins kept page ≡ 0
    by_object None is beyond = rw is refl
    by_object (Some o) is beyond =
        rw is (by_row o.pages.pages.count o.pages.pages.access
        (found_passes (λ (x : MemoryEntry). are_counted x.pages.pages.count x.pages.pages.access) kept.objects
        page.memory o invariant.counted is) beyond (row_at o.pages.pages.access page.index) refl)
