-- What holds of all memory objects, after each call.
use Rattle.std.proofs.Common.{◌≡◌, ◌≢◌, ℕ, ◌+◌, ◌-◌, ◌<◌, ◌≤◌, Bool, true, false, cond, eqb, ltb, leb, not, ◌&&◌, ◌||◌}
use Rattle.std.proofs.Common.{Option, Some, None, List, [], ◌∷◌, ◌++◌, length, map, refl, sym, ap, ◌∙◌, subst, arith}
use Rattle.std.proofs.Common.{⊎_elim}
use Rattle.std.specs.List.{filter, find, list_all, slice_get, sum_by}
use Rattle.std.proofs.lemmas.Bool.{and_parts, cases_Bool, cases_eq, eqb-true}
use Rattle.std.proofs.lemmas.Bool.Decides.{nat_tests}
use Rattle.std.proofs.lemmas.List.{nil_from_length}
use Rattle.std.proofs.lemmas.List.Folds.{list_all-append}
use Rattle.std.proofs.lemmas.List.Sums.{sum_by-cons}
use Rattle.iofd_words.specs.declared.rows.MemoryObject.{MemoryObject}
use Rattle.iofd_words.specs.declared.rows.UserPage.{UserPage}
use Rattle.pinned_pages.specs.Access.{are_counted, frame_in, row_at}
use Rattle.pinned_pages.specs.Holds.{times}
use Rattle.memory_objects.specs.Invariant.{MemoryInvariant}
use Rattle.memory_objects.specs.Objects.{MemoryEntry, MemoryGrows, all_less, all_pinned, all_unpinned, are_below}
use Rattle.memory_objects.specs.Objects.{are_rising, have_areas, may_go, object_at, pinned_by, pinned_less, pinned_more}
use Rattle.memory_objects.specs.Objects.{pins_on, row_of, rows_of, times_of, with_area, with_areas, with_capacity}
use Rattle.memory_objects.specs.Objects.{with_pages, without_areas}
use Rattle.pinned_pages.specs.Pages.{ObjectPages, frame_of, held_frames, or_else, pinned_count}
use Rattle.pinned_pages.proofs.Runs.{none_mapped, same_mapped}
use Rattle.memory_objects.proofs.AreaCounts.{rising_without}
use Rattle.memory_objects.proofs.Numbered.{rising_parts}
use Rattle.memory_objects.proofs.OneObject.{rising_changed}
use Rattle.memory_objects.proofs.PinOne.{no_more}
use Rattle.memory_objects.proofs.Unpinned.{no_less}

abbrev pub row_found : Option MemoryEntry → Option MemoryObject
row_found None = None
row_found (Some object) = Some (row_of object)

-- the two tests of each object
abbrev pub no_pages_left : MemoryEntry → Bool
no_pages_left o = not (eqb o.pages.pages.table_pins 0) || eqb (length o.pages.pages.frames) 0

abbrev pub rows_counted : MemoryEntry → Bool
rows_counted o = are_counted o.pages.pages.count o.pages.pages.access

abbrev pub has_areas : MemoryEntry → Bool
has_areas o = leb 1 o.areas && leb o.pages.pages.table_pins o.areas

all_mapped : (p q r : MemoryEntry → Bool) (G : MemoryEntry → MemoryEntry)
    → ((o : MemoryEntry) → p o ≡ true → r o ≡ true → q (G o) ≡ true) → (objects : List MemoryEntry)
    → list_all p objects ≡ true → list_all r objects ≡ true → list_all q (map G objects) ≡ true
all_mapped p q r G each [] one two = refl
all_mapped p q r G each (o ∷ objects) one two =
    let a = and_parts (p o) (list_all p objects) one in
    let b = and_parts (r o) (list_all r objects) two in
    let here = each o a.0 b.0 in
    rw here (all_mapped p q r G each objects a.1 b.1)

more_still : (rows : List UserPage) (more : ℕ) (pages : ObjectPages)
    → (not (eqb pages.table_pins 0) || eqb (length pages.frames) 0) ≡ true
    → (not (eqb (pinned_more rows more pages).table_pins 0)
    || eqb (length (pinned_more rows more pages).frames) 0) ≡ true
more_still rows more pages held =
    let P : ObjectPages → Type 0 = λ p. (not (eqb p.table_pins 0) || eqb (length p.frames) 0) ≡ true in
    ⊎_elim
    (λ (none : more ≡ 0). rw none (subst P (sym (no_more rows pages)) held))
    (λ (some : more ≢ 0). let pins : eqb (pages.table_pins + more) 0 ≡ false = grind (arith, nat_tests) in rw pins refl)
    (cases_eq more 0)

less_still : (less : ℕ) (pages : ObjectPages) → (not (eqb pages.table_pins 0) || eqb (length pages.frames) 0) ≡ true
    → (not (eqb (pinned_less less pages).table_pins 0) || eqb (length (pinned_less less pages).frames) 0) ≡ true
less_still less pages held =
    let P : ObjectPages → Type 0 = λ p. (not (eqb p.table_pins 0) || eqb (length p.frames) 0) ≡ true in
    ⊎_elim
    (λ (none : less ≡ 0). rw none (subst P (sym (no_less pages)) held))
    (λ (some : less ≢ 0).
    let one : eqb less 0 ≡ false = grind (arith, nat_tests) in
    ⊎_elim
    (λ (all : leb pages.table_pins less ≡ true). let pins : eqb (pages.table_pins - less) 0 ≡ true =
    grind (arith, nat_tests) in rw (one, all, pins) refl)
    (λ (left : leb pages.table_pins less ≡ false). let pins : eqb (pages.table_pins - less) 0 ≡ false =
    grind (arith, nat_tests) in rw pins refl)
    (cases_Bool (leb pages.table_pins less)))
    (cases_eq less 0)

pub kept_pinned : (rows : List UserPage) (numbers : List ℕ) (objects : List MemoryEntry) → MemoryInvariant objects
    → have_areas numbers objects ≡ true → MemoryInvariant (all_pinned rows numbers objects)
kept_pinned rows numbers objects kept areas =
    let G = λ (o : MemoryEntry). with_pages (pinned_more rows (times_of o.number numbers) o.pages.pages) o in
    let room = λ (o : MemoryEntry). leb (o.pages.pages.table_pins + times_of o.number numbers) o.areas in
    record {
      rising = rising_changed G (λ o. refl) objects kept.rising;
      unpinned = all_mapped no_pages_left no_pages_left room G
          (λ o held fits. more_still rows (times_of o.number numbers) o.pages.pages held) objects kept.unpinned areas;
      counted = all_mapped rows_counted rows_counted rows_counted G (λ o is same. is) objects kept.counted kept.counted;
      areas = all_mapped has_areas has_areas room G
          (λ o has fits. let one = and_parts (leb 1 o.areas) (leb o.pages.pages.table_pins o.areas) has in rw (
            one.0,
            fits,
          ) refl) objects kept.areas areas;
    }

pub kept_unpinned : (numbers : List ℕ) (objects : List MemoryEntry) → MemoryInvariant objects
    → MemoryInvariant (all_unpinned numbers objects)
kept_unpinned numbers objects kept =
    let G = λ (o : MemoryEntry). with_pages (pinned_less (times_of o.number numbers) o.pages.pages) o in
    record {
      rising = rising_changed G (λ o. refl) objects kept.rising;
      unpinned = all_mapped no_pages_left no_pages_left no_pages_left G
          (λ o held same. less_still (times_of o.number numbers) o.pages.pages held) objects
          kept.unpinned kept.unpinned;
      counted = all_mapped rows_counted rows_counted rows_counted G (λ o is same. is) objects kept.counted kept.counted;
      areas = all_mapped has_areas has_areas has_areas G
          (λ o has same. fewer (leb 1 o.areas) o.pages.pages.table_pins (times_of o.number numbers) o.areas has)
          objects kept.areas kept.areas;
    }
  where
    fewer : (b : Bool) (pins less areas : ℕ) → (b && leb pins areas) ≡ true → (b && leb (pins - less) areas) ≡ true
    fewer true pins less areas has = grind (arith, nat_tests)
    fewer false pins less areas has = has

pub kept_with_area : (number : ℕ) (objects : List MemoryEntry) → MemoryInvariant objects
    → MemoryInvariant (with_area number objects)
kept_with_area number objects kept =
    let G = λ (o : MemoryEntry). with_areas (o.areas + cond (eqb o.number number) 1 0) o in
    record {
      rising = rising_changed G (λ o. refl) objects kept.rising;
      unpinned = all_mapped no_pages_left no_pages_left no_pages_left G (λ o held same. held) objects
          kept.unpinned kept.unpinned;
      counted = all_mapped rows_counted rows_counted rows_counted G (λ o is same. is) objects kept.counted kept.counted;
      areas = all_mapped has_areas has_areas has_areas G
          (λ o has same. more o.pages.pages.table_pins o.areas (cond (eqb o.number number) 1 0) has)
          objects kept.areas kept.areas;
    }
  where
    more : (pins areas k : ℕ) → (leb 1 areas && leb pins areas) ≡ true
        → (leb 1 (areas + k) && leb pins (areas + k)) ≡ true
    more pins areas k has =
        let parts = and_parts (leb 1 areas) (leb pins areas) has in
        let one : leb 1 (areas + k) ≡ true = grind (arith, nat_tests) in
        let two : leb pins (areas + k) ≡ true = grind (arith, nat_tests) in
        rw (one, two) refl

pub kept_grown : (old new : List MemoryEntry) → MemoryGrows old new → MemoryInvariant old → MemoryInvariant new
kept_grown old new grows kept =
    let G = λ (o : MemoryEntry). with_capacity (grows.capacity o) o in
    rw grows.objects (record {
      rising = rising_changed G (λ o. refl) old kept.rising;
      unpinned =
          all_mapped no_pages_left no_pages_left no_pages_left G (λ o held same. held) old kept.unpinned kept.unpinned;
      counted = all_mapped rows_counted rows_counted rows_counted G (λ o is same. is) old kept.counted kept.counted;
      areas = all_mapped has_areas has_areas has_areas G (λ o has same. has) old kept.areas kept.areas;
    })

-- ---- an object more

below_last : (objects : List MemoryEntry) (x : MemoryEntry) (number : ℕ)
    → list_all (λ next. ltb number next.number) objects ≡ true → number < x.number
    → list_all (λ next. ltb number next.number) (objects ++ x ∷ []) ≡ true
below_last objects x number all low =
    let here : ltb number x.number ≡ true = grind (arith, nat_tests) in
    list_all-append (λ next. ltb number next.number) objects (x ∷ []) ∙ rw (all, here) refl

pub rising_appended : (objects : List MemoryEntry) (x : MemoryEntry) → are_rising objects ≡ true
    → are_below objects x.number ≡ true → are_rising (objects ++ x ∷ []) ≡ true
rising_appended [] x rising below = refl
rising_appended (o ∷ objects) x rising below =
    let parts = rising_parts o objects rising in
    let lower = and_parts (ltb o.number x.number) (list_all (λ p. ltb p.number x.number) objects) below in
    let low : o.number < x.number = grind (arith, nat_tests) in
    let after = below_last objects x o.number parts.0 low in
    rw after (rising_appended objects x parts.1 lower.1)

pub kept_appended : (objects : List MemoryEntry) (x : MemoryEntry) → MemoryInvariant objects
    → are_below objects x.number ≡ true → x.areas ≡ 1 → x.pages.pages.table_pins ≤ 1
    → (x.pages.pages.table_pins ≡ 0 → x.pages.pages.frames ≡ [])
    → are_counted x.pages.pages.count x.pages.pages.access ≡ true → MemoryInvariant (objects ++ x ∷ [])
kept_appended objects x kept below one pins none counted = record {
  rising = rising_appended objects x kept.rising below;
  unpinned = list_all-append no_pages_left objects (x ∷ []) ∙ rw (kept.unpinned, last_left) refl;
  counted = list_all-append rows_counted objects (x ∷ []) ∙ rw (kept.counted, counted) refl;
  areas = list_all-append has_areas objects (x ∷ []) ∙ rw (kept.areas, last_areas) refl;
}
  where
    last_left : no_pages_left x ≡ true
    last_left =
        ⊎_elim
        (λ (zero_pins : x.pages.pages.table_pins ≡ 0). rw (zero_pins, none zero_pins) refl)
        (λ (some : x.pages.pages.table_pins ≢ 0). let test : eqb x.pages.pages.table_pins 0 ≡ false =
        grind (arith, nat_tests) in rw test refl)
        (cases_eq x.pages.pages.table_pins 0)

    last_areas : has_areas x ≡ true
    last_areas = let fits : leb x.pages.pages.table_pins 1 ≡ true = grind (arith, nat_tests) in rw (one, fits) refl

-- ---- objects less

all_but_gone : (p q r s : MemoryEntry → Bool) → ((o : MemoryEntry) → p o ≡ true → q o ≡ true → r o ≡ true → s o ≡ true)
    → (objects : List MemoryEntry) → list_all p objects ≡ true → list_all q objects ≡ true
    → list_all s (filter r objects) ≡ true
all_but_gone p q r s each [] one two = refl
all_but_gone p q r s each (o ∷ objects) one two =
    let a = and_parts (p o) (list_all p objects) one in
    let b = and_parts (q o) (list_all q objects) two in
    let rest = all_but_gone p q r s each objects a.1 b.1 in
    ⊎_elim
    (λ (kept : r o ≡ true). let here = each o a.0 b.0 kept in rw (kept, here) rest)
    (λ (gone : r o ≡ false). rw gone rest)
    (cases_Bool (r o))

pub kept_without : (numbers : List ℕ) (objects : List MemoryEntry) → MemoryInvariant objects
    → have_areas numbers objects ≡ true → MemoryInvariant (without_areas numbers objects)
kept_without numbers objects kept areas =
    let G = λ (o : MemoryEntry). with_areas (o.areas - times_of o.number numbers) o in
    let pins_fit = λ (o : MemoryEntry). leb o.pages.pages.table_pins o.areas in
    let room = λ (o : MemoryEntry). leb (o.pages.pages.table_pins + times_of o.number numbers) o.areas in
    let left = λ (o : MemoryEntry). not (eqb o.areas 0) in
    let fits : list_all pins_fit (all_less numbers objects) ≡ true =
    all_mapped room pins_fit room G (λ o one two. fewer o.pages.pages.table_pins (times_of o.number numbers) o.areas
    one) objects areas areas in
    let unpinned : list_all no_pages_left (all_less numbers objects) ≡ true =
    all_mapped no_pages_left no_pages_left no_pages_left G (λ o held same. held) objects
    kept.unpinned kept.unpinned in
    let counted : list_all rows_counted (all_less numbers objects) ≡ true =
    all_mapped rows_counted rows_counted rows_counted G (λ o is same. is) objects kept.counted kept.counted in
    record {
      rising = rising_without numbers objects kept.rising;
      unpinned = all_but_gone no_pages_left no_pages_left left no_pages_left (λ o one two three. one)
          (all_less numbers objects) unpinned unpinned;
      counted = all_but_gone rows_counted rows_counted left rows_counted (λ o one two three. one)
          (all_less numbers objects) counted counted;
      areas = all_but_gone pins_fit pins_fit left has_areas
          (λ o one two three. some o.pages.pages.table_pins o.areas one three) (all_less numbers objects) fits fits;
    }
  where
    fewer : (pins less areas : ℕ) → leb (pins + less) areas ≡ true → leb pins (areas - less) ≡ true
    fewer pins less areas fits = grind (arith, nat_tests)

    some : (pins areas : ℕ) → leb pins areas ≡ true → not (eqb areas 0) ≡ true → (leb 1 areas && leb pins areas) ≡ true
    some pins areas fits there = let one : leb 1 areas ≡ true = grind (arith, nat_tests) in rw (one, fits) refl

-- an object over which no area is left has no pinned page
pub no_frames : (o : MemoryEntry) (numbers : List ℕ) → no_pages_left o ≡ true
    → leb (o.pages.pages.table_pins + times_of o.number numbers) o.areas ≡ true
    → (ltb (times_of o.number numbers) o.areas || eqb (length o.pages.pages.access) 0) ≡ true
    → eqb (o.areas - times_of o.number numbers) 0 ≡ true → (i : ℕ) → frame_of o.pages.pages i ≡ None
no_frames o numbers held room go gone i =
    let pins : eqb o.pages.pages.table_pins 0 ≡ true = grind (arith, nat_tests) in
    let none : eqb (length o.pages.pages.frames) 0 ≡ true = rw pins at held in
    let all : ltb (times_of o.number numbers) o.areas ≡ false = grind (arith, nat_tests) in
    let no_rows : eqb (length o.pages.pages.access) 0 ≡ true = rw all at go in
    let frames = nil_from_length o.pages.pages.frames (eqb-true (length o.pages.pages.frames) 0 none) in
    let access = nil_from_length o.pages.pages.access (eqb-true (length o.pages.pages.access) 0 no_rows) in
    ap (λ rows. or_else (frame_in (row_at rows i)) (slice_get o.pages.pages.frames i)) access
    ∙ ap (λ fs. slice_get fs i) frames

pub none_held : (o : MemoryEntry) (numbers : List ℕ) → no_pages_left o ≡ true
    → leb (o.pages.pages.table_pins + times_of o.number numbers) o.areas ≡ true
    → (ltb (times_of o.number numbers) o.areas || eqb (length o.pages.pages.access) 0) ≡ true
    → eqb (o.areas - times_of o.number numbers) 0 ≡ true → held_frames o.pages.pages ≡ []
none_held o numbers held room go gone =
    same_mapped (frame_of o.pages.pages) (λ i. None) 0 o.pages.pages.count
    (λ i low high. no_frames o numbers held room go gone i)
    ∙ none_mapped (λ i. None) 0 o.pages.pages.count (λ i low high. refl)

pub sums_stay : (f : MemoryEntry → ℕ) → ((o : MemoryEntry) (areas : ℕ) → f (with_areas areas o) ≡ f o)
    → ((o : MemoryEntry) → held_frames o.pages.pages ≡ [] → f o ≡ 0) → (numbers : List ℕ) (objects : List MemoryEntry)
    → list_all no_pages_left objects ≡ true → have_areas numbers objects ≡ true → may_go numbers objects ≡ true
    → sum_by f (without_areas numbers objects) ≡ sum_by f objects
sums_stay f same nothing numbers [] held room go = refl
sums_stay f same nothing numbers (o ∷ objects) held room go =
    let a = and_parts (no_pages_left o) (list_all no_pages_left objects) held in
    let b = and_parts (leb (o.pages.pages.table_pins + times_of o.number numbers) o.areas)
    (have_areas numbers objects) room in
    let c = and_parts (ltb (times_of o.number numbers) o.areas || eqb (length o.pages.pages.access) 0)
    (may_go numbers objects) go in
    let rest = sums_stay f same nothing numbers objects a.1 b.1 c.1 in
    let old = sum_by-cons f o objects in
    let left = with_areas (o.areas - times_of o.number numbers) o in
    ⊎_elim
    (λ (gone : eqb (o.areas - times_of o.number numbers) 0 ≡ true).
    let none = nothing o (none_held o numbers a.0 b.0 c.0 gone) in
    rw gone (omega (arith, rest, old, none)))
    (λ (kept : eqb (o.areas - times_of o.number numbers) 0 ≡ false).
    let new = sum_by-cons f left (without_areas numbers objects) in
    let here = same o (o.areas - times_of o.number numbers) in
    rw kept (omega (arith, rest, old, new, here)))
    (cases_Bool (eqb (o.areas - times_of o.number numbers) 0))

pub pins_stay : (numbers : List ℕ) (objects : List MemoryEntry) → MemoryInvariant objects
    → have_areas numbers objects ≡ true → may_go numbers objects ≡ true → (frame : ℕ)
    → pins_on (without_areas numbers objects) frame ≡ pins_on objects frame
pins_stay numbers objects kept room go frame =
    sums_stay (λ o. times frame (held_frames o.pages.pages)) (λ o areas. refl)
    (λ o none. ap (times frame) none) numbers objects kept.unpinned room go

pub pinned_stay : (numbers : List ℕ) (objects : List MemoryEntry) → MemoryInvariant objects
    → have_areas numbers objects ≡ true → may_go numbers objects ≡ true → (user : ℕ)
    → pinned_by (without_areas numbers objects) user ≡ pinned_by objects user
pinned_stay numbers objects kept room go user =
    sums_stay (λ o. cond (eqb o.pages.pages.user.0 user) (pinned_count o.pages.pages) 0) (λ o areas. refl)
    (λ o none. by_test (eqb o.pages.pages.user.0 user) (pinned_count o.pages.pages) (ap length none)) numbers
    objects kept.unpinned room go
  where
    by_test : (b : Bool) (k : ℕ) → k ≡ 0 → cond b k 0 ≡ 0
    by_test true k none = none
    by_test false k none = refl

-- the row of an object in the world
pub rows_found : (objects : List MemoryEntry) (n : ℕ)
    → find (λ (row : MemoryObject). eqb row.number n) (rows_of objects) ≡ row_found (object_at objects n)
rows_found [] n = refl
rows_found (o ∷ objects) n =
    ⊎_elim (λ (here : eqb o.number n ≡ true). rw here refl)
    (λ (other : eqb o.number n ≡ false). rw other (rows_found objects n)) (cases_Bool (eqb o.number n))
