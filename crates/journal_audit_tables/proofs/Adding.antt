-- Places one after the other.
use Rattle.std.proofs.Common.{◌≡◌, ◌<◌, ◌+◌, ◌&&◌, ltb, length, get_or, drop, arith, ℕ, Bool, true, false, cond, ◌||◌}
use Rattle.std.proofs.Common.{List, [], ◌∷◌, ◌++◌, map, append_assoc, append-nil, refl, sym, ap, subst, ◌∙◌, eqb}
use Rattle.std.proofs.Common.{zero, suc, ◌-◌, ◌≤◌}
use Rattle.std.specs.List.{filter, flat_map, list_any, range_with_len}
use Rattle.std.proofs.lemmas.Grind.{flat_map-append}
use Rattle.std.proofs.lemmas.List.Concat.{flat_map-cons}
use Rattle.std.proofs.lemmas.Bool.{eqb-true}
use Rattle.iofd_rows.proofs.Bools.{and_true}
use Rattle.std.proofs.lemmas.List.{map-append}
use Rattle.std.proofs.lemmas.List.Folds.{list_any-append}
use Rattle.std.proofs.lemmas.Bool.Decides.{nat_tests}
use Rattle.std.proofs.lemmas.List.{drop_all, drop_more}
use Rattle.std.specs.BTreeMap.{is_at}
use Rattle.std.proofs.Common.{Less, Equal, Greater}
use Rattle.std.specs.Ordering.{is_eq, nat_cmp, ordering_then}
use Rattle.iofd_words.specs.Areas.{areas_of, is_of}
use Rattle.iofd_words.specs.TablePlaces.{TablePlace, has_table, is_live, is_place, is_table_of, lacking, live_pages}
use Rattle.iofd_words.specs.Levels.{first_address, levels_of}
use Rattle.iofd_words.specs.TablePlaces.{pages_in, place_of, places_from, root_place}
use Rattle.iofd_words.specs.declared.width.Width.{Width}
use Rattle.iofd_words.specs.declared.rows.Area.{Area}
use Rattle.iofd_words.specs.declared.numbers.FileNo.{FileNo}
use Rattle.iofd_words.specs.declared.numbers.ObjId.{ObjId}
use Rattle.iofd_words.specs.declared.rows.TableFrame.{TableFrame}
use Rattle.iofd_words.specs.Tables.{MissingTable}
use Rattle.iofd_runs.proofs.TableCounts.{lacking_alike}
use Rattle.journal_audit_tables.specs.Gathered.{Adds, Gathered, Lacks, is_known}
use Rattle.journal_audit_tables.specs.Missing.{missing_at, missing_in}

place_is : (a b : TablePlace) → is_place a b ≡ true → a ≡ b
place_is a b is =
    let parts = and_true (eqb a.level b.level) (eqb a.first b.first) is in
    ap (λ n. let p : TablePlace = record { level = n; first = a.first } in p) (eqb-true a.level b.level parts.0)
    ∙ ap (λ n. let p : TablePlace = record { level = b.level; first = n } in p) (eqb-true a.first b.first parts.1)

abbrev there : (TablePlace → Bool) → List TablePlace → TablePlace → Bool
there has places other = has other || list_any (λ place. is_place place other) places

-- those of some places, and then those of others
pub lacking-append : (has : TablePlace → Bool) (xs ys : List TablePlace)
    → lacking has (xs ++ ys) ≡ lacking has xs ++ lacking (there has xs) ys
lacking-append has [] ys = lacking_alike has (there has []) ys (λ p. none (has p))
  where
    none : (b : Bool) → b ≡ (b || false)
    none true = refl
    none false = refl
lacking-append has (x ∷ xs) ys =
    by_test (has x) refl (lacking-append has xs ys) (lacking-append (λ other. has other || is_place x other) xs ys)
  where
    more : TablePlace → Bool
    more other = has other || is_place x other

    same : (p : TablePlace) → there more xs p ≡ there has (x ∷ xs) p
    same p = tidy (has p) (is_place x p) (list_any (λ place. is_place place p) xs)
      where
        tidy : (a b c : Bool) → ((a || b) || c) ≡ (a || (b || c))
        tidy true b c = refl
        tidy false b c = refl

    -- one that is there is known already
    known : has x ≡ true → (p : TablePlace) → there has xs p ≡ there has (x ∷ xs) p
    known is p = joined (has p) (is_place x p) (list_any (λ place. is_place place p) xs)
        (λ same. ap has (sym (place_is x p same)) ∙ is)
      where
        joined : (a b c : Bool) → (b ≡ true → a ≡ true) → (a || c) ≡ (a || (b || c))
        joined true b c more = refl
        joined false true c more = let never = more refl in cc
        joined false false c more = refl

    by_test : (b : Bool) → has x ≡ b → lacking has (xs ++ ys) ≡ lacking has xs ++ lacking (there has xs) ys
        → lacking more (xs ++ ys) ≡ lacking more xs ++ lacking (there more xs) ys
        → cond b (lacking has (xs ++ ys)) (x ∷ lacking more (xs ++ ys))
        ≡ cond b (lacking has xs) (x ∷ lacking more xs) ++ lacking (there has (x ∷ xs)) ys
    by_test true is first rest =
        first ∙ ap (λ ps. lacking has xs ++ ps) (lacking_alike (there has xs) (there has (x ∷ xs)) ys (known is))
    by_test false is first rest =
        ap (λ ps. x ∷ ps) rest
        ∙ ap (λ ps. x ∷ (lacking more xs ++ ps)) (lacking_alike (there more xs) (there has (x ∷ xs)) ys same)

-- ---- what was added

pub adds_none : (g : Gathered) → Adds g g []
adds_none g = record {
  file = refl;
  hwpt = refl;
  found = sym (append-nil g.found);
  known = λ other. none (is_known g.known other);
}
  where
    none : (b : Bool) → b ≡ (b || false)
    none true = refl
    none false = refl

pub adds_more : (a b c : Gathered) (xs ys : List TablePlace) → Adds a b xs → Adds b c ys → Adds a c (xs ++ ys)
adds_more a b c xs ys first rest = record {
  file = rest.file ∙ first.file;
  hwpt = rest.hwpt ∙ first.hwpt;
  found =
      rest.found
      ∙ ap (λ ms. ms ++ map (missing_at b.file b.hwpt) (lacking (is_known b.known) ys)) first.found
      ∙ rw (first.file, first.hwpt) refl
      ∙ ap (λ ps. (a.found ++ map (missing_at a.file a.hwpt) (lacking (is_known a.known) xs))
      ++ map (missing_at a.file a.hwpt) ps)
      (lacking_alike (is_known b.known) (there (is_known a.known) xs) ys first.known)
      ∙ append_assoc a.found (map (missing_at a.file a.hwpt) (lacking (is_known a.known) xs))
      (map (missing_at a.file a.hwpt) (lacking (there (is_known a.known) xs) ys))
      ∙ ap (λ ms. a.found ++ ms) (sym (map-append (missing_at a.file a.hwpt) (lacking (is_known a.known) xs)
      (lacking (there (is_known a.known) xs) ys)))
      ∙ ap (λ ps. a.found ++ map (missing_at a.file a.hwpt) ps) (sym (lacking-append (is_known a.known) xs ys));
  known = λ other.
      rest.known other
      ∙ ap (λ b. b || list_any (λ place. is_place place other) ys) (first.known other)
      ∙ tidy (is_known a.known other) (list_any (λ place. is_place place other) xs)
      (list_any (λ place. is_place place other) ys)
      ∙ ap (λ b. is_known a.known other || b) (sym (list_any-append (λ place. is_place place other) xs ys));
}
  where
    tidy : (a b c : Bool) → ((a || b) || c) ≡ (a || (b || c))
    tidy true b c = refl
    tidy false b c = refl

-- ---- one place

-- whether a set of levels and first addresses has this one
abbrev pub has_key : List (ℕ × ℕ) → ℕ → ℕ → Bool
has_key keys level first = list_any (is_at (λ y. ordering_then (nat_cmp level y.0) (nat_cmp first y.1))) keys

pub same_key : (level first : ℕ) (y : ℕ × ℕ)
    → is_at (λ (x : ℕ × ℕ). ordering_then (nat_cmp level x.0) (nat_cmp first x.1)) y
    ≡ (eqb level y.0 && eqb first y.1)
same_key level first y = by_tests (ltb level y.0) (eqb level y.0) (ltb first y.1) (eqb first y.1)
    (apart level y.0) (apart first y.1)
  where
    apart : (m n : ℕ) → ltb m n ≡ true → eqb m n ≡ false
    apart m n is = grind (arith, nat_tests)

    by_tests : (a b c d : Bool) → (a ≡ true → b ≡ false) → (c ≡ true → d ≡ false)
        → is_eq (ordering_then (cond a Less (cond b Equal Greater)) (cond c Less (cond d Equal Greater))) ≡ (b && d)
    by_tests true true c d x y = let never = x refl in cc
    by_tests true false c d x y = refl
    by_tests false true true true x y = let never = y refl in cc
    by_tests false true true false x y = refl
    by_tests false true false true x y = refl
    by_tests false true false false x y = refl
    by_tests false false c d x y = refl

pub known_is : (level first : ℕ) (keys : List (ℕ × ℕ))
    → has_key keys level first ≡ is_known keys (record { level = level; first = first })
known_is level first [] = refl
known_is level first (key ∷ keys) = rw (same_key level first key, known_is level first keys) refl

-- the set has one more
abbrev pub KnowsMore : List (ℕ × ℕ) → List (ℕ × ℕ) → ℕ → ℕ → Type 0
KnowsMore old new level first = (q : ℕ × ℕ) → has_key new q.0 q.1
    ≡ cond (is_at (λ (x : ℕ × ℕ). ordering_then (nat_cmp level x.0) (nat_cmp first x.1)) q) true (has_key old q.0 q.1)

pub knows_more : (old new : List (ℕ × ℕ)) (level first : ℕ) → KnowsMore old new level first → (other : TablePlace)
    → is_known new other ≡ (is_known old other || (eqb level other.level && eqb first other.first))
knows_more old new level first more other =
    sym (known_is other.level other.first new) ∙ more (other.level, other.first)
    ∙ ap (λ b. cond b true (has_key old other.level other.first)) (same_key level first (other.level, other.first))
    ∙ ap (λ b. cond (eqb level other.level && eqb first other.first) true b) (known_is other.level other.first old)
    ∙ flipped (eqb level other.level && eqb first other.first) (is_known old other)
  where
    flipped : (a b : Bool) → cond a true b ≡ (b || a)
    flipped true true = refl
    flipped true false = refl
    flipped false true = refl
    flipped false false = refl

or_none : (a b : Bool) → (a || b) ≡ (a || (b || false))
or_none true b = refl
or_none false true = refl
or_none false false = refl

-- one that wasn't known is found
new_found : (old new : Gathered) (level first : ℕ) → new.file ≡ old.file → new.hwpt ≡ old.hwpt
    → KnowsMore old.known new.known level first → has_key old.known level first ≡ false
    → new.found ≡ old.found
    ++ record { file = old.file; hwpt = old.hwpt; place = record { level = level; first = first } } ∷ []
    → Adds old new (record { level = level; first = first } ∷ [])
new_found old new level first file hwpt more isnt found = record {
  file = file;
  hwpt = hwpt;
  found = found ∙ ap (λ (b : Bool). old.found ++ map (missing_at old.file old.hwpt)
      (cond b [] (record { level = level; first = first } ∷ []))) (sym (sym (known_is level first old.known) ∙ isnt));
  known = λ other. knows_more old.known new.known level first more other
      ∙ or_none (is_known old.known other) (eqb level other.level && eqb first other.first);
}

-- one that was known isn't
old_found : (old new : Gathered) (level first : ℕ) → new.file ≡ old.file → new.hwpt ≡ old.hwpt
    → KnowsMore old.known new.known level first → has_key old.known level first ≡ true → new.found ≡ old.found
    → Adds old new (record { level = level; first = first } ∷ [])
old_found old new level first file hwpt more is found = record {
  file = file;
  hwpt = hwpt;
  found = found ∙ sym (append-nil old.found) ∙ ap (λ (b : Bool). old.found ++ map (missing_at old.file old.hwpt)
      (cond b [] (record { level = level; first = first } ∷ []))) (sym (sym (known_is level first old.known) ∙ is));
  known = λ other. knows_more old.known new.known level first more other
      ∙ or_none (is_known old.known other) (eqb level other.level && eqb first other.first);
}

pub adds_new : (v w new : Gathered) (level first : ℕ) → v ≡ w → new.file ≡ v.file → new.hwpt ≡ v.hwpt
    → KnowsMore v.known new.known level first → has_key v.known level first ≡ false
    → new.found ≡ v.found
    ++ record { file = v.file; hwpt = v.hwpt; place = record { level = level; first = first } } ∷ []
    → Adds w new (record { level = level; first = first } ∷ [])
adds_new v w new level first same file hwpt more isnt found =
    subst (λ (o : Gathered). Adds o new (record { level = level; first = first } ∷ [])) same
    (new_found v new level first file hwpt more isnt found)

pub adds_old : (v w new : Gathered) (level first : ℕ) → v ≡ w → new.file ≡ v.file → new.hwpt ≡ v.hwpt
    → KnowsMore v.known new.known level first → has_key v.known level first ≡ true → new.found ≡ v.found
    → Adds w new (record { level = level; first = first } ∷ [])
adds_old v w new level first same file hwpt more is found =
    subst (λ (o : Gathered). Adds o new (record { level = level; first = first } ∷ [])) same
    (old_found v new level first file hwpt more is found)

-- ---- of a table after the other

-- a row is known too, if it is asked for
pub learned : (old new : List (ℕ × ℕ)) (t : TableFrame) (b : Bool) → b ≡ true → KnowsMore old new t.level t.first.0
    → (other : TablePlace) → is_known new other ≡ (is_known old other || (b && is_place (place_of t) other))
learned old new t true is more other = knows_more old new t.level t.first.0 more other
learned old new t false is more other = cc

-- a row of the page table more, or one of another
pub row_known : (tables : List TableFrame) (file : FileNo) (hwpt : ObjId) (old new : List (ℕ × ℕ)) (i : ℕ)
    (d : TableFrame) (b : Bool) → i < length tables → b ≡ is_table_of file hwpt (get_or tables i d)
    → ((other : TablePlace) → is_known new other
    ≡ (is_known old other || (b && is_place (place_of (get_or tables i d)) other)))
    → ((place : TablePlace) → (is_known old place || has_table (drop i tables) file hwpt place)
    ≡ has_table tables file hwpt place)
    → (place : TablePlace) → (is_known new place || has_table (drop (i + 1) tables) file hwpt place)
    ≡ has_table tables file hwpt place
row_known tables file hwpt old new i d b within test more before place =
    ap (λ b. b || has_table (drop (i + 1) tables) file hwpt place) (more place)
    ∙ ap (λ b. (is_known old place || (b && is_place (place_of (get_or tables i d)) place))
    || has_table (drop (i + 1) tables) file hwpt place) test
    ∙ tidy (is_known old place) (is_table_of file hwpt (get_or tables i d)
    && is_place (place_of (get_or tables i d)) place)
    (has_table (drop (i + 1) tables) file hwpt place)
    ∙ ap (λ rows. is_known old place || has_table rows file hwpt place) (sym (drop_more tables i d within))
    ∙ before place
  where
    tidy : (a b c : Bool) → ((a || b) || c) ≡ (a || (b || c))
    tidy true b c = refl
    tidy false b c = refl

-- ---- what a page table lacks

pub lacks_more : (tables : List TableFrame) (file : FileNo) (hwpt : ObjId) (old new : Gathered)
    (xs ys : List TablePlace) → Lacks tables file hwpt old xs → Adds old new ys → Lacks tables file hwpt new (xs ++ ys)
lacks_more tables file hwpt old new xs ys first rest = record {
  of_file = rest.file ∙ first.of_file;
  of_hwpt = rest.hwpt ∙ first.of_hwpt;
  found =
      rest.found
      ∙ ap (λ ms. ms ++ map (missing_at old.file old.hwpt) (lacking (is_known old.known) ys)) first.found
      ∙ rw (first.of_file, first.of_hwpt) refl
      ∙ ap (λ ps. map (missing_at file hwpt) (lacking has xs) ++ map (missing_at file hwpt) ps)
      (lacking_alike (is_known old.known) (there has xs) ys first.known)
      ∙ sym (map-append (missing_at file hwpt) (lacking has xs) (lacking (there has xs) ys))
      ∙ ap (λ ps. map (missing_at file hwpt) ps) (sym (lacking-append has xs ys));
  known = λ other.
      rest.known other
      ∙ ap (λ b. b || list_any (λ place. is_place place other) ys) (first.known other)
      ∙ tidy (has other) (list_any (λ place. is_place place other) xs) (list_any (λ place. is_place place other) ys)
      ∙ ap (λ b. has other || b) (sym (list_any-append (λ place. is_place place other) xs ys));
}
  where
    has : TablePlace → Bool
    has = has_table tables file hwpt

    tidy : (a b c : Bool) → ((a || b) || c) ≡ (a || (b || c))
    tidy true b c = refl
    tidy false b c = refl

-- ---- lists of lists

-- places of a page, and then those of the pages after it
pub page_added : (level first count i : ℕ) (all old new : Gathered) (places : List TablePlace) → i < count
    → Adds old new (places_from level (first + i))
    → ((end : Gathered) → Adds old end (flat_map (places_from level) (range_with_len (first + i) (count - i)))
    → Adds all end places)
    → (end : Gathered) → Adds new end (flat_map (places_from level)
    (range_with_len (first + (i + 1)) (count - (i + 1)))) → Adds all end places
page_added level first count i all old new places less added before end rest =
    let k : count - i ≡ suc (count - (i + 1)) = omega (arith, less) in
    let next : first + i + 1 ≡ first + (i + 1) = omega arith in
    let more : Adds new end (flat_map (places_from level) (range_with_len (first + i + 1) (count - (i + 1)))) =
    subst (λ (n : ℕ). Adds new end (flat_map (places_from level) (range_with_len n (count - (i + 1)))))
    (sym next) rest in
    before end (subst (λ (n : ℕ). Adds old end (flat_map (places_from level) (range_with_len (first + i) n))) (sym k)
    (subst (Adds old end) (sym (flat_map-cons (places_from level) (first + i)
    (range_with_len (first + i + 1) (count - (i + 1)))))
    (adds_more old new end (places_from level (first + i)) _ added more)))

-- ---- areas

abbrev pub places_in : ℕ → List Area → FileNo → ObjId → List TablePlace
places_in level areas file ioas = flat_map (places_from level) (live_pages (areas_of areas file ioas))

-- one area, and then the others
pub first_area : (level : ℕ) (a : Area) (areas : List Area) (file : FileNo) (ioas : ObjId)
    → places_in level (a ∷ areas) file ioas
    ≡ cond (is_of file ioas a && is_live a.phase) (flat_map (places_from level) (pages_in a.span)) []
    ++ places_in level areas file ioas
first_area level a areas file ioas = by_tests (is_of file ioas a) (is_live a.phase) refl refl
  where
    by_tests : (p q : Bool) → is_of file ioas a ≡ p → is_live a.phase ≡ q → places_in level (a ∷ areas) file ioas
        ≡ cond (p && q) (flat_map (places_from level) (pages_in a.span)) [] ++ places_in level areas file ioas
    by_tests true true of live =
        ap (λ (rows : List Area). flat_map (places_from level) (live_pages rows)) (kept of)
        ∙ ap (λ (rows : List Area). flat_map (places_from level) (flat_map (λ (area : Area). pages_in area.span) rows))
        (lives live (filter (is_of file ioas) areas))
        ∙ flat_map-append (places_from level) (pages_in a.span) (live_pages (areas_of areas file ioas))
      where
        kept : is_of file ioas a ≡ true → areas_of (a ∷ areas) file ioas ≡ a ∷ areas_of areas file ioas
        kept of = rw of refl

        lives : is_live a.phase ≡ true → (rows : List Area) → filter (λ (area : Area). is_live area.phase) (a ∷ rows)
            ≡ a ∷ filter (λ (area : Area). is_live area.phase) rows
        lives live rows = rw live refl
    by_tests true false of live =
        ap (λ (rows : List Area). flat_map (places_from level) (live_pages rows)) (kept of)
        ∙ ap (λ (rows : List Area). flat_map (places_from level) (flat_map (λ (area : Area). pages_in area.span) rows))
        (leaves live (filter (is_of file ioas) areas))
      where
        kept : is_of file ioas a ≡ true → areas_of (a ∷ areas) file ioas ≡ a ∷ areas_of areas file ioas
        kept of = rw of refl

        leaves : is_live a.phase ≡ false → (rows : List Area) → filter (λ (area : Area). is_live area.phase) (a ∷ rows)
            ≡ filter (λ (area : Area). is_live area.phase) rows
        leaves live rows = rw live refl
    by_tests false q of live = ap (λ (rows : List Area). flat_map (places_from level) (live_pages rows)) (other of)
      where
        other : is_of file ioas a ≡ false → areas_of (a ∷ areas) file ioas ≡ areas_of areas file ioas
        other of = rw of refl

pub area_added : (level : ℕ) (areas : List Area) (file : FileNo) (ioas : ObjId) (i : ℕ) (a : Area)
    (all old new : Gathered) (places : List TablePlace) → i < length areas → a ≡ get_or areas i a
    → Adds old new (cond (is_of file ioas a && is_live a.phase) (flat_map (places_from level) (pages_in a.span)) [])
    → ((end : Gathered) → Adds old end (places_in level (drop i areas) file ioas) → Adds all end places)
    → (end : Gathered) → Adds new end (places_in level (drop (i + 1) areas) file ioas) → Adds all end places
area_added level areas file ioas i a all old new places within is added before end rest =
    before end (subst (λ (rows : List Area). Adds old end (places_in level rows file ioas)) (sym cut)
    (subst (Adds old end) (sym (first_area level a (drop (i + 1) areas) file ioas))
    (adds_more old new end _ (places_in level (drop (i + 1) areas) file ioas) added rest)))
  where
    cut : drop i areas ≡ a ∷ drop (i + 1) areas
    cut = drop_more areas i a within ∙ ap (λ (x : Area). x ∷ drop (i + 1) areas) (sym is)

-- ---- the ends of the loops

pub page_on : (left page first : ℕ) (all old new : Gathered) (places : List TablePlace) → 0 < left
    → first ≡ first_address left page → Adds old new (record { level = left; first = first } ∷ [])
    → ((end : Gathered) → Adds old end (places_from left page) → Adds all end places)
    → (end : Gathered) → Adds new end (places_from (left - 1) page) → Adds all end places
page_on zero page first all old new places some is added before end rest = absurd (none some)
  where
    none : 0 < 0 → ⊥
    none less = omega (arith, less)
page_on (suc left) page first all old new places some is added before end rest =
    let less : suc left - 1 ≡ left = omega arith in
    before end (adds_more old new end (record { level = suc left; first = first_address (suc left) page } ∷ [])
    (places_from left page)
    (subst (λ (n : ℕ). Adds old new (record { level = suc left; first = n } ∷ [])) is added)
    (subst (λ (n : ℕ). Adds new end (places_from n page)) less rest))

pub page_end : (left page : ℕ) (all g : Gathered) (places : List TablePlace) → left ≤ 0
    → ((end : Gathered) → Adds g end (places_from left page) → Adds all end places) → Adds all g places
page_end left page all g places none before =
    let no : left ≡ 0 = omega (arith, none) in
    before g (subst (λ (n : ℕ). Adds g g (places_from n page)) (sym no) (adds_none g))

pub pages_end : (level first count i : ℕ) (all g : Gathered) (places : List TablePlace) → count ≤ i
    → ((end : Gathered) → Adds g end (flat_map (places_from level) (range_with_len (first + i) (count - i)))
    → Adds all end places) → Adds all g places
pages_end level first count i all g places past before =
    let no : count - i ≡ 0 = omega (arith, past) in
    before g (subst (λ (n : ℕ). Adds g g (flat_map (places_from level) (range_with_len (first + i) n))) (sym no)
    (adds_none g))

pub areas_end : (level : ℕ) (areas : List Area) (file : FileNo) (ioas : ObjId) (i : ℕ) (all g : Gathered)
    (places : List TablePlace) → length areas ≤ i
    → ((end : Gathered) → Adds g end (places_in level (drop i areas) file ioas) → Adds all end places)
    → Adds all g places
areas_end level areas file ioas i all g places past before =
    before g (subst (λ (rows : List Area). Adds g g (places_in level rows file ioas)) (sym (drop_all i areas past))
    (adds_none g))

-- ---- all that a page table lacks

pub gathered_all : (tables : List TableFrame) (file : FileNo) (hwpt : ObjId) (width : Width) (pages : List ℕ)
    (levels : ℕ) (old new : Gathered) (found : List MissingTable) → levels ≡ levels_of width
    → Lacks tables file hwpt old (root_place width ∷ [])
    → Adds old new (flat_map (places_from (levels - 1)) pages) → found ≡ new.found
    → found ≡ missing_in tables file hwpt width pages
gathered_all tables file hwpt width pages levels old new found at root rest is =
    is ∙ (lacks_more tables file hwpt old new (root_place width ∷ []) (flat_map (places_from
    (levels_of width - 1)) pages)
    root (subst (λ (n : ℕ). Adds old new (flat_map (places_from (n - 1)) pages)) at rest)).found
