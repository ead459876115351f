-- A table that a page table needs isn't idle: a page of an area goes through it.
use Rattle.std.proofs.Common.{◌≡◌, ◌⊎◌, inl, inr, ℕ, zero, suc, ◌+◌, ◌-◌, ◌*◌, ◌/◌, ◌%◌, ◌^◌, ◌<◌, ◌≤◌, true, false}
use Rattle.std.proofs.Common.{◌&&◌, eqb, leb, not, Option, Some, None, List, [], ◌∷◌, ◌++◌, refl, ap, subst, sym, ◌∙◌}
use Rattle.std.proofs.Common.{arith, ⊎_elim}
use Rattle.std.specs.List.{filter, flat_map, list_all, range_with_len}
use Rattle.std.proofs.lemmas.Bool.Decides.{nat_tests}
use Rattle.std.proofs.lemmas.List.Concat.{flat_map-cons}
use Rattle.iofd_rows.proofs.Bools.{and_true, both_true, clash}
use Rattle.iofd_rows.proofs.Each.{IsIn, in_filter, of_any, of_each}
use Rattle.iofd_rows.proofs.Found.{all_filter}
use Rattle.iofd_rows.proofs.ListTests.{false_else}
use Rattle.iofd_rows.proofs.Named.{kind_only}
use Rattle.iofd_rows.specs.Ids.{have_own_ids}
use Rattle.iofd_runs.proofs.MissingTables.{needed_places}
use Rattle.iofd_runs.specs.Fits.{begins_at_page}
use Rattle.iofd_words.specs.Areas.{areas_meet, areas_of, is_of}
use Rattle.iofd_words.specs.Levels.{first_address, levels_of}
use Rattle.iofd_words.specs.Objects.{kind_of}
use Rattle.iofd_words.specs.Pages.{page_of}
use Rattle.iofd_words.specs.Span.{meets, size_of, span_from}
use Rattle.iofd_words.specs.TablePlaces.{TablePlace, is_live, live_pages, pages_in, places_from, places_of, root_place}
use Rattle.iofd_words.specs.Tables.{is_below_root, is_idle, span_of_table}
use Rattle.iofd_words.specs.declared.numbers.FileNo.{FileNo}
use Rattle.iofd_words.specs.declared.numbers.ObjId.{ObjId}
use Rattle.iofd_words.specs.declared.rows.Area.{Area}
use Rattle.iofd_words.specs.declared.rows.Object.{Object}
use Rattle.iofd_words.specs.declared.rows.ObjectKind.{ObjectKind}
use Rattle.iofd_words.specs.declared.rows.ObjectKind.TheVariants as kind
use Rattle.iofd_words.specs.declared.rows.TableFrame.{TableFrame}
use Rattle.iofd_words.specs.declared.width.Width.{Width}
use Rattle.page_table_spans.proofs.IdleTables.{page_inside}

pub in_append : {X : Type 0} (xs ys : List X) (x : X) → IsIn (xs ++ ys) x → IsIn xs x ⊎ IsIn ys x
in_append [] ys x within = inr within
in_append (z ∷ xs) ys x (inl same) = inl (inl same)
in_append (z ∷ xs) ys x (inr later) =
    ⊎_elim (λ (first : IsIn xs x). inl (inr first)) (λ (second : IsIn ys x). inr second) (in_append xs ys x later)

in_flat_map : {X Y : Type 0} (f : X → List Y) (xs : List X) (y : Y) → IsIn (flat_map f xs) y
    → (x : X) × IsIn xs x × IsIn (f x) y
in_flat_map f [] y within = absurd within
in_flat_map {X = X} f (x ∷ xs) y within =
    ⊎_elim (λ (here : IsIn (f x) y). (x, inl refl, here))
    (λ (later : IsIn (flat_map f xs) y). let rest = in_flat_map f xs y later in (rest.0, inr rest.1, rest.2))
    (in_append (f x) (flat_map f xs) y (subst (λ (l : List _). IsIn l y) (flat_map-cons f x xs) within))

in_range : (start len n : ℕ) → IsIn (range_with_len start len) n → (start ≤ n) × (n < start + len)
in_range start zero n within = absurd within
in_range start (suc len) n (inl same) = (omega (arith, same), omega (arith, same))
in_range start (suc len) n (inr later) =
    let rest = in_range (start + 1) len n later in (omega (arith, rest.0), omega (arith, rest.1))

place_is : (n page : ℕ) (p : TablePlace) → IsIn (places_from n page) p
    → (level : ℕ) × (p ≡ record { level = level; first = first_address level page })
place_is zero page p within = absurd within
place_is (suc n) page p (inl same) = (suc n, sym same)
place_is (suc n) page p (inr later) = place_is n page p later

-- an area's page lies in it
page_in : (area : Area) (page : ℕ) → begins_at_page area ≡ true → IsIn (pages_in area.span) page
    → (area.span.first ≤ page * 4096) × (page * 4096 ≤ area.span.last)
page_in area page begins within =
    let bounds = in_range (page_of area.span.first) (size_of area.span / 4096) page within in
    let first : area.span.first % 4096 ≡ 0 = search (begins, arith, nat_tests) in
    (omega (arith, first, bounds.0), omega (arith, first, bounds.0, bounds.1))

met_at : (level page : ℕ) (area : Area) → area.span.first ≤ page * 4096 → page * 4096 ≤ area.span.last
    → meets area.span (span_from (first_address level page) (2 ^ (9 * level + 12))) ≡ true
met_at level page area low high =
    let inside = page_inside level page in
    let begins : leb area.span.first (first_address level page + 2 ^ (9 * level + 12) - 1) ≡ true =
    (let is : area.span.first ≤ first_address level page + 2 ^ (9 * level + 12) - 1 = omega (arith, low, inside.1) in
    search (is, arith, nat_tests)) in
    let ends : leb (first_address level page) area.span.last ≡ true =
    (let is : first_address level page ≤ area.span.last = omega (arith, high, inside.0) in search (is, arith, nat_tests)) in
    both_true _ _ begins ends

-- a place below the root is met
pub used_place : (areas : List Area) (width : Width) (p : TablePlace) → list_all begins_at_page areas ≡ true
    → IsIn (places_of width (live_pages areas)) p
    → (p ≡ root_place width) ⊎ (areas_meet (span_from p.first (2 ^ (9 * p.level + 12))) areas ≡ true)
used_place areas width p begins (inl same) = inl (sym same)
used_place areas width p begins (inr later) =
    let (page, in_pages, in_places) =
    in_flat_map (places_from (levels_of width - 1)) (live_pages areas) p later in
    let (area, in_live, here) = in_flat_map (λ (a : Area). pages_in a.span)
    (filter (λ (a : Area). is_live a.phase) areas) page in_pages in
    let among = (in_filter (λ (a : Area). is_live a.phase) areas area in_live).0 in
    let bounds = page_in area page (of_each begins_at_page areas area begins among) here in
    let place = place_is (levels_of width - 1) page p in_places in
    inr (subst (λ (q : TablePlace). areas_meet (span_from q.first (2 ^ (9 * q.level + 12))) areas ≡ true) (sym place.1)
    (of_any (λ (a : Area). meets a.span (span_from (first_address place.0 page) (2 ^ (9 * place.0 + 12)))) areas area among
    (met_at place.0 page area bounds.0 bounds.1)))

-- so its table isn't idle
pub used_table : (objects : List Object) (areas : List Area) (o : Object) (p : TablePlace) (t : TableFrame)
    → have_own_ids objects ≡ true → list_all begins_at_page areas ≡ true → IsIn objects o
    → IsIn (needed_places areas o.file o.kind) p → t.file ≡ o.file → t.hwpt ≡ o.id → t.level ≡ p.level
    → t.first.0 ≡ p.first → (file : FileNo) (ioas : ObjId) → is_idle objects areas file ioas t ≡ false
used_table objects areas o p t own begins there needed of_file of_id level first file ioas =
    false_else (is_idle objects areas file ioas t) (λ idle. never idle)
  where
    by_kind : (k : ObjectKind) → IsIn (needed_places areas o.file k) p
        → is_below_root ioas t k ≡ true → not (areas_meet (span_of_table t) (areas_of areas file ioas)) ≡ true
        → o.file.0 ≡ file.0 → ⊥
    by_kind kind.Ioas within below unmet same = absurd within
    by_kind (kind.Hwpt over width automatic) within below unmet same =
        let parts = and_true (eqb over.0 ioas.0) (not (eqb t.level (levels_of width))) below in
        let of : over.0 ≡ ioas.0 = let is = parts.0 in search (is, arith, nat_tests) in
        let spaces : areas_of areas o.file over ≡ areas_of areas file ioas =
        ap (λ (n : ℕ). filter (λ (a : Area). eqb a.file.0 n && eqb a.ioas.0 over.0) areas) same
        ∙ ap (λ (n : ℕ). filter (λ (a : Area). eqb a.file.0 file.0 && eqb a.ioas.0 n) areas) of in
        ⊎_elim
        (λ (root : p ≡ root_place width).
        let top : t.level ≡ levels_of width = level ∙ ap (λ (q : TablePlace). q.level) root in
        let is : eqb t.level (levels_of width) ≡ true = search (top, arith, nat_tests) in
        clash _ (ap not is) parts.1)
        (λ (met : areas_meet (span_from p.first (2 ^ (9 * p.level + 12))) (areas_of areas o.file over) ≡ true).
        let here : areas_meet (span_of_table t) (areas_of areas file ioas) ≡ true =
        ap (λ (n : ℕ). areas_meet (span_from n (2 ^ (9 * t.level + 12))) (areas_of areas file ioas)) first
        ∙ ap (λ (n : ℕ). areas_meet (span_from p.first (2 ^ (9 * n + 12))) (areas_of areas file ioas)) level
        ∙ ap (areas_meet (span_from p.first (2 ^ (9 * p.level + 12)))) (sym spaces) ∙ met in
        clash _ (ap not here) unmet)
        (used_place (areas_of areas o.file over) width p (all_filter begins_at_page (is_of o.file over) areas begins) within)
    by_kind (kind.Device device) within below unmet same = absurd within
    by_kind (kind.Access attached) within below unmet same = absurd within

    never : is_idle objects areas file ioas t ≡ true → ⊥
    never idle =
        let parts = and_true (eqb t.file.0 file.0
        && elim (kind_of objects t.file t.hwpt) [ Some k ↦ is_below_root ioas t k | None ↦ false ])
        (not (areas_meet (span_of_table t) (areas_of areas file ioas))) idle in
        let more = and_true (eqb t.file.0 file.0)
        (elim (kind_of objects t.file t.hwpt) [ Some k ↦ is_below_root ioas t k | None ↦ false ]) parts.0 in
        let found : kind_of objects t.file t.hwpt ≡ Some o.kind =
        ap (λ (f : FileNo). kind_of objects f t.hwpt) of_file ∙ ap (kind_of objects o.file) of_id
        ∙ kind_only objects o own there in
        let below : is_below_root ioas t o.kind ≡ true =
        sym (ap (λ (k : Option ObjectKind). elim k [ Some k ↦ is_below_root ioas t k | None ↦ false ]) found) ∙ more.1 in
        let same : o.file.0 ≡ file.0 =
        ap (λ (f : FileNo). f.0) (sym of_file) ∙ (let is = more.0 in search (is, arith, nat_tests)) in
        by_kind o.kind needed below parts.1 same
