-- A table that is needed isn't idle; so none is missing once idle tables have gone.
use Rattle.std.proofs.Common.{◌≡◌, ◌<◌, ◌≤◌, ℕ, ◌+◌, ◌-◌, ◌*◌, ◌/◌, ◌%◌, ◌^◌, zero, suc, Bool, true, false, ◌&&◌}
use Rattle.std.proofs.Common.{◌||◌, not, eqb, leb, Option, Some, None, List, [], refl, sym, ap, subst, ◌∙◌, inl, inr}
use Rattle.std.proofs.Common.{arith}
use Rattle.std.specs.List.{filter, list_all, range_with_len}
use Rattle.std.proofs.lemmas.Bool.Decides.{nat_tests}
use Rattle.std.proofs.Math.Nat.{div-add-mod, mod-lt, one-le-pow, pow-le-pow_right}
use Rattle.std.proofs.lemmas.Nat.{pow-add}
use Rattle.iofd_rows.specs.Ids.{have_own_ids}
use Rattle.iofd_rows.proofs.Bools.{and_true, both_true, clash}
use Rattle.iofd_rows.proofs.Each.{IsIn, in_filter, of_all, of_any, of_each}
use Rattle.iofd_rows.proofs.ListTests.{any-filter}
use Rattle.iofd_rows.proofs.Named.{file_is, id_is, kind_only}
use Rattle.iofd_runs.proofs.MissingTables.{all_needed, has_needed, needed_places, none_missing}
use Rattle.iofd_runs.proofs.StillTabled.{orphan_is}
use Rattle.iofd_words.specs.Areas.{areas_meet, areas_of}
use Rattle.iofd_words.specs.Levels.{first_address, levels_of, number_at}
use Rattle.iofd_words.specs.Objects.{kind_of}
use Rattle.iofd_words.specs.Span.{meets}
use Rattle.iofd_words.specs.TablePlaces.{TablePlace, has_table, is_live, is_place, is_table_of, live_pages, pages_in}
use Rattle.iofd_words.specs.TablePlaces.{place_of, places_from, places_of}
use Rattle.iofd_words.specs.Tables.{is_among, is_below_root, is_orphan, kept_tables, missing_tables, span_of_table}
use Rattle.iofd_words.specs.declared.numbers.FileNo.{FileNo}
use Rattle.iofd_words.specs.declared.numbers.FrameNo.{FrameNo}
use Rattle.iofd_words.specs.declared.numbers.ObjId.{ObjId}
use Rattle.iofd_words.specs.declared.rows.Area.{Area}
use Rattle.iofd_words.specs.declared.rows.Object.{Object}
use Rattle.iofd_words.specs.declared.rows.ObjectKind.{ObjectKind}
use Rattle.iofd_words.specs.declared.rows.ObjectKind.TheVariants as kind
use Rattle.iofd_words.specs.declared.rows.TableFrame.{TableFrame}
use Rattle.iofd_words.specs.declared.width.Width.{Width}
use Rattle.journal_audit_tables.specs.Moved.{is_idle_in}
use Rattle.journal_audit_tables.proofs.Named.{found_row, in_flat_map}

-- ---- a level above those that address spaces have

pub above_all : (first level address : ℕ) → 6 ≤ level → address < 2 ^ 64
    → true ≡ leb address (first + 2 ^ (9 * level + 12) - 1)
above_all first level address high small =
    let more : 66 ≤ 9 * level + 12 = omega (arith, high) in
    let some : 0 < 2 = omega arith in
    let large = pow-le-pow_right some more in
    least (2 ^ (9 * level + 12)) large
  where
    least : (n : ℕ) → 2 ^ 66 ≤ n → true ≡ leb address (first + n - 1)
    least n large =
        let below : address ≤ first + n - 1 = omega (arith, large, small) in
        sym (test address (first + n - 1) below)
      where
        test : (a b : ℕ) → a ≤ b → leb a b ≡ true
        test a b less = grind (arith, nat_tests)

-- ---- numbers

-- the page goes through the table, and lies in the area
meet_at : (first last level start page : ℕ) → start ≡ first_address level page → first / 4096 ≤ page
    → page < first / 4096 + (last + 1 - first) / 4096
    → (leb first (start + 2 ^ (9 * level + 12) - 1) && leb start last) ≡ true
unfolding number_at
meet_at first last level start page is from to =
    let all = div-add-mod page (2 ^ (9 * level)) in
    let rest : page % 2 ^ (9 * level) < 2 ^ (9 * level) = mod-lt page (some (9 * level)) in
    let size : 2 ^ (9 * level + 12) ≡ 2 ^ (9 * level) * 4096 = pow-add 2 (9 * level) 12 in
    let begins : start ≡ (2 ^ (9 * level) * (page / 2 ^ (9 * level))) * 4096 =
    is ∙ ap (λ (n : ℕ). page / 2 ^ (9 * level) * n) size
    ∙ turned (page / 2 ^ (9 * level)) (2 ^ (9 * level)) in
    let both = plain first last page start (2 ^ (9 * level) * (page / 2 ^ (9 * level))) (page % 2 ^ (9 * level))
    (2 ^ (9 * level)) all rest begins from to in
    both_true _ _ (rw size (test first (start + 2 ^ (9 * level) * 4096 - 1) both.0)) (test start last both.1)
  where
    some : (n : ℕ) → 0 < 2 ^ n
    some n = omega (arith, one-le-pow n 2 (omega arith))

    test : (a b : ℕ) → a ≤ b → leb a b ≡ true
    test a b less = grind (arith, nat_tests)

    turned : (q p : ℕ) → q * (p * 4096) ≡ (p * q) * 4096
    turned q p = omega arith

    plain : (first last page start n r p : ℕ) → n + r ≡ page → r < p → start ≡ n * 4096 → first / 4096 ≤ page
        → page < first / 4096 + (last + 1 - first) / 4096
        → (first ≤ start + p * 4096 - 1) × (start ≤ last)
    plain first last page start n r p all rest begins from to =
        (omega (arith, all, rest, begins, from), omega (arith, all, begins, to))

in_range : (first count page : ℕ) → IsIn (range_with_len first count) page → (first ≤ page) × (page < first + count)
in_range first zero page within = absurd within
in_range first (suc count) page (inl same) = (
  subst (λ (n : ℕ). first ≤ n) same (omega arith),
  subst (λ
      (n : ℕ). n < first + suc count) same (omega arith),
)
in_range first (suc count) page (inr later) =
    let rest = in_range (first + 1) count page later in
    let low = rest.0 in let high = rest.1 in (omega (arith, low), omega (arith, high))

in_level : (level page : ℕ) (place : TablePlace) → IsIn (places_from level page) place
    → place.first ≡ first_address place.level page
in_level zero page place within = absurd within
in_level (suc level) page place (inl same) =
    sym (ap (λ (p : TablePlace). p.first) same)
    ∙ ap (λ (n : ℕ). first_address n page) (ap (λ (p : TablePlace). p.level) same)
in_level (suc level) page place (inr later) = in_level level page place later

-- ---- a table below the root that is needed

needed_meets : (areas : List Area) (file : FileNo) (ioas : ObjId) (width : Width) (place : TablePlace) (t : TableFrame)
    → IsIn (places_of width (live_pages (areas_of areas file ioas))) place → is_place (place_of t) place ≡ true
    → eqb t.level (levels_of width) ≡ false → areas_meet (span_of_table t) (areas_of areas file ioas) ≡ true
needed_meets areas file ioas width place t (inl root) is other =
    let parts = and_true (eqb t.level place.level) (eqb t.first.0 place.first) is in
    let at : eqb t.level (levels_of width) ≡ true = subst (λ (p : TablePlace). eqb t.level p.level ≡ true)
    (sym root) parts.0 in
    absurd (clash _ other at)
needed_meets areas file ioas width place t (inr below) is other =
    let parts = and_true (eqb t.level place.level) (eqb t.first.0 place.first) is in
    let (page, among, through) = in_flat_map (places_from (levels_of width - 1))
    (live_pages (areas_of areas file ioas)) place below in
    let (area, live, inside) = in_flat_map (λ (a : Area). pages_in a.span)
    (filter (λ (a : Area). is_live a.phase) (areas_of areas file ioas)) page among in
    let range = in_range (area.span.first / 4096) ((area.span.last + 1 - area.span.first) / 4096) page inside in
    let level : t.level ≡ place.level = same t.level place.level parts.0 in
    let first : t.first.0 ≡ place.first = same t.first.0 place.first parts.1 in
    let start : t.first.0 ≡ first_address t.level page =
    first ∙ in_level (levels_of width - 1) page place through ∙ ap (λ (n : ℕ). first_address n page) (sym level) in
    of_any (λ (a : Area). meets a.span (span_of_table t)) (areas_of areas file ioas) area
    (in_filter (λ (a : Area). is_live a.phase) (areas_of areas file ioas) area live).0
    (meet_at area.span.first area.span.last t.level t.first.0 page start range.0 range.1)
  where
    same : (m n : ℕ) → eqb m n ≡ true → m ≡ n
    same m n is = grind (arith, nat_tests)

-- ---- so it isn't idle

module _ (objects : List Object) (areas : List Area) (o : Object) (ioas : ObjId) (width : Width) (automatic : Bool)
    (here : kind_of objects o.file o.id ≡ Some (kind.Hwpt ioas width automatic)) where
  kind_here : (t : TableFrame) → is_table_of o.file o.id t ≡ true
      → kind_of objects t.file t.hwpt ≡ Some (kind.Hwpt ioas width automatic)
  kind_here t named =
      let names = and_true (eqb t.file.0 o.file.0) (eqb t.hwpt.0 o.id.0) named in
      ap (λ (f : FileNo). kind_of objects f t.hwpt) (file_is t.file o.file names.0)
      ∙ ap (kind_of objects o.file) (id_is t.hwpt o.id names.1) ∙ here

  not_idle : (space : Option (FileNo × ObjId)) (place : TablePlace) (t : TableFrame)
      → IsIn (places_of width (live_pages (areas_of areas o.file ioas))) place → is_table_of o.file o.id t ≡ true
      → is_place (place_of t) place ≡ true → is_idle_in objects areas space t ≡ false
  not_idle None place t needed named is = refl
  not_idle (Some space) place t needed named is =
      ap (λ (k : Option ObjectKind). eqb t.file.0 space.0.0
      && elim k [ Some kind ↦ is_below_root space.1 t kind | None ↦ false ]
      && not (areas_meet (span_of_table t) (areas_of areas space.0 space.1))) (kind_here t named)
      ∙ by_tests (eqb t.file.0 space.0.0) (eqb ioas.0 space.1.0) (eqb t.level (levels_of width)) refl refl refl
    where
      by_tests : (a b c : Bool) → eqb t.file.0 space.0.0 ≡ a → eqb ioas.0 space.1.0 ≡ b
          → eqb t.level (levels_of width) ≡ c
          → (a && (b && not c) && not (areas_meet (span_of_table t) (areas_of areas space.0 space.1))) ≡ false
      by_tests false b c of over at = refl
      by_tests true false c of over at = refl
      by_tests true true true of over at = refl
      by_tests true true false of over at =
          let names = and_true (eqb t.file.0 o.file.0) (eqb t.hwpt.0 o.id.0) named in
          let file : o.file ≡ space.0 = sym (file_is t.file o.file names.0) ∙ file_is t.file space.0 of in
          let met = needed_meets areas o.file ioas width place t needed is at in
          let there : areas_meet (span_of_table t) (areas_of areas space.0 space.1) ≡ true =
          ap (λ (f : FileNo). areas_meet (span_of_table t) (areas_of areas f space.1)) (sym file)
          ∙ ap (λ (i : ObjId). areas_meet (span_of_table t) (areas_of areas o.file i))
          (sym (id_is ioas space.1 over)) ∙ met in
          ap not there

-- ---- none is missing once orphans and idle tables have gone

pub none_kept_in : (objects : List Object) (areas : List Area) (space : Option (FileNo × ObjId))
    (given : List FrameNo) (tables : List TableFrame) → have_own_ids objects ≡ true
    → ((t : TableFrame) → IsIn tables t → is_among given t.frame ≡ true
    → (is_orphan objects t || is_idle_in objects areas space t) ≡ true)
    → missing_tables objects areas tables ≡ [] → missing_tables objects areas (kept_tables given tables) ≡ []
none_kept_in objects areas space given tables own only none =
    none_missing objects areas (kept_tables given tables)
    (of_all (has_needed areas (kept_tables given tables)) objects (λ o within. by_kind o o.kind refl within))
  where
    by_kind : (o : Object) (k : ObjectKind) → o.kind ≡ k → IsIn objects o
        → list_all (has_table (kept_tables given tables) o.file o.id) (needed_places areas o.file k) ≡ true
    by_kind o kind.Ioas is within = refl
    by_kind o (kind.Device device) is within = refl
    by_kind o (kind.Access attached) is within = refl
    by_kind o (kind.Hwpt ioas width automatic) is within =
        of_all (has_table (kept_tables given tables) o.file o.id)
        (places_of width (live_pages (areas_of areas o.file ioas)))
        (λ place needed. keep place needed (of_each (has_table tables o.file o.id)
        (places_of width (live_pages (areas_of areas o.file ioas))) place had needed))
      where
        had : list_all (has_table tables o.file o.id) (places_of width (live_pages (areas_of areas o.file ioas))) ≡ true
        had = subst (λ k. list_all (has_table tables o.file o.id) (needed_places areas o.file k) ≡ true) is
            (of_each (has_needed areas tables) objects o (all_needed objects areas tables none) within)

        here : kind_of objects o.file o.id ≡ Some (kind.Hwpt ioas width automatic)
        here = kind_only objects o own within ∙ ap Some is

        stays : (place : TablePlace) (t : TableFrame)
            → IsIn (places_of width (live_pages (areas_of areas o.file ioas))) place → IsIn tables t
            → is_table_of o.file o.id t ≡ true → is_place (place_of t) place ≡ true
            → (b : Bool) → is_among given t.frame ≡ b → not b ≡ true
        stays place t needed at named is false among = refl
        stays place t needed at named is true among =
            let gone = only t at among in
            let orphan : is_orphan objects t ≡ false =
            orphan_is objects t (Some (kind.Hwpt ioas width automatic))
            (kind_here objects areas o ioas width automatic here t named) in
            let idle = not_idle objects areas o ioas width automatic here space place t needed named is in
            absurd (clash _ idle (sym (ap (λ b. b || is_idle_in objects areas space t) orphan) ∙ gone))

        keep : (place : TablePlace) → IsIn (places_of width (live_pages (areas_of areas o.file ioas))) place
            → has_table tables o.file o.id place ≡ true → has_table (kept_tables given tables) o.file o.id place ≡ true
        keep place needed has =
            let (t, at, passes) = found_row (λ (t : TableFrame). is_table_of o.file o.id t && is_place
            (place_of t) place)
            tables has in
            let parts = and_true (is_table_of o.file o.id t) (is_place (place_of t) place) passes in
            any-filter (λ (t : TableFrame). is_table_of o.file o.id t && is_place (place_of t) place)
            (λ (t : TableFrame). not (is_among given t.frame)) tables
            ∙ of_any (λ (t : TableFrame). not (is_among given t.frame)
            && (is_table_of o.file o.id t && is_place (place_of t) place)) tables t at
            (both_true _ _ (stays place t needed at parts.0 parts.1 (is_among given t.frame) refl) passes)
