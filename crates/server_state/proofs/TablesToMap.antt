-- How many tables the page tables over an address space lack to map a span: those of the words of the pool are those of
-- the refusals.
use Rattle.std.proofs.Common.{◌≡◌, ℕ, ◌≤◌, ◌<◌, ◌^◌, Bool, true, false, cond, eqb, leb, None, List, [], ◌∷◌, length}
use Rattle.std.proofs.Common.{map, sum_by, refl, sym, ◌∙◌, ap, subst, arith, inl, inr}
use Rattle.std.specs.List.{filter, list_all, list_any}
use Rattle.std.proofs.lemmas.Bool.Decides.{nat_tests}
use Rattle.std.proofs.lemmas.List.Sums.{count_by-le-length, length-filter, sum_by-cons}
use Rattle.page_table_set.specs.OverSpans.{HaveSpan, hwpts_over, is_over, tables_lacked, tables_needed}
use Rattle.page_table_set.specs.PageTables.{Hwpt}
use Rattle.iofd_rows.proofs.Widths.{same_width}
use Rattle.iofd_rows.proofs.Bools.{and_true, both_true, clash, or_false, or_none}
use Rattle.iofd_rows.proofs.Each.{IsIn, in_filter, of_any, of_each}
use Rattle.iofd_rows.proofs.ListTests.{false_else}
use Rattle.iofd_rows.proofs.Named.{file_is}
use Rattle.iofd_rows.proofs.Unusable.{by_rows}
use Rattle.iofd_rows.specs.Reached.{ends_in}
use Rattle.iofd_runs.proofs.TableCounts.{lacking_alike}
use Rattle.iofd_words.specs.Bounds.{Bounds}
use Rattle.iofd_refusals.specs.Checks as checks
use Rattle.iofd_words.specs.Limits.{first_outside}
use Rattle.iofd_words.specs.Objects.{is_hwpt, is_hwpt_over}
use Rattle.iofd_words.specs.Ranges.{meets_some}
use Rattle.iofd_words.specs.Span.{is_whole_pages, meets}
use Rattle.iofd_words.specs.TablePlaces.{TablePlace, has_table, lacking, pages_in, places_of}
use Rattle.iofd_words.specs.Usable.{beyond, beyond_table, unusable}
use Rattle.iofd_words.specs.View.{View}
use Rattle.iofd_words.specs.Width.{bits_of}
use Rattle.iofd_words.specs.declared.numbers.FileNo.{FileNo}
use Rattle.iofd_words.specs.declared.numbers.ObjId.{ObjId}
use Rattle.iofd_words.specs.declared.rows.Object.{Object}
use Rattle.iofd_words.specs.declared.rows.TableFrame.{TableFrame}
use Rattle.iofd_words.specs.declared.rows.ObjectKind.{ObjectKind}
use Rattle.iofd_words.specs.declared.rows.ObjectKind.TheVariants as kind
use Rattle.iofd_words.specs.declared.width.Width.{Width}
use Rattle.server_state.proofs.FewTables.{few_tables}
use Rattle.server_state.proofs.PageTables.{over_is_table, tables_known}
use Rattle.server_state.proofs.TablesTold.{tables_told}
use Rattle.server_state.specs.Held.{objects_in}
use Rattle.server_state.specs.Seen.{seen}
use Rattle.server_state.specs.Step.{IsKnown}
use Rattle.server_state.specs.Tables.{has_own_width, is_hwpt_of, page_tables_among}
use Rattle.server_state.specs.declared.state.State.{State}

-- ---- widths

-- a span that doesn't meet what lies beyond a width ends below its end
ends_below : (width : Width) (span : Bounds) → meets (beyond width) span ≡ false → span.first < 2 ^ 64
    → span.last < 2 ^ bits_of width
ends_below width span apart few = by_test (leb (2 ^ bits_of width) span.last) refl
  where
    begins : leb span.first 0xffff_ffff_ffff_ffff ≡ true
    begins = let low : span.first ≤ 0xffff_ffff_ffff_ffff = omega (arith, few) in search (low, arith, nat_tests)

    by_test : (b : Bool) → leb (2 ^ bits_of width) span.last ≡ b → span.last < 2 ^ bits_of width
    by_test true is = absurd (clash _ apart (both_true _ _ is begins))
    by_test false is = search (is, arith, nat_tests)

its_width : (h : Hwpt) (ioas : ObjId) (own : Width) (automatic : Bool) → h.object.kind ≡ kind.Hwpt ioas own automatic
    → has_own_width h ≡ true → own ≡ h.table.width
its_width h ioas own automatic is has = same_width own h.table.width (sym (ap (is_hwpt_of h.table.width) is) ∙ has)

-- ---- the span

in_objects : (tables : List Hwpt) (h : Hwpt) → IsIn tables h → IsIn (map (λ (x : Hwpt). x.object) tables) h.object
in_objects [] h within = absurd within
in_objects (t ∷ tables) h (inl same) = inl (ap (λ (x : Hwpt). x.object) same)
in_objects (t ∷ tables) h (inr later) = inr (in_objects tables h later)

module _ (objects : List Object) (tables : List Hwpt)
    (are : map (λ (h : Hwpt). h.object) tables ≡ page_tables_among objects)
    (widths : list_all has_own_width tables ≡ true) (file : FileNo) (ioas : ObjId) (span : Bounds) where
  -- a span that page tables translate, and of whole pages, lies in each of them
  pub have_span : is_whole_pages span ≡ true → list_any (ends_in file ioas span) objects ≡ false → span.first < 2 ^ 64
      → HaveSpan file ioas span tables
  have_span whole none few h within over =
      let among = in_filter (λ (o : Object). is_hwpt o.kind) objects h.object
      (subst (λ (os : List Object). IsIn os h.object) are (in_objects tables h within)) in
      record {
        whole = whole;
        below =
            by_kind h.object.kind refl (and_true (eqb h.object.file.0 file.0) (is_hwpt_over ioas h.object.kind) over).1
            (false_else _ (λ met. clash _ none (of_any (ends_in file ioas span) objects h.object among.0
            (both_true _ _ over met))));
      }
    where
      by_kind : (k : ObjectKind) → h.object.kind ≡ k → is_hwpt_over ioas k ≡ true
          → meets_some (beyond_table k) span ≡ false → span.last < 2 ^ bits_of h.table.width
      by_kind kind.Ioas is over apart = cc
      by_kind (kind.Device device) is over apart = cc
      by_kind (kind.Access attached) is over apart = cc
      by_kind (kind.Hwpt space own automatic) is over apart =
          subst (λ (width : Width). span.last < 2 ^ bits_of width)
          (its_width h space own automatic is (of_each has_own_width tables h widths within))
          (ends_below own span (sym (or_none (meets (beyond own) span)) ∙ apart) few)

  -- ---- the counts

  only_hwpts : (os : List Object) → filter (is_over file ioas) os ≡ filter (is_over file ioas) (page_tables_among os)
  only_hwpts [] = refl
  only_hwpts (o ∷ os) = by_test (is_hwpt o.kind) refl (is_over file ioas o) refl (only_hwpts os)
    where
      by_test : (b : Bool) → is_hwpt o.kind ≡ b → (c : Bool) → is_over file ioas o ≡ c
          → filter (is_over file ioas) os ≡ filter (is_over file ioas) (page_tables_among os)
          → cond c (o ∷ filter (is_over file ioas) os) (filter (is_over file ioas) os) ≡ filter (is_over file ioas)
          (cond b (o ∷ page_tables_among os) (page_tables_among os))
      by_test true is true over rest = rw over (ap (λ (l : List Object). o ∷ l) rest)
      by_test true is false over rest = rw over rest
      by_test false is true over rest = absurd
          (clash _ is (over_is_table ioas o.kind (and_true (eqb o.file.0 file.0) (is_hwpt_over ioas o.kind) over).1))
      by_test false is false over rest = rest

  -- page table by page table
  each_sum : (f : Object → ℕ) (g : Hwpt → ℕ) (some : List Hwpt)
      → ((h : Hwpt) → IsIn some h → is_over file ioas h.object ≡ true → f h.object ≡ g h)
      → sum_by f (filter (is_over file ioas) (map (λ (h : Hwpt). h.object) some)) ≡ sum_by g (hwpts_over file ioas some)
  each_sum f g [] same = refl
  each_sum f g (h ∷ some) same =
      by_test (is_over file ioas h.object) refl (each_sum f g some (λ other within. same other (inr within)))
    where
      by_test : (b : Bool) → is_over file ioas h.object ≡ b
          → sum_by f (filter (is_over file ioas) (map (λ (x : Hwpt). x.object) some)) ≡ sum_by g
          (hwpts_over file ioas some)
          → sum_by f (cond b (h.object ∷ filter (is_over file ioas) (map (λ (x : Hwpt). x.object) some))
          (filter (is_over file ioas) (map (λ (x : Hwpt). x.object) some))) ≡ sum_by g (cond b
          (h ∷ hwpts_over file ioas some) (hwpts_over file ioas some))
      by_test true over rest =
          sum_by-cons f h.object (filter (is_over file ioas) (map (λ (x : Hwpt). x.object) some))
          ∙ rw (same h (inl refl) over, rest) (sym (sum_by-cons g h (hwpts_over file ioas some)))
      by_test false over rest = rest

  module _ (v : View) (rows : List TableFrame) (told : (f : FileNo) (id : ObjId) (place : TablePlace)
      → v.has_table f id place ≡ has_table rows f id place) where
    same_lacked : (h : Hwpt) → has_own_width h ≡ true → is_over file ioas h.object ≡ true
        → checks.tables_lacked v file h.object.id (pages_in span) h.object.kind ≡ tables_lacked rows span h
    same_lacked h own over = by_kind h.object.kind refl
      where
        names : (eqb h.object.file.0 file.0 ≡ true) × (is_hwpt_over ioas h.object.kind ≡ true)
        names = and_true (eqb h.object.file.0 file.0) (is_hwpt_over ioas h.object.kind) over

        by_kind : (k : ObjectKind) → h.object.kind ≡ k
            → checks.tables_lacked v file h.object.id (pages_in span) k ≡ tables_lacked rows span h
        by_kind kind.Ioas is = let none = ap (is_hwpt_over ioas) is in absurd (clash _ none names.1)
        by_kind (kind.Device device) is = let none = ap (is_hwpt_over ioas) is in absurd (clash _ none names.1)
        by_kind (kind.Access attached) is = let none = ap (is_hwpt_over ioas) is in absurd (clash _ none names.1)
        by_kind (kind.Hwpt space width automatic) is =
            ap (λ (w : Width). length (lacking (v.has_table file h.object.id) (places_of w (pages_in span))))
            (its_width h space width automatic is own)
            ∙ ap length (lacking_alike (v.has_table file h.object.id) (has_table rows h.object.file h.object.id)
            (places_of h.table.width (pages_in span))
            (λ place. told file h.object.id place ∙ ap (λ (f : FileNo). has_table rows f h.object.id place)
            (sym (file_is h.object.file file names.0))))

    pub same_needed : v.objects ≡ objects → tables_needed rows file ioas span
        tables ≡ checks.tables_to_map v file ioas span
    same_needed kept =
        sym
        (ap (λ (os : List Object). sum_by (λ (o : Object). checks.tables_lacked v file o.id (pages_in span) o.kind)
        (filter (is_over file ioas) os)) kept
        ∙ ap (sum_by (λ (o : Object). checks.tables_lacked v file o.id (pages_in span) o.kind)) (only_hwpts objects
        ∙ ap (filter (is_over file ioas)) (sym are))
        ∙ each_sum (λ (o : Object). checks.tables_lacked v file o.id (pages_in span) o.kind) (tables_lacked rows span)
        tables (λ h within over. same_lacked h (of_each has_own_width tables h widths within) over))

-- ---- of what is kept

module _ {A : Type 0} (s : State A) (known : IsKnown s) (file : FileNo) (ioas : ObjId) (span : Bounds) where
  pub known_span : is_whole_pages span ≡ true
      → meets_some (unusable s.config (objects_in s.objects) s.attachments.items file ioas) span ≡ false
      → span.first < 2 ^ 64 → HaveSpan file ioas span s.page_tables.tables
  known_span whole clear few =
      let parts = or_false (list_any (ends_in file ioas span) (objects_in s.objects)) _
      (sym (by_rows s.config (objects_in s.objects) s.attachments.items file ioas span) ∙ clear) in
      have_span (objects_in s.objects) s.page_tables.tables (tables_known s known) known.shows.tables.widths file
      ioas span whole parts.0 few

  pub known_few : first_outside s.config ≡ None → length (hwpts_over file ioas s.page_tables.tables) ≤ 65535
  known_few within =
      let all = few_tables known.world s known.shows (rw known.shows.settings within) in
      let counted = length-filter (λ (h : Hwpt). is_over file ioas h.object) s.page_tables.tables in
      let some = count_by-le-length (λ (h : Hwpt). is_over file ioas h.object) s.page_tables.tables in
      omega (arith, all, counted, some)

  pub known_needed : tables_needed known.world.table_frames file ioas span
      s.page_tables.tables ≡ checks.tables_to_map (seen s) file ioas span
  known_needed =
      same_needed (objects_in s.objects) s.page_tables.tables (tables_known s known) known.shows.tables.widths file ioas
      span (seen s) known.world.table_frames
      (tables_told known.world s.page_tables s.pool known.shows.tables known.tidy.tabled.owned) refl
