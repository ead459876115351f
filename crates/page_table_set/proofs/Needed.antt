-- How many tables the page tables over an address space lack.
use Rattle.std.proofs.Common.{◌≡◌, ℕ, zero, suc, ◌+◌, ◌-◌, ◌*◌, ◌/◌, ◌^◌, ◌<◌, ◌≤◌, Bool, true, false, cond, ◌||◌}
use Rattle.std.proofs.Common.{Option, List, [], ◌∷◌, ◌++◌, append-nil, get_or, length, length-append, take, ap, subst}
use Rattle.std.proofs.Common.{sym, ◌∙◌, arith}
use Rattle.std.specs.List.{flat_map, sum_by}
use Rattle.std.proofs.Math.Seq.{take-suc}
use Rattle.std.proofs.lemmas.List.Concat.{flat_map-cons}
use Rattle.std.proofs.lemmas.List.Elements.{filter-append}
use Rattle.std.proofs.lemmas.List.FromFn.{length-range_with_len}
use Rattle.std.proofs.lemmas.List.Sums.{sum_by-append, sum_by-cons}
use Rattle.iofd_words.specs.Bounds.{Bounds}
use Rattle.iofd_words.specs.Levels.{first_address, levels_of}
use Rattle.iofd_words.specs.Pages.{page_of}
use Rattle.iofd_words.specs.Span.{size_of}
use Rattle.iofd_words.specs.TablePlaces.{TablePlace, has_table, is_place, lacking, pages_in, places_from, root_place}
use Rattle.iofd_words.specs.Width.{bits_of}
use Rattle.iofd_words.specs.declared.numbers.FileNo.{FileNo}
use Rattle.iofd_words.specs.declared.numbers.ObjId.{ObjId}
use Rattle.iofd_words.specs.declared.rows.Object.{Object}
use Rattle.iofd_words.specs.declared.rows.TableFrame.{TableFrame}
use Rattle.iofd_words.specs.declared.width.Width.{Width}
use Rattle.iofd_words.specs.declared.width.Width.TheVariants.{Bits39, Bits48, Bits57}
use Rattle.frame_memory.specs.Pool.{FramePool}
use Rattle.page_table_spans.proofs.Lacking.{lacking_same}
use Rattle.page_table_spans.proofs.OnePage.{length_places, row_there}
use Rattle.page_table_spans.specs.Spans as spans
use Rattle.page_table_spans.specs.Spans.{IsOfPages}
use Rattle.page_table_words.proofs.Lookups.{some_is}
use Rattle.page_table_words.proofs.Tops.{number-first}
use Rattle.page_table_words.specs.Mapped.{IsTable}
use Rattle.page_table_words.specs.Rows.{MappedPage, TableRow, table_at}
use Rattle.page_table_words.specs.Stands.{IfStands}
use Rattle.page_table_set.proofs.Kept.{rows_have}
use Rattle.page_table_set.proofs.Partly.{at_in}
use Rattle.page_table_set.specs.OverSpans.{HaveSpan, hwpts_over, is_over, places_lacked, tables_lacked, tables_needed}
use Rattle.page_table_set.specs.PageTables.{AllStand, Hwpt, HwptStands, rows_of}

-- ---- one page table

fewer_lacking : (there : TablePlace → Bool) (xs : List TablePlace) → length (lacking there xs) ≤ length xs
fewer_lacking there [] = omega arith
fewer_lacking there (x ∷ xs) =
    by_test (there x) (fewer_lacking there xs) (fewer_lacking (λ o. there o || is_place x o) xs)
  where
    by_test : (b : Bool) → length (lacking there xs) ≤ length xs
        → length (lacking (λ o. there o || is_place x o) xs) ≤ length xs
        → length (cond b (lacking there xs) (x ∷ lacking (λ o. there o || is_place x o) xs)) ≤ suc (length xs)
    by_test true one other = omega (arith, one)
    by_test false one other = omega (arith, other)

places_counted : (n : ℕ) (pages : List ℕ) → n ≤ 4 → length (flat_map (places_from n) pages) ≤ 4 * length pages
places_counted n [] few = omega arith
places_counted n (page ∷ pages) few =
    let rest = places_counted n pages few in
    let all = ap length (flat_map-cons (places_from n) page pages)
    ∙ length-append (places_from n page) (flat_map (places_from n) pages) in
    let one = length_places n page in
    omega (arith, rest, all, one, few)

pages_few : (width : Width) (span : Bounds) → span.last < 2 ^ bits_of width → size_of span / 4096 ≤ 2 ^ 45
pages_few Bits39 span below = omega arith
pages_few Bits48 span below = omega arith
pages_few Bits57 span below = omega arith

levels_few : (width : Width) → levels_of width - 1 ≤ 4
levels_few Bits39 = omega arith
levels_few Bits48 = omega arith
levels_few Bits57 = omega arith

-- each page lacks at most four
pub lacked_by_page : (rows : List TableRow) (width : Width) (span : Bounds)
    → length (spans.lacked rows (levels_of width) (pages_in span)) ≤ 4 * (size_of span / 4096)
lacked_by_page rows width span =
    let fewer = fewer_lacking (spans.has_row rows) (flat_map (places_from (levels_of width - 1)) (pages_in span)) in
    let places = places_counted (levels_of width - 1) (pages_in span) (levels_few width) in
    let pages = length-range_with_len (page_of span.first) (size_of span / 4096) in
    omega (arith, fewer, places, pages)

pub lacked_few : (rows : List TableRow) (width : Width) (span : Bounds) → IsOfPages width span
    → length (spans.lacked rows (levels_of width) (pages_in span)) ≤ 2 ^ 47
lacked_few rows width span of_pages =
    let most = lacked_by_page rows width span in
    let few = pages_few width span of_pages.below in
    omega (arith, most, few)

-- the root is there
pub lacked_places : (pool : FramePool) (frames : List TableFrame) (leads : ℕ
    → Option MappedPage) (h : Hwpt) (span : Bounds) → HwptStands pool frames leads h
    → places_lacked frames span h ≡ spans.lacked (rows_of frames h.object) (levels_of h.table.width) (pages_in span)
lacked_places pool frames leads h span stands =
    ap (λ (b : Bool). cond b (lacking there rest) (root_place h.table.width
    ∷ lacking (λ o. there o || is_place (root_place h.table.width) o) rest)) root
    ∙ lacking_same there (spans.has_row (rows_of frames h.object)) rest
    (λ place. rows_have frames h.object.file h.object.id place)
  where
    there : TablePlace → Bool
    there = has_table frames h.object.file h.object.id

    rest : List TablePlace
    rest = flat_map (places_from (levels_of h.table.width - 1)) (pages_in span)

    first : 0 ≡ first_address (levels_of h.table.width) 0
    first = let none = number-first (levels_of h.table.width) in rw none (omega arith)

    root : has_table frames h.object.file h.object.id (root_place h.table.width) ≡ true
    root =
        rows_have frames h.object.file h.object.id (root_place h.table.width)
        ∙ ap (λ (n : ℕ). spans.has_row (rows_of frames h.object)
        (record { level = levels_of h.table.width; first = n })) first
        ∙ row_there (rows_of frames h.object) (levels_of h.table.width) 0
        ∙ some_is (table_at (rows_of frames h.object) (levels_of h.table.width) 0) h.table.root stands.stands.at_root

lacked_is : (pool : FramePool) (frames : List TableFrame) (leads : ℕ → Option MappedPage) (h : Hwpt) (span : Bounds)
    → HwptStands pool frames leads h
    → tables_lacked frames span h ≡ length (spans.lacked (rows_of frames h.object)
    (levels_of h.table.width) (pages_in span))
lacked_is pool frames leads h span stands = ap length (lacked_places pool frames leads h span stands)

-- ---- those that were asked

module _ (tables : List Hwpt) (n : ℕ) (d : Hwpt) (within : n < length tables) (file : FileNo) (ioas : ObjId) where
  abbrev one : Hwpt
  one = get_or tables n d

  over_more : hwpts_over file ioas (take (n + 1) tables) ≡ hwpts_over file ioas (take n tables)
      ++ hwpts_over file ioas (one ∷ [])
  over_more =
      let next : n + 1 ≡ suc n = omega arith in
      ap (λ (k : ℕ). hwpts_over file ioas (take k tables)) next
      ∙ ap (hwpts_over file ioas) (take-suc tables n d within)
      ∙ filter-append (λ (h : Hwpt). is_over file ioas h.object) (take n tables) (one ∷ [])

  pub over_one : is_over file ioas one.object ≡ true
      → hwpts_over file ioas (take (n + 1) tables) ≡ hwpts_over file ioas (take n tables) ++ one ∷ []
  over_one over = over_more ∙ ap (λ (b : Bool). hwpts_over file ioas (take n tables) ++ cond b (one ∷ []) []) over

  pub over_same : is_over file ioas one.object ≡ false
      → hwpts_over file ioas (take (n + 1) tables) ≡ hwpts_over file ioas (take n tables)
  over_same other =
      over_more ∙ ap (λ (b : Bool). hwpts_over file ioas (take n tables) ++ cond b (one ∷ []) []) other
      ∙ append-nil (hwpts_over file ioas (take n tables))

  pub needed_more : (pool : FramePool) (frames : List TableFrame) (leads : Object → ℕ
      → Option MappedPage) (span : Bounds) (total more : ℕ)
      → is_over file ioas one.object ≡ true → HwptStands pool frames (leads one.object) one
      → IfStands pool one.table (λ rows pages. more ≡ length
      (spans.lacked rows (levels_of one.table.width) (pages_in span)))
      → total ≡ tables_needed frames file ioas span (take n tables)
      → total + more ≡ tables_needed frames file ioas span (take (n + 1) tables)
  needed_more pool frames leads span total more over stands counts so_far =
      let all = ap (sum_by (tables_lacked frames span)) (over_one over)
      ∙ sum_by-append (tables_lacked frames span) (hwpts_over file ioas (take n tables)) (one ∷ []) in
      let last = sum_by-cons (tables_lacked frames span) one [] in
      let is = lacked_is pool frames (leads one.object) one span stands in
      let asked = counts _ stands.pages stands.stands in
      omega (arith, all, last, is, asked, so_far)

  pub needed_same : (frames : List TableFrame) (span : Bounds) (total : ℕ) → is_over file ioas one.object ≡ false
      → total ≡ tables_needed frames file ioas span (take n tables)
      → total ≡ tables_needed frames file ioas span (take (n + 1) tables)
  needed_same frames span total other so_far = so_far ∙ sym (ap (sum_by (tables_lacked frames span)) (over_same other))

-- some of them are no more than all
pub over_few : (tables : List Hwpt) (n : ℕ) (file : FileNo) (ioas : ObjId)
    → length (hwpts_over file ioas (take n tables)) ≤ length (hwpts_over file ioas tables)
over_few [] zero file ioas = omega arith
over_few [] (suc n) file ioas = omega arith
over_few (t ∷ tables) zero file ioas = omega arith
over_few (t ∷ tables) (suc n) file ioas = by_test (is_over file ioas t.object) (over_few tables n file ioas)
  where
    by_test : (b : Bool) → length (hwpts_over file ioas (take n tables)) ≤ length (hwpts_over file ioas tables)
        → length (cond b (t ∷ hwpts_over file ioas (take n tables)) (hwpts_over file ioas (take n tables))) ≤ length
        (cond b (t ∷ hwpts_over file ioas tables) (hwpts_over file ioas tables))
    by_test true rest = omega (arith, rest)
    by_test false rest = rest

-- as a call has it, of the page table that it got
module _ (pool : FramePool) (frames : List TableFrame) (leads : Object → ℕ
    → Option MappedPage) (tables : List Hwpt) (stand : AllStand pool frames leads tables)
    (n : ℕ) (d : Hwpt) (within : n < length tables) (file : FileNo) (ioas : ObjId) (span : Bounds) (inside : Hwpt)
    (is : inside ≡ get_or tables n d) (over : is_over file ioas (get_or tables n d).object ≡ true) where
  pub its_table : IsTable pool inside.table
  its_table =
      let stands = stand.each (get_or tables n d) (at_in tables n d within) in
      subst (λ (h : Hwpt). IsTable pool h.table) (sym is) (record {
        rows = _;
        pages = stands.pages;
        stands = stands.stands;
      })

  pub its_span : HaveSpan file ioas span tables → IsOfPages inside.table.width span
  its_span have = subst (λ (h : Hwpt). IsOfPages h.table.width span) (sym is)
      (have (get_or tables n d) (at_in tables n d within) over)

  pub its_few : HaveSpan file ioas span tables → (more : ℕ)
      → IfStands pool inside.table (λ rows pages. more ≡ length
      (spans.lacked rows (levels_of inside.table.width) (pages_in span))) → more ≤ 2 ^ 47
  its_few have more counts =
      let table = its_table in
      let few = lacked_few table.rows inside.table.width span (its_span have) in
      let same = counts table.rows table.pages table.stands in
      omega (arith, few, same)

  pub its_needs : (total more : ℕ) → IfStands pool inside.table
      (λ rows pages. more ≡ length (spans.lacked rows (levels_of inside.table.width) (pages_in span)))
      → total ≡ tables_needed frames file ioas span (take n tables)
      → total + more ≡ tables_needed frames file ioas span (take (n + 1) tables)
  its_needs total more counts so_far =
      needed_more tables n d within file ioas pool frames leads span total more over
      (stand.each (get_or tables n d) (at_in tables n d within))
      (subst (λ (h : Hwpt). IfStands pool h.table
      (λ rows pages. more ≡ length (spans.lacked rows (levels_of h.table.width) (pages_in span)))) is
      counts) so_far
