-- The tables that pages lack one after another.
use Rattle.std.proofs.Common.{◌≡◌, ℕ, zero, suc, ◌+◌, ◌-◌, ◌≤◌, Bool, ◌||◌, List, [], ◌∷◌, ◌++◌, length, refl, sym, ◌∙◌}
use Rattle.std.proofs.Common.{ap, arith}
use Rattle.std.specs.List.{flat_map, range_with_len}
use Rattle.std.proofs.lemmas.Grind.{flat_map-append}
use Rattle.std.proofs.lemmas.List.{append_assoc, append-nil, length-append}
use Rattle.std.proofs.lemmas.List.Concat.{flat_map-cons}
use Rattle.std.proofs.lemmas.List.Folds.{list_any-append}
use Rattle.iofd_words.specs.declared.numbers.FrameNo.{FrameNo}
use Rattle.iofd_words.specs.Levels.{levels_of}
use Rattle.iofd_words.specs.TablePlaces.{TablePlace, is_place, lacking, places_from}
use Rattle.frame_memory.specs.Pool.{FramePool, free_count}
use Rattle.page_table_words.specs.Mapped.{IsBelow}
use Rattle.page_table_words.specs.Rows.{MappedPage, TableRow}
use Rattle.page_table_words.specs.Stands.{TableRoot, TableStands}
use Rattle.page_table_words.specs.Taken.{least_frames, missing, with_tables}
use Rattle.page_table_spans.specs.Spans.{frames_for, has_row, held_once, lacked, place_of, rows_in, with_lacked}
use Rattle.page_table_spans.proofs.Lacking.{are_with, lacking_append, lacking_same}
use Rattle.page_table_spans.proofs.LeastFrames.{least_in_turn, length_least}
use Rattle.page_table_spans.proofs.OnePage.{length_places, page_lacks, rows_of_page}

-- ---- rows of tables in frames

rows_in_turn : (ps qs : List TablePlace) (fs gs : List FrameNo) → length ps ≡ length fs
    → rows_in (ps ++ qs) (fs ++ gs) ≡ rows_in ps fs ++ rows_in qs gs
rows_in_turn [] qs [] gs same = refl
rows_in_turn [] qs (f ∷ fs) gs same = absurd (omega (arith, same))
rows_in_turn (p ∷ ps) qs [] gs same = absurd (omega (arith, same))
rows_in_turn (p ∷ ps) qs (f ∷ fs) gs same =
    ap (λ (rows : List TableRow). record { level = p.level; first = p.first; frame = f } ∷ rows)
    (rows_in_turn ps qs fs gs (omega (arith, same)))

has_rows_in : (ps : List TablePlace) (fs : List FrameNo) (place : TablePlace) → length ps ≡ length fs
    → has_row (rows_in ps fs) place ≡ are_with ps place
has_rows_in [] [] place same = refl
has_rows_in [] (f ∷ fs) place same = absurd (omega (arith, same))
has_rows_in (p ∷ ps) [] place same = absurd (omega (arith, same))
has_rows_in (p ∷ ps) (f ∷ fs) place same =
    ap (λ (b : Bool). is_place p place || b) (has_rows_in ps fs place (omega (arith, same)))

has_both : (rows more : List TableRow) (place : TablePlace)
    → has_row (rows ++ more) place ≡ (has_row rows place || has_row more place)
has_both rows more place = list_any-append (λ (row : TableRow). is_place (place_of row) place) rows more

-- ---- pages one after another

pub lacked_more : (rows : List TableRow) (levels : ℕ) (pages more : List ℕ)
    → lacked rows levels (pages ++ more) ≡ lacked rows levels pages
    ++ lacking (λ o. has_row rows o || are_with (lacked rows levels pages) o)
    (flat_map (places_from (levels - 1)) more)
lacked_more rows levels pages more =
    ap (lacking (has_row rows)) (flat_map-append (places_from (levels - 1)) pages more)
    ∙ lacking_append (has_row rows) (flat_map (places_from (levels - 1)) pages)
    (flat_map (places_from (levels - 1)) more)

-- so many pages lack no more tables than they do with others
pub lacked_fewer : (rows : List TableRow) (levels : ℕ) (pages more : List ℕ)
    → length (lacked rows levels pages) ≤ length (lacked rows levels (pages ++ more))
lacked_fewer rows levels pages more =
    let all = ap (λ (ps : List TablePlace). length ps) (lacked_more rows levels pages more) in
    let sum = length-append (lacked rows levels pages)
    (lacking (λ o. has_row rows o || are_with (lacked rows levels pages) o)
    (flat_map (places_from (levels - 1)) more)) in
    omega (arith, all, sum)

pub range_parts : (a m n : ℕ) → range_with_len a (m + n) ≡ range_with_len a m ++ range_with_len (a + m) n
range_parts a zero n = let none : 0 + n ≡ n = omega arith in let same : a ≡ a + 0 =
    omega arith in ap (range_with_len a) none ∙ ap (λ (k : ℕ). range_with_len k n) same
range_parts a (suc m) n =
    let more : suc m + n ≡ suc (m + n) = omega arith in
    let same : a + 1 + m ≡ a + suc m = omega arith in
    ap (range_with_len a) more ∙ ap (λ (xs : List ℕ). a ∷ xs) (range_parts (a + 1) m n
    ∙ ap (λ (k : ℕ). range_with_len (a + 1) m ++ range_with_len k n) same)

module _ (rows : List TableRow) (levels : ℕ) (pages : List ℕ) (holds : List ℕ)
    (free : length (lacked rows levels pages) ≤ free_count holds) where
  long : length (lacked rows levels pages) ≡ length (frames_for (lacked rows levels pages) holds)
  long = sym (length_least holds (length (lacked rows levels pages)) free)

  -- what more pages lack, with the tables for the first ones
  pub lacked_then : (more : List ℕ) → lacked rows levels (pages ++ more) ≡ lacked rows levels pages
      ++ lacked (with_lacked rows levels pages holds) levels more
  lacked_then more =
      lacked_more rows levels pages more
      ∙ ap (λ (ps : List TablePlace). lacked rows levels pages ++ ps)
      (lacking_same (λ o. has_row rows o || are_with (lacked rows levels pages) o)
      (has_row (with_lacked rows levels pages holds)) (flat_map (places_from (levels - 1)) more)
      (λ o. sym (has_both rows (rows_in (lacked rows levels pages) (frames_for (lacked rows levels pages) holds)) o
      ∙ ap (λ (b : Bool). has_row rows o || b)
      (has_rows_in (lacked rows levels pages) (frames_for (lacked rows levels pages) holds) o long))))

  frames_then : (ps : List TablePlace) → frames_for (lacked rows levels pages ++ ps) holds ≡ frames_for
      (lacked rows levels pages) holds ++ frames_for ps (held_once holds (frames_for (lacked rows levels pages) holds))
  frames_then ps = ap (least_frames holds) (length-append (lacked rows levels pages) ps)
      ∙ least_in_turn holds (length (lacked rows levels pages)) (length ps)

  pub frames_of_all : (more : List ℕ) → frames_for (lacked rows levels (pages ++ more)) holds
      ≡ frames_for (lacked rows levels pages) holds
      ++ frames_for (lacked (with_lacked rows levels pages holds) levels more)
      (held_once holds (frames_for (lacked rows levels pages) holds))
  frames_of_all more = ap (λ (ps : List TablePlace). frames_for ps holds) (lacked_then more)
      ∙ frames_then (lacked (with_lacked rows levels pages holds) levels more)

  pub rows_of_all : (more : List ℕ) → with_lacked rows levels (pages ++ more) holds ≡ with_lacked
      (with_lacked rows levels pages holds) levels more (held_once holds (frames_for (lacked rows levels pages) holds))
  rows_of_all more =
      let first = lacked rows levels pages in
      let later = lacked (with_lacked rows levels pages holds) levels more in
      let held = held_once holds (frames_for first holds) in
      ap (λ (ps : List TablePlace). rows ++ rows_in ps (frames_for ps holds)) (lacked_then more)
      ∙ ap (λ (fs : List FrameNo). rows ++ rows_in (first ++ later) fs) (frames_then later)
      ∙ ap (λ (more_rows : List TableRow). rows ++ more_rows)
      (rows_in_turn first later (frames_for first holds) (frames_for later held) long)
      ∙ sym (append_assoc rows (rows_in first (frames_for first holds)) (rows_in later (frames_for later held)))

-- ---- one page

module _ (pool : FramePool) (table : TableRoot) (rows : List TableRow) (pages : List MappedPage) (page : ℕ)
    (stands : TableStands pool table rows pages) (below : IsBelow table.width page) where
  pub lacked_one : lacked rows (levels_of table.width) (page ∷ []) ≡ places_from
      (missing rows (levels_of table.width) page) page
  lacked_one =
      ap (lacking (has_row rows)) (flat_map-cons (places_from (levels_of table.width - 1)) page []
      ∙ append-nil (places_from (levels_of table.width - 1) page))
      ∙ page_lacks pool table rows pages page stands below

  pub length_one : length (lacked rows (levels_of table.width) (page ∷ [])) ≡ missing rows (levels_of table.width) page
  length_one = ap (λ (ps : List TablePlace). length ps) lacked_one
      ∙ length_places (missing rows (levels_of table.width) page) page

  pub rows_of_one : missing rows (levels_of table.width) page ≤ free_count pool.holds
      → with_tables rows (levels_of table.width) page pool.holds ≡ with_lacked rows
      (levels_of table.width) (page ∷ []) pool.holds
  rows_of_one free =
      let n = missing rows (levels_of table.width) page in
      let long = length_least pool.holds n free in
      ap (λ (more : List TableRow). rows ++ more)
      (sym (rows_of_page n page (least_frames pool.holds n) (omega (arith, long))))
      ∙ ap (λ (k : ℕ). rows ++ rows_in (places_from n page) (least_frames pool.holds k)) (sym length_one)
      ∙ ap (λ (ps : List TablePlace). rows ++ rows_in ps
      (frames_for (lacked rows (levels_of table.width) (page ∷ [])) pool.holds)) (sym lacked_one)
