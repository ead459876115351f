-- The frames of a table and of those below it are those of their rows.
use Rattle.std.proofs.Common.{◌≡◌, ◌≢◌, ℕ, zero, suc, ◌+◌, ◌-◌, ◌/◌, ◌%◌, ◌<◌, ◌≤◌, Bool, cond, eqb, Some, None, List}
use Rattle.std.proofs.Common.{[], ◌∷◌, ◌++◌, length, map, refl, sym, ◌∙◌, ap, subst, arith, ⊎_elim}
use Rattle.std.specs.List.{filter, flat_map, range_with_len}
use Rattle.std.specs.List.Sorted.{IsPermutation}
use Rattle.std.proofs.lemmas.Bool.{cond-false, cond-true, eq-eqb, ne_eqb}
use Rattle.std.proofs.lemmas.Grind.{flat_map-append}
use Rattle.std.proofs.lemmas.List.{append-nil, length-map, map-append}
use Rattle.std.proofs.lemmas.List.Sorted.{IsPermutation-append, IsPermutation-map, IsPermutation-refl}
use Rattle.std.proofs.lemmas.List.Sorted.{IsPermutation-trans, length_permutation}
use Rattle.iofd_words.specs.declared.numbers.FrameNo.{FrameNo}
use Rattle.frame_memory.specs.Pool.{FramePool}
use Rattle.page_table_words.specs.Entries.{entry_at, table_entry}
use Rattle.page_table_words.specs.Rows.{MappedPage, TableRow, table_at}
use Rattle.page_table_words.specs.Stands.{Stands}
use Rattle.page_table_words.specs.Under.{entry_count, frames_of_entry, frames_under}
use Rattle.page_table_words.proofs.Lookups.{cases_Option, same_frame, table_at-same}
use Rattle.page_table_words.proofs.RowsUnder.{all_under, before_all, child_above, child_index, child_page, is_before}
use Rattle.page_table_words.proofs.RowsUnder.{is_under, last_rows, next_rows, none_are_under, own_row}

pub entries-is : entry_count ≡ 512
unfolding entry_count
entries-is = refl

pub under_last : (pool : FramePool) (table : FrameNo) → frames_under pool 0 table ≡ table ∷ []
unfolding frames_under
under_last pool table = refl

pub under_more : (pool : FramePool) (below : ℕ) (table : FrameNo)
    → frames_under pool (suc below) table ≡ table
    ∷ flat_map (frames_of_entry pool below table) (range_with_len 0 entry_count)
unfolding frames_under frames_of_entry
under_more pool below table = refl

pub range_more : (from count : ℕ) → range_with_len from (count + 1) ≡ range_with_len from count ++ (from + count) ∷ []
range_more from zero = let same : from ≡ from + 0 = omega arith in ap (λ (n : ℕ). n ∷ []) same
range_more from (suc count) =
    let next : suc count + 1 ≡ suc (count + 1) = omega arith in
    let same : from + 1 + count ≡ from + suc count = omega arith in
    rw next (ap (λ (ns : List ℕ). from ∷ ns) (range_more (from + 1) count
    ∙ ap (λ (n : ℕ). range_with_len (from + 1) count ++ n ∷ []) same))

-- one entry more
pub entries_more : (f : ℕ → List FrameNo) (n : ℕ)
    → flat_map f (range_with_len 0 (n + 1)) ≡ flat_map f (range_with_len 0 n) ++ f n
entries_more f n =
    ap (flat_map f) (range_more 0 n) ∙ flat_map-append f (range_with_len 0 n) ((0 + n) ∷ [])
    ∙ ap (λ (k : ℕ). flat_map f (range_with_len 0 n) ++ (f k ++ [])) (let same : 0 + n ≡ n = omega arith in same)
    ∙ ap (λ (fs : List FrameNo). flat_map f (range_with_len 0 n) ++ fs) (append-nil (f n))

-- what an entry names
pub entry_absent : (pool : FramePool) (below : ℕ) (table : FrameNo) (i : ℕ) → entry_at pool table.0 i % 4 ≡ 0
    → frames_of_entry pool below table i ≡ []
unfolding frames_of_entry
entry_absent pool below table i absent =
    cond-true (eqb (entry_at pool table.0 i % 4) 0) []
    (frames_under pool below (record { 0 = entry_at pool table.0 i / 4096 })) (eq-eqb _ 0 absent)

pub entry_names : (pool : FramePool) (below : ℕ) (table next : FrameNo) (i : ℕ) → entry_at pool table.0 i % 4 ≢ 0
    → next.0 ≡ entry_at pool table.0 i / 4096 → frames_of_entry pool below table i ≡ frames_under pool below next
unfolding frames_of_entry
entry_names pool below table next i present named =
    cond-false (eqb (entry_at pool table.0 i % 4) 0) []
    (frames_under pool below (record { 0 = entry_at pool table.0 i / 4096 })) (ne_eqb _ 0 present)
    ∙ ap (frames_under pool below) (same_frame (record { 0 = entry_at pool table.0 i / 4096 }) next (sym named))

module _ (pool : FramePool) (levels : ℕ) (root : FrameNo) (rows : List TableRow) (pages : List MappedPage)
    (stands : Stands pool levels root rows pages) where
  -- the entry by which a child goes on
  pub child_entry : (level page i : ℕ) (table : FrameNo) → 1 < level → i < 512 → table_at rows level page ≡ Some table
      → entry_at pool table.0 i ≡ table_entry (table_at rows (level - 1) (child_page level page i))
  child_entry level page i table low small at =
      let child = child_page level page i in
      let at_child : table_at rows level child ≡ Some table =
      table_at-same rows level child page (child_above level page i low small) ∙ at in
      ap (entry_at pool table.0) (sym (child_index level page i low small))
      ∙ stands.entries level child table at_child low

  whole : (level page : ℕ) (all : List TableRow)
      → filter (is_before level page 512) all ≡ filter (is_under level page) all
  whole level page [] = refl
  whole level page (row ∷ all) =
      ap (λ (b : Bool). cond b (row ∷ filter (is_before level page 512) all) (filter (is_before level page 512) all))
      (before_all level page row)
      ∙ ap (λ (xs : List TableRow). cond (is_under level page row) (row ∷ xs) xs) (whole level page all)

  -- the frames of a table of the last level, and of one above it, where it holds of those below
  permute_last : (level page : ℕ) (table : FrameNo) → level ≡ 1 → table_at rows level page ≡ Some table
      → IsPermutation (frames_under pool 0 table)
      (map (λ (row : TableRow). row.frame) (filter (is_under level page) rows))
  permute_last level page table one at =
      let own : map (λ (row : TableRow). row.frame) (filter (is_under level page) rows) ≡ table ∷ [] =
      ap (λ (k : ℕ). map (λ (row : TableRow). row.frame) (filter (is_under k page) rows)) one
      ∙ ap (map (λ (row : TableRow). row.frame)) (sym (last_rows pool levels root rows pages stands page))
      ∙ own_row pool levels root rows pages stands 1 page table (ap (λ (k : ℕ). table_at rows k page) (sym one)
      ∙ at) in
      rw (own, under_last pool table) (IsPermutation-refl (table ∷ []))

  module _ (below level page : ℕ) (table : FrameNo) (is : level ≡ suc below + 1) (few : level ≤ levels)
      (at : table_at rows level page ≡ Some table)
      (rest : (page : ℕ) (table : FrameNo) → table_at rows (level - 1) page ≡ Some table
      → IsPermutation (frames_under pool below table)
      (map (λ (row : TableRow). row.frame) (filter (is_under (level - 1) page) rows))) where
    low : 1 < level
    low = omega (arith, is)

    child : (i : ℕ) → i < 512 → IsPermutation (frames_of_entry pool below table i)
        (map (λ (row : TableRow). row.frame) (filter (is_under (level - 1) (child_page level page i)) rows))
    child i small =
        let entry = child_entry level page i table low small at in
        ⊎_elim
        (λ (none : table_at rows (level - 1) (child_page level page i) ≡ None).
        let zero_entry = entry ∙ ap table_entry none in
        rw (
          entry_absent pool below table i (omega (arith, zero_entry)),
          none_are_under pool levels root rows pages stands (level - 1) (child_page level page i)
              (omega (arith, few)) none,
        ) (IsPermutation-refl []))
        (λ (some : (next : FrameNo) × (table_at rows (level - 1) (child_page level page i) ≡ Some next)).
        let named = entry ∙ ap table_entry some.1 in
        rw (entry_names pool below table some.0 i (omega (arith, named)) (omega (arith, named)))
        (rest (child_page level page i) some.0 some.1))
        (cases_Option (table_at rows (level - 1) (child_page level page i)))

    prefix : (n : ℕ) → n ≤ 512 → IsPermutation
        (table ∷ flat_map (frames_of_entry pool below table) (range_with_len 0 n))
        (map (λ (row : TableRow). row.frame) (filter (is_before level page n) rows))
    prefix zero few_entries =
        rw (own_row pool levels root rows pages stands level page table at) (IsPermutation-refl (table ∷ []))
    prefix (suc n) few_entries =
        let one_more : suc n ≡ n + 1 = omega arith in
        let small : n < 512 = omega (arith, few_entries) in
        let before = table ∷ flat_map (frames_of_entry pool below table) (range_with_len 0 n) in
        let named = frames_of_entry pool below table n in
        let rows_before = filter (is_before level page n) rows in
        let rows_named = filter (is_under (level - 1) (child_page level page n)) rows in
        let joined = IsPermutation-append before (map (λ (row : TableRow). row.frame) rows_before) named
        (map (λ (row : TableRow). row.frame) rows_named) (prefix n (omega (arith, few_entries))) (child n small) in
        let moved = IsPermutation-map (λ (row : TableRow). row.frame) (rows_before ++ rows_named)
        (filter (is_before level page (n + 1)) rows) (next_rows level page n low small rows) in
        subst (λ (m : ℕ). IsPermutation (table ∷ flat_map (frames_of_entry pool below table) (range_with_len 0 m))
        (map (λ (row : TableRow). row.frame) (filter (is_before level page m) rows))) (sym one_more)
        (subst (λ (frames : List FrameNo). IsPermutation (table ∷ frames)
        (map (λ (row : TableRow). row.frame) (filter (is_before level page (n + 1)) rows))) (sym
        (entries_more (frames_of_entry pool below table) n))
        (IsPermutation-trans (before ++ named) (map (λ (row : TableRow). row.frame) rows_before
        ++ map (λ (row : TableRow). row.frame) rows_named) (map (λ (row : TableRow). row.frame)
        (filter (is_before level page (n + 1)) rows)) joined
        (subst (λ (frames : List FrameNo). IsPermutation frames
        (map (λ (row : TableRow). row.frame) (filter (is_before level page (n + 1)) rows))) (map-append
        (λ (row : TableRow). row.frame) rows_before rows_named) moved)))

    permute_more : IsPermutation (frames_under pool (suc below) table)
        (map (λ (row : TableRow). row.frame) (filter (is_under level page) rows))
    permute_more =
        rw (under_more pool below table, entries-is)
        (subst (IsPermutation (table ∷ flat_map (frames_of_entry pool below table) (range_with_len 0 512)))
        (ap (map (λ (row : TableRow). row.frame)) (whole level page rows)) (prefix 512 (omega arith)))

  pub rows_permute : (below level page : ℕ) (table : FrameNo) → level ≡ below + 1 → level ≤ levels
      → table_at rows level page ≡ Some table → IsPermutation (frames_under pool below table)
      (map (λ (row : TableRow). row.frame) (filter (is_under level page) rows))
  rows_permute zero level page table is few at = permute_last level page table (omega (arith, is)) at
  rows_permute (suc below) level page table is few at =
      permute_more below level page table is few at
      (λ next_page next next_at. rows_permute below (level - 1) next_page next (omega (arith, is))
      (omega (arith, few)) next_at)

  -- those of the root are the frames of all rows
  pub all_permute : IsPermutation (frames_under pool (levels - 1) root) (map (λ (row : TableRow). row.frame) rows)
  all_permute =
      let some = (stands.level levels 0 root stands.at_root).0 in
      subst (λ (all : List TableRow). IsPermutation (frames_under pool (levels - 1) root)
      (map (λ (row : TableRow). row.frame) all)) (all_under pool levels root rows pages stands)
      (rows_permute (levels - 1) levels 0 root (omega (arith, some)) (omega arith) stands.at_root)

  -- so there are as many
  pub all_counted : length (frames_under pool (levels - 1) root) ≡ length rows
  all_counted = sym (length_permutation (frames_under pool (levels - 1) root) (map (λ (row : TableRow). row.frame) rows)
      all_permute) ∙ length-map rows (λ (row : TableRow). row.frame)
