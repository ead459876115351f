-- A page's entry that is written, in the table of the last level.
use Rattle.std.proofs.Common.{◌≡◌, ◌≢◌, ℕ, ◌+◌, ◌-◌, ◌*◌, ◌/◌, ◌^◌, ◌<◌, ◌≤◌, eqb, Option, Some, None, List, ◌++◌}
use Rattle.std.proofs.Common.{length, get_or, refl, sym, ◌∙◌, ap, subst, arith, ⊎_elim}
use Rattle.std.proofs.lemmas.Bool.{cases_eq, cond-false, cond-true, eq-eqb, false≢true, ne_eqb}
use Rattle.iofd_words.specs.Width.{bits_of}
use Rattle.iofd_words.specs.declared.flags.Rights.{Rights}
use Rattle.iofd_words.specs.declared.numbers.FrameNo.{FrameNo}
use Rattle.frame_memory.specs.Pool.{FramePool}
use Rattle.page_table_words.specs.Entries.{WritesEntry, page_entry}
use Rattle.page_table_words.specs.Extended.{Extends}
use Rattle.iofd_words.specs.Levels.{levels_of}
use Rattle.page_table_words.specs.Mapped.{Becomes}
use Rattle.page_table_words.specs.Reached.{EndsAt, IsLowest}
use Rattle.page_table_words.specs.Rows.{MappedPage, TableRow, page_at, table_at, with_page, without_page}
use Rattle.page_table_words.specs.Stands.{Stands, TableRoot, TableStands}
use Rattle.page_table_words.specs.Taken.{LeavesOthers, least_frames, missing, names, rows_below, with_tables}
use Rattle.page_table_words.proofs.LeafWritten.{LeadsTo, WritesLeaf, leaf_written}
use Rattle.page_table_words.proofs.Lookups.{both_some, named_table, none_or_some, page_at-with, page_at-without}
use Rattle.page_table_words.proofs.Missing.{missing_is}
use Rattle.page_table_words.proofs.Tables.{stands_alike, table_within}
use Rattle.page_table.proofs.Walking.{no_leaf, none_beyond}

writes_leaf : (old new : FramePool) (rows : List TableRow) (page : ℕ) (table : FrameNo) (to : Option MappedPage)
    → WritesEntry old new table.0 1 page (page_entry to) → WritesLeaf old new rows page table to
writes_leaf old new rows page table to writes = record {
  entry = writes.entry;
  holds = λ level at f is. ap (λ (holds : List ℕ). get_or holds f.0 0) writes.holds;
  words = λ level at i f is small apart. writes.others f.0 i apart;
}

still_others : (old mid new : FramePool) (rows : List TableRow) (level page : ℕ) (table : FrameNo) (value : ℕ)
    → LeavesOthers rows old mid → table_at rows level page ≡ Some table → WritesEntry mid new table.0 level page value
    → LeavesOthers rows old new
still_others old mid new rows level page table value left at writes = record {
  holds = λ f other. ap (λ (holds : List ℕ). get_or holds f 0) writes.holds ∙ left.holds f other;
  bytes = λ f other. writes.bytes f (λ same. false≢true (sym other ∙ ap (names rows) same
      ∙ named_table rows level page table at)) ∙ left.bytes f other;
  count = ap (λ (holds : List ℕ). length holds) writes.holds ∙ left.count;
}

-- ---- a page that is mapped

module _ (pages : List MappedPage) (page : ℕ) (frame : FrameNo) (rights : Rights) (some : 0 < rights.0)
    (few : rights.0 < 4) (small : frame.0 < 2 ^ 32) where
  to : MappedPage
  to = record { page = page; frame = frame; rights = rights }

  leads_there : LeadsTo pages (with_page pages page frame rights) page (Some to)
  unfolding to
  leads_there = record {
    is = page_at-with pages page frame rights;
    good = λ m is.
        let same = both_some (Some to) to m refl is in
        let rights_are = ap (λ (x : MappedPage). x.rights.0) same in
        let frame_is = ap (λ (x : MappedPage). x.frame.0) same in
        (omega (arith, rights_are, some), omega (arith, rights_are, few), omega (arith, frame_is, small));
  }

  module _ (old mid new : FramePool) (table : TableRoot) (rows : List TableRow) (level : ℕ)
      (lowest_table last : FrameNo) (stands : TableStands old table rows pages)
      (lowest : IsLowest rows level page lowest_table)
      (extends : Extends old mid (levels_of table.width) table.root rows pages level page last)
      (writes : WritesEntry mid new last.0 1 page (4096 * frame.0 + rights.0)) where
    lacks : missing rows (levels_of table.width) page ≡ level - 1
    lacks = missing_is old (levels_of table.width) table.root rows pages level page lowest_table stands lowest

    same_rows : rows ++ rows_below level page (least_frames old.holds (level - 1)) ≡ with_tables rows
        (levels_of table.width) page old.holds
    same_rows =
        let some_level = (stands.level level page lowest_table lowest.at).0 in
        let one_more : missing rows (levels_of table.width) page + 1 ≡ level = omega (arith, lacks, some_level) in
        ap (λ (n : ℕ). rows ++ rows_below n page (least_frames old.holds (level - 1))) (sym one_more)
        ∙ ap (λ (n : ℕ). rows ++ rows_below (missing rows (levels_of table.width) page + 1) page
        (least_frames old.holds n)) (sym lacks)

    pub page_mapped : Becomes old new table (with_tables rows (levels_of table.width) page old.holds)
        (with_page pages page frame rights)
    unfolding to
    page_mapped = record {
      stands = subst (λ (all : List TableRow). TableStands new table all (with_page pages page frame rights)) same_rows
          (leaf_written mid new (levels_of table.width) table.root
          (rows ++ rows_below level page (least_frames old.holds (level - 1))) pages
          (with_page pages page frame rights) page last (Some to) extends.stands extends.at
          (writes_leaf mid new _ page last (Some to) writes) leads_there);
      others = subst (λ (all : List TableRow). LeavesOthers all old new) same_rows
          (still_others old mid new (rows ++ rows_below level page (least_frames old.holds (level - 1))) 1 page last
          (4096 * frame.0 + rights.0) extends.others extends.at writes);
    }

-- the last level's table is one of the pool's frames
pub last_within : (old mid : FramePool) (level page : ℕ) (table last : FrameNo) → EndsAt old level page table
    → ((levels : ℕ) (root : FrameNo) (rows : List TableRow) (pages : List MappedPage)
    → Stands old levels root rows pages → IsLowest rows level page table
    → Extends old mid levels root rows pages level page last) → last.0 < length mid.holds
last_within old mid level page table last ends extends =
    let all = extends ends.levels ends.root ends.rows ends.pages ends.stands ends.lowest in
    table_within mid ends.levels ends.root _ ends.pages all.stands 1 page last all.at

pub ends_within : (pool : FramePool) (level page : ℕ) (table : FrameNo) → EndsAt pool level page table
    → table.0 < length pool.holds
ends_within pool level page table ends =
    table_within pool ends.levels ends.root ends.rows ends.pages ends.stands level page table ends.lowest.at

-- ---- a page that is no longer mapped

-- one that wasn't mapped changes nothing
unmapped_cleared : (pool : FramePool) (table : TableRoot) (rows : List TableRow) (pages : List MappedPage) (page : ℕ)
    → TableStands pool table rows pages → page_at pages page ≡ None
    → Becomes pool pool table rows (without_page pages page)
unmapped_cleared pool table rows pages page stands none = record {
  stands = stands_alike pool (levels_of table.width) table.root rows pages (without_page pages page) stands as_before;
  others = record { holds = λ f other. refl; bytes = λ f other. refl; count = refl };
}
  where
    as_before : (at : ℕ) → page_at (without_page pages page) at ≡ page_at pages at
    as_before at =
        page_at-without pages page at
        ∙ ⊎_elim (λ (same : at ≡ page). cond-true (eqb at page) None (page_at pages at) (eq-eqb at page same)
        ∙ sym (ap (page_at pages) same ∙ none))
        (λ (differ : at ≢ page). cond-false (eqb at page) None (page_at pages at) (ne_eqb at page differ))
        (cases_eq at page)

module _ (pool new : FramePool) (table : TableRoot) (rows : List TableRow) (pages : List MappedPage) (level page : ℕ)
    (lowest_table : FrameNo) (stands : TableStands pool table rows pages)
    (lowest : IsLowest rows level page lowest_table) where
  pub page_cleared : level ≡ 1 → WritesEntry pool new lowest_table.0 1 page 0
      → Becomes pool new table rows (without_page pages page)
  page_cleared last writes =
      let at : table_at rows 1 page ≡ Some lowest_table = ap (λ (k : ℕ). table_at rows k page) (sym last) ∙ lowest.at in
      record {
        stands = leaf_written pool new (levels_of table.width) table.root rows pages (without_page pages page) page
            lowest_table None stands at (writes_leaf pool new rows page lowest_table None writes)
            (record { is = page_at-without pages page; good = λ m is. none_or_some None m refl is });
        others = still_others pool pool new rows 1 page lowest_table 0 (record {
          holds = λ f other. refl;
          bytes = λ f other. refl;
          count = refl;
        }) at writes;
      }

  -- one that has no table of the last level wasn't
  pub nothing_cleared : 1 < level → Becomes pool pool table rows (without_page pages page)
  nothing_cleared low = unmapped_cleared pool table rows pages page stands (no_leaf pool (levels_of table.width)
      table.root rows pages stands level page lowest_table lowest low)

-- one beyond the width wasn't either
pub beyond_cleared : (pool : FramePool) (table : TableRoot) (rows : List TableRow) (pages : List MappedPage) (page : ℕ)
    → TableStands pool table rows pages → 2 ^ bits_of table.width / 4096 ≤ page
    → Becomes pool pool table rows (without_page pages page)
beyond_cleared pool table rows pages page stands beyond =
    unmapped_cleared pool table rows pages page stands (none_beyond pool table rows pages page stands beyond)
