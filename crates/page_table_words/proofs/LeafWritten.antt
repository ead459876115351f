-- One entry of the last level, written.
use Rattle.std.proofs.Common.{◌≡◌, ◌≢◌, ℕ, ◌^◌, ◌<◌, eqb, Option, Some, List, get_or, cond, sym, ◌∙◌, ap, arith, inl}
use Rattle.std.proofs.Common.{inr, ◌⊎◌, ⊎_elim}
use Rattle.std.proofs.lemmas.Bool.{cases_eq, cond-false, cond-true, eq-eqb, ne_eqb}
use Rattle.iofd_words.specs.declared.numbers.FrameNo.{FrameNo}
use Rattle.frame_memory.specs.Pool.{FramePool}
use Rattle.page_table_words.specs.Entries.{entry_at, page_entry}
use Rattle.iofd_words.specs.Levels.{index_at}
use Rattle.page_table_words.specs.Rows.{MappedPage, TableRow, page_at, table_at}
use Rattle.page_table_words.specs.Stands.{Stands}
use Rattle.page_table_words.proofs.Lookups.{both_some, same_frame, some_is}
use Rattle.page_table_words.proofs.Numbers.{index_below, number-zero, same_below}

-- what a pool has where the entry of one page was written
pub record WritesLeaf (old new : FramePool) (rows : List TableRow) (page : ℕ) (table : FrameNo)
    (to : Option MappedPage) : Type 0 where
  pub entry : entry_at new table.0 (index_at 1 page) ≡ page_entry to
  pub holds : (level at : ℕ) (f : FrameNo) → table_at rows level at ≡ Some f
      → get_or new.holds f.0 0 ≡ get_or old.holds f.0 0
  pub words : (level at i : ℕ) (f : FrameNo) → table_at rows level at ≡ Some f → i < 512
      → (f.0 ≢ table.0) ⊎ (i ≢ index_at 1 page) → entry_at new f.0 i ≡ entry_at old f.0 i

-- the pages with this one led there, or not mapped
pub record LeadsTo (old new : List MappedPage) (page : ℕ) (to : Option MappedPage) : Type 0 where
  pub is : (at : ℕ) → page_at new at ≡ cond (eqb at page) to (page_at old at)
  pub good : (m : MappedPage) → to ≡ Some m → (0 < m.rights.0) × (m.rights.0 < 4) × (m.frame.0 < 2 ^ 32)

either : (a b i j : ℕ) → ((a ≡ b) × (i ≡ j)) ⊎ ((a ≢ b) ⊎ (i ≢ j))
either a b i j =
    ⊎_elim (λ (same : a ≡ b). ⊎_elim (λ (equal : i ≡ j). inl (same, equal)) (λ (differ : i ≢ j). inr (inr differ))
    (cases_eq i j)) (λ (differ : a ≢ b). inr (inl differ)) (cases_eq a b)

module _ (old new : FramePool) (levels : ℕ) (root : FrameNo) (rows : List TableRow) (pages after : List MappedPage)
    (page : ℕ) (table : FrameNo) (to : Option MappedPage)
    (stands : Stands old levels root rows pages) (at_table : table_at rows 1 page ≡ Some table)
    (writes : WritesLeaf old new rows page table to) (leads : LeadsTo pages after page to) where
  the_page : (at : ℕ) → at ≡ page → page_at after at ≡ to
  the_page at same = leads.is at ∙ cond-true (eqb at page) to (page_at pages at) (eq-eqb at page same)

  other_page : (at : ℕ) → at ≢ page → page_at after at ≡ page_at pages at
  other_page at differ = leads.is at ∙ cond-false (eqb at page) to (page_at pages at) (ne_eqb at page differ)

  -- a page that goes through this entry is this one
  same_page : (at : ℕ) (f : FrameNo) → table_at rows 1 at ≡ Some f → f.0 ≡ table.0 → index_at 1 at ≡ index_at 1 page
      → at ≡ page
  same_page at f is frame index =
      let own =
      stands.own 1 at 1 page f is (at_table ∙ ap (λ (g : FrameNo). Some g) (sym (same_frame f table frame))) in
      sym (number-zero at) ∙ same_below 0 at page own.1 index ∙ number-zero page

  leaf : (at : ℕ) (f : FrameNo) → table_at rows 1 at ≡ Some f
      → entry_at new f.0 (index_at 1 at) ≡ page_entry (page_at after at)
  leaf at f is =
      ⊎_elim
      (λ (it : (f.0 ≡ table.0) × (index_at 1 at ≡ index_at 1 page)).
      ap (λ (g : ℕ). entry_at new g (index_at 1 at)) it.0 ∙ ap (λ (i : ℕ). entry_at new table.0 i) it.1 ∙ writes.entry
      ∙ ap page_entry (sym (the_page at (same_page at f is it.0 it.1))))
      (λ (differ : (f.0 ≢ table.0) ⊎ (index_at 1 at ≢ index_at 1 page)).
      writes.words 1 at (index_at 1 at) f is (index_below 1 at) differ ∙ stands.leaves at f is
      ∙ ap page_entry (sym (other_page at (another differ))))
      (either f.0 table.0 (index_at 1 at) (index_at 1 page))
    where
      another : (f.0 ≢ table.0) ⊎ (index_at 1 at ≢ index_at 1 page) → at ≢ page
      another differ same =
          let it : table_at rows 1 at ≡ Some table = ap (table_at rows 1) same ∙ at_table in
          ⊎_elim (λ (frame : f.0 ≢ table.0). frame (ap (λ (g : FrameNo). g.0) (both_some _ f table is it)))
          (λ (index : index_at 1 at ≢ index_at 1 page). index (ap (index_at 1) same)) differ

  pub leaf_written : Stands new levels root rows after
  leaf_written = record {
    at_root = stands.at_root;
    top = stands.top;
    level = stands.level;
    above = stands.above;
    placed = stands.placed;
    once = stands.once;
    held = λ level at f is. writes.holds level at f is ∙ stands.held level at f is;
    own = stands.own;
    fits = stands.fits;
    entries = λ level at f is low. writes.words level at (index_at level at) f is (index_below level at)
        (inl (λ same. not_last level at f is low same)) ∙ stands.entries level at f is low;
    leaves = leaf;
    mapped = λ at m is. ⊎_elim (λ (same : at ≡ page). some_is _ table (ap (table_at rows 1) same ∙ at_table))
        (λ (differ : at ≢ page). stands.mapped at m (sym (other_page at differ) ∙ is)) (cases_eq at page);
    rights = λ at m is. ⊎_elim (λ (same : at ≡ page). leads.good m (sym (the_page at same) ∙ is))
        (λ (differ : at ≢ page). stands.rights at m (sym (other_page at differ) ∙ is)) (cases_eq at page);
  }
    where
      not_last : (level at : ℕ) (f : FrameNo) → table_at rows level at ≡ Some f → 1 < level → f.0 ≡ table.0 → ⊥
      not_last level at f is low same =
          let own = stands.own level at 1 page f is (at_table
          ∙ ap (λ (g : FrameNo). Some g) (sym (same_frame f table same))) in
          omega (arith, own.0, low)
