-- What holds of tables that stand in a pool.
use Rattle.std.proofs.Common.{◌≡◌, ℕ, zero, suc, ◌+◌, ◌-◌, ◌<◌, ◌≤◌, true, Some, None, List, length, ◌∙◌, ap, sym}
use Rattle.std.proofs.Common.{arith, ⊎_elim}
use Rattle.std.specs.Prelude.{is_some}
use Rattle.std.proofs.lemmas.Bool.{cases_lt}
use Rattle.std.proofs.lemmas.List.{get_or_past}
use Rattle.iofd_words.specs.declared.numbers.FrameNo.{FrameNo}
use Rattle.frame_memory.specs.Pool.{FramePool}
use Rattle.iofd_words.specs.Levels.{index_at}
use Rattle.page_table_words.specs.Rows.{MappedPage, TableRow, page_at, table_at}
use Rattle.page_table_words.specs.Entries.{entry_at, page_entry}
use Rattle.page_table_words.specs.SameTables.{SameTables}
use Rattle.page_table_words.specs.Stands.{Stands}
use Rattle.page_table_words.proofs.Lookups.{cases_Option, named_table, none_or_some, some_is, the_some}
use Rattle.page_table_words.proofs.Numbers.{index_below}

-- a change that leaves the tables' words and holds alone leaves the tables
pub stands_still : (old new : FramePool) (levels : ℕ) (root : FrameNo) (rows : List TableRow) (pages : List MappedPage)
    → Stands old levels root rows pages → SameTables rows old new → Stands new levels root rows pages
unfolding entry_at
stands_still old new levels root rows pages stands same = record {
  at_root = stands.at_root;
  top = stands.top;
  level = stands.level;
  above = stands.above;
  placed = stands.placed;
  once = stands.once;
  held = λ level page frame at. same.holds frame.0 (named_table rows level page frame at)
      ∙ stands.held level page frame at;
  own = stands.own;
  fits = stands.fits;
  entries = λ level page frame at low. same.words frame.0 (index_at level page) (named_table rows level page frame at)
      (index_below level page) ∙ stands.entries level page frame at low;
  leaves = λ page frame at. same.words frame.0 (index_at 1 page) (named_table rows 1 page frame at) (index_below 1 page)
      ∙ stands.leaves page frame at;
  mapped = stands.mapped;
  rights = stands.rights;
}

-- pages are told by what is found of them
pub stands_alike : (pool : FramePool) (levels : ℕ) (root : FrameNo) (rows : List TableRow)
    (pages others : List MappedPage) → Stands pool levels root rows pages
    → ((page : ℕ) → page_at others page ≡ page_at pages page) → Stands pool levels root rows others
stands_alike pool levels root rows pages others stands same = record {
  at_root = stands.at_root;
  top = stands.top;
  level = stands.level;
  above = stands.above;
  placed = stands.placed;
  once = stands.once;
  held = stands.held;
  own = stands.own;
  fits = stands.fits;
  entries = stands.entries;
  leaves = λ page f is. stands.leaves page f is ∙ ap page_entry (sym (same page));
  mapped = λ page m is. stands.mapped page m (sym (same page) ∙ is);
  rights = λ page m is. stands.rights page m (sym (same page) ∙ is);
}

module _ (pool : FramePool) (levels : ℕ) (root : FrameNo) (rows : List TableRow) (pages : List MappedPage)
    (stands : Stands pool levels root rows pages) where
  -- a table's frame is one of the pool's
  pub table_within : (level page : ℕ) (frame : FrameNo) → table_at rows level page ≡ Some frame
      → frame.0 < length pool.holds
  table_within level page frame at =
      ⊎_elim (λ (below : frame.0 < length pool.holds). below)
      (λ (past : length pool.holds ≤ frame.0). let none = get_or_past pool.holds frame.0 0 past in let one = stands.held
      level page frame at in absurd (omega (arith, none, one)))
      (cases_lt frame.0 (length pool.holds))

  -- a page that goes through a table goes through one of each level above
  pub tables_above : (more level page : ℕ) → is_some (table_at rows level page) ≡ true → level + more ≤ levels
      → is_some (table_at rows (level + more) page) ≡ true
  tables_above zero level page at few = let same : level ≡ level + 0 = omega arith in rw (← same) at
  tables_above (suc more) level page at few =
      let frame = the_some (table_at rows level page) at in
      let next = stands.above level page frame.0 frame.1 (omega arith) in
      let same : level + 1 + more ≡ level + suc more = omega arith in
      rw same at (tables_above more (level + 1) page next (omega arith))

  -- so where it has no table of some level, it has none of a level below
  pub none_below : (level page other : ℕ) → table_at rows level page ≡ None → level ≤ levels → other ≤ level
      → table_at rows other page ≡ None
  none_below level page other none few low =
      ⊎_elim (λ (is : table_at rows other page ≡ None). is)
      (λ (some : (frame : FrameNo) × (table_at rows other page ≡ Some frame)).
      let same : other + (level - other) ≡ level = omega arith in
      let there = rw same at (tables_above (level - other) other page (some_is _ some.0 some.1) (omega arith)) in
      let frame = the_some (table_at rows level page) there in
      none_or_some _ frame.0 none frame.1)
      (cases_Option (table_at rows other page))
