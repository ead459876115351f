-- One more table, below one that stands.
use Rattle.std.proofs.Common.{◌≡◌, ◌≢◌, ℕ, ◌+◌, ◌-◌, ◌*◌, ◌%◌, ◌^◌, ◌<◌, ◌≤◌, Bool, eqb, true, false, Some, None, List}
use Rattle.std.proofs.Common.{[], ◌∷◌, ◌++◌, get_or, cond, refl, sym, ◌∙◌, ap, arith, inl, inr, ◌⊎◌, ⊎_elim}
use Rattle.std.specs.List.{count_by}
use Rattle.std.proofs.lemmas.Bool.{and_from, and_parts, cases_Bool, cases_eq, eq-eqb, eqb-true}
use Rattle.std.proofs.lemmas.List.Folds.{list_all-append}
use Rattle.std.proofs.lemmas.List.Sums.{sum_by_push}
use Rattle.iofd_words.specs.Pages.{page_of}
use Rattle.iofd_words.specs.declared.numbers.FrameNo.{FrameNo}
use Rattle.frame_memory.specs.Pool.{FramePool}
use Rattle.page_table_words.specs.Entries.{entry_at, page_entry, table_entry}
use Rattle.iofd_words.specs.Levels.{first_address, index_at, number_at}
use Rattle.page_table_words.specs.Reached.{IsLowest}
use Rattle.page_table_words.specs.Rows.{MappedPage, TableRow, is_table, page_at, table_at}
use Rattle.page_table_words.specs.Stands.{Stands}
use Rattle.page_table_words.proofs.Lookups.{IsNew, both_some, cases_Option, more_cases, more_has, more_hasn't}
use Rattle.page_table_words.proofs.Lookups.{more_keeps}
use Rattle.page_table_words.proofs.Lookups.{no_row, none_or_some, row_for, same_frame, some_is, table_at-same, the_some}
use Rattle.page_table_words.proofs.Numbers.{first_itself, index-more, index_below, same_above, same_below, same_first}

-- what a pool has where a frame that was free is a table of this level now, and the entry of the table above names it
pub record LinksTable (old new : FramePool) (rows : List TableRow) (level page : ℕ) (table frame : FrameNo) : Type 0
  where
    pub hold : get_or new.holds frame.0 0 ≡ 1
    pub holds : (other at : ℕ) (f : FrameNo) → table_at rows other at ≡ Some f
        → get_or new.holds f.0 0 ≡ get_or old.holds f.0 0
    pub zero_words : (i : ℕ) → i < 512 → entry_at new frame.0 i ≡ 0
    pub link : entry_at new table.0 (index_at (level + 1) page) ≡ 4096 * frame.0 + 3
    pub words : (other at i : ℕ) (f : FrameNo) → table_at rows other at ≡ Some f → i < 512
        → (f.0 ≢ table.0) ⊎ (i ≢ index_at (level + 1) page) → entry_at new f.0 i ≡ entry_at old f.0 i

module _ (old new : FramePool) (levels : ℕ) (root : FrameNo) (rows : List TableRow) (pages : List MappedPage)
    (level page : ℕ) (table frame : FrameNo) (stands : Stands old levels root rows pages)
    (at_table : table_at rows (level + 1) page ≡ Some table) (some : 0 < level) (none : table_at rows level page ≡ None)
    (free : get_or old.holds frame.0 0 ≡ 0) (small : frame.0 < 2 ^ 32)
    (links : LinksTable old new rows level page table frame) where
  all : List TableRow
  all = rows ++ row_for level page frame ∷ []

  -- the new frame is no table's
  not_new : {P : Type 0} (other at : ℕ) (f : FrameNo) → table_at rows other at ≡ Some f → f ≡ frame → P
  not_new other at f is same =
      let one = stands.held other at f is in
      let zero = ap (λ (g : FrameNo). get_or old.holds g.0 0) same ∙ free in
      absurd (omega (arith, one, zero))

  keeps : (other at : ℕ) (f : FrameNo) → table_at rows other at ≡ Some f → table_at all other at ≡ Some f
  unfolding all
  keeps other at f is = more_keeps rows level page frame other at f is

  cases : (other at : ℕ) (f : FrameNo) → table_at all other at ≡ Some f → (table_at rows other at ≡ Some f)
      ⊎ IsNew rows level page frame other at f
  unfolding all
  cases other at f is = more_cases rows level page frame other at f is

  still_none : (other at : ℕ) → table_at rows other at ≡ None
      → (level ≡ other → number_at level page ≡ number_at level at → ⊥) → table_at all other at ≡ None
  unfolding all
  still_none other at is not_it = more_hasn't rows level page frame other at is not_it

  above_it : (at : ℕ) → number_at level at ≡ number_at level page → table_at rows (level + 1) at ≡ Some table
  above_it at same = table_at-same rows (level + 1) at page (same_above level at page same) ∙ at_table

  there_too : (at : ℕ) → number_at level at ≡ number_at level page → table_at all level at ≡ Some frame
  unfolding all
  there_too at same = more_has rows level page frame at none same

  -- no table of the level below the new one is there
  none_under : (at : ℕ) (lower : ℕ) → lower + 1 ≡ level → number_at level at ≡ number_at level page
      → table_at rows lower at ≡ None
  none_under at lower next same =
      ⊎_elim (λ (is : table_at rows lower at ≡ None). is)
      (λ (some_lower : (f : FrameNo) × (table_at rows lower at ≡ Some f)).
      let low : lower < levels = omega (arith, stands.level (level + 1) page table at_table) in
      let up = the_some _ (stands.above lower at some_lower.0 some_lower.1 low) in
      let here : table_at rows level at ≡ Some up.0 = ap (λ (k : ℕ). table_at rows k at) (sym next) ∙ up.1 in
      none_or_some _ up.0 (table_at-same rows level at page same ∙ none) here)
      (cases_Option (table_at rows lower at))

  -- the entry of an old table: the written one names the new table, each other one is as it was
  old_entry : (other at : ℕ) (f : FrameNo) → table_at rows other at ≡ Some f → 1 < other
      → entry_at new f.0 (index_at other at) ≡ table_entry (table_at all (other - 1) at)
  old_entry other at f is low =
      ⊎_elim
      (λ (it : (f.0 ≡ table.0) × (index_at other at ≡ index_at (level + 1) page)).
      let own = stands.own other at (level + 1) page f is (at_table
      ∙ ap (λ (g : FrameNo). Some g) (sym (same_frame f table it.0))) in
      let below : other - 1 ≡ level = omega (arith, own.0) in
      let level_is : number_at (level + 1) at ≡ number_at (level + 1) page =
      ap (λ (k : ℕ). number_at k at) (sym own.0) ∙ own.1 in
      let index_is : number_at level at % 512 ≡ number_at level page % 512 =
      sym (index-more level at) ∙ ap (λ (k : ℕ). index_at k at) (sym own.0) ∙ it.1 ∙ index-more level page in
      let number_is = same_below level at page level_is index_is in
      ap (λ (g : ℕ). entry_at new g (index_at other at)) it.0 ∙ ap (λ (i : ℕ). entry_at new table.0 i) it.1 ∙ links.link
      ∙ ap table_entry (sym (ap (λ (k : ℕ). table_at all k at) below ∙ there_too at number_is)))
      (λ (differ : (f.0 ≢ table.0) ⊎ (index_at other at ≢ index_at (level + 1) page)).
      links.words other at (index_at other at) f is (index_below other at) differ ∙ stands.entries other at f is low
      ∙ ap table_entry (⊎_elim
      (λ (none_there : table_at rows (other - 1) at ≡ None).
      none_there ∙ sym (still_none (other - 1) at none_there (λ same number. apart differ same number)))
      (λ (below : (g : FrameNo) × (table_at rows (other - 1) at ≡ Some g)). below.1
      ∙ sym (keeps (other - 1) at below.0 below.1))
      (cases_Option (table_at rows (other - 1) at))))
      (either f.0 table.0 (index_at other at) (index_at (level + 1) page))
    where
      either : (a b i j : ℕ) → ((a ≡ b) × (i ≡ j)) ⊎ ((a ≢ b) ⊎ (i ≢ j))
      either a b i j =
          ⊎_elim (λ (same : a ≡ b). ⊎_elim (λ (equal : i ≡ j). inl (same, equal)) (λ (differ : i ≢ j). inr (inr differ))
          (cases_eq i j)) (λ (differ : a ≢ b). inr (inl differ)) (cases_eq a b)

      apart : (f.0 ≢ table.0) ⊎ (index_at other at ≢ index_at (level + 1) page) → level ≡ other - 1
          → number_at level page ≡ number_at level at → ⊥
      apart differ same number =
          let up : other ≡ level + 1 = omega (arith, same, low) in
          let it : table_at rows other at ≡ Some table =
          ap (λ (k : ℕ). table_at rows k at) up ∙ above_it at (sym number) in
          let index_is : index_at other at ≡ index_at (level + 1) page = ap (λ (k : ℕ). index_at k at) up
          ∙ index-more level at ∙ ap (λ (n : ℕ). n % 512) (sym number) ∙ sym (index-more level page) in
          ⊎_elim (λ (other_frame : f.0 ≢ table.0). other_frame (ap (λ (g : FrameNo). g.0) (both_some _ f table is it)))
          (λ (other_index : index_at other at ≢ index_at (level + 1) page). other_index index_is) differ

  -- the words of the new table
  new_word : (other at : ℕ) (f : FrameNo) → IsNew rows level page frame other at f
      → entry_at new f.0 (index_at other at) ≡ 0
  new_word other at f is = ap (λ (g : FrameNo). entry_at new g.0 (index_at other at)) is.frame_is
      ∙ links.zero_words (index_at other at) (index_below other at)

  -- the new row makes its place
  pub linked_stands : Stands new levels root (rows ++ row_for level page frame ∷ []) pages
  unfolding all
  linked_stands = record {
    at_root = keeps levels 0 root stands.at_root;
    top = λ at f is. ⊎_elim (λ (old_row : table_at rows levels at ≡ Some f). stands.top at f old_row)
        (λ (new_row : IsNew rows level page frame levels at f). absurd
        (omega (arith, new_row.level_is, stands.level (level + 1) page table at_table)))
        (cases levels at f is);
    level = λ other at f is. ⊎_elim (λ (old_row : table_at rows other at ≡ Some f). stands.level other at f old_row)
        (λ (new_row : IsNew rows level page frame other at f). (
          omega (arith, new_row.level_is, some),
          omega (arith, new_row.level_is, stands.level (level + 1) page table at_table),
        ))
        (cases other at f is);
    above = λ other at f is low. ⊎_elim
        (λ (old_row : table_at rows other at ≡ Some f). let up = the_some _ (stands.above other at f old_row low) in
        some_is _ up.0 (keeps (other + 1) at up.0 up.1))
        (λ (new_row : IsNew rows level page frame other at f). some_is _ table
        (ap (λ (k : ℕ). table_at (rows ++ row_for level page frame ∷ []) (k + 1) at) new_row.level_is
        ∙ keeps (level + 1) at table (above_it at new_row.number_is)))
        (cases other at f is);
    placed = list_all-append (λ (row : TableRow). eqb row.first (first_address row.level (page_of row.first))) rows
        (row_for level page frame ∷ [])
        ∙ and_from _ _ stands.placed (and_from _ true (eq-eqb _ _ (sym (first_itself level page))) refl);
    once = once_more;
    held = λ other at f is. ⊎_elim (λ (old_row : table_at rows other at ≡ Some f). links.holds other at f old_row
        ∙ stands.held other at f old_row)
        (λ (new_row : IsNew rows level page frame other at f). ap (λ (g : FrameNo). get_or new.holds g.0 0)
        new_row.frame_is ∙ links.hold)
        (cases other at f is);
    own = λ other at another to f is too. ⊎_elim
        (λ (old_row : table_at rows other at ≡ Some f). ⊎_elim
        (λ (old_too : table_at rows another to ≡ Some f). stands.own other at another to f old_row old_too)
        (λ (new_too : IsNew rows level page frame another to f). not_new other at f old_row new_too.frame_is)
        (cases another to f too))
        (λ (new_row : IsNew rows level page frame other at f). ⊎_elim
        (λ (old_too : table_at rows another to ≡ Some f). not_new another to f old_too new_row.frame_is)
        (λ (new_too : IsNew rows level page frame another to f). (
          new_row.level_is ∙ sym new_too.level_is,
          ap (λ (k : ℕ). number_at k at) new_row.level_is ∙ new_row.number_is
              ∙ sym (ap (λ (k : ℕ). number_at k to) new_too.level_is ∙ new_too.number_is),
        ))
        (cases another to f too))
        (cases other at f is);
    fits = λ other at f is. ⊎_elim (λ (old_row : table_at rows other at ≡ Some f). stands.fits other at f old_row)
        (λ (new_row : IsNew rows level page frame other at f). omega (
          arith,
          small,
          ap (λ (g : FrameNo). g.0) new_row.frame_is,
        ))
        (cases other at f is);
    entries =
        λ other at f is low. ⊎_elim (λ (old_row : table_at rows other at ≡ Some f). old_entry other at f old_row low)
        (λ (new_row : IsNew rows level page frame other at f).
        let next : other - 1 + 1 ≡ level = omega (arith, new_row.level_is, low) in
        let none_there = none_under at (other - 1) next new_row.number_is in
        new_word other at f new_row ∙ sym (ap table_entry
        (still_none (other - 1) at none_there (λ same number. absurd (omega (arith, same, next))))))
        (cases other at f is);
    leaves = λ at f is. ⊎_elim
        (λ (old_row : table_at rows 1 at ≡ Some f).
        links.words 1 at (index_at 1 at) f old_row (index_below 1 at) (inl (λ same. one_above at f old_row same))
        ∙ stands.leaves at f old_row)
        (λ (new_row : IsNew rows level page frame 1 at f).
        new_word 1 at f new_row ∙ sym (ap page_entry
        (unmapped at (ap (λ (k : ℕ). table_at rows k at) new_row.level_is
        ∙ table_at-same rows level at page new_row.number_is ∙ none))))
        (cases 1 at f is);
    mapped =
        λ at to is. let below = the_some _ (stands.mapped at to is) in some_is _ below.0 (keeps 1 at below.0 below.1);
    rights = stands.rights;
  }
    where
      once_more : (other at : ℕ) → count_by (is_table other at) (rows ++ row_for level page frame ∷ []) ≤ 1
      once_more other at =
          let counted =
          sum_by_push (λ (row : TableRow). cond (is_table other at row) 1 0) rows (row_for level page frame) in
          ⊎_elim
          (λ (yes : is_table other at (row_for level page frame) ≡ true).
          let parts = and_parts (eqb level other) (eqb (first_address level page) (first_address other at)) yes in
          let same = eqb-true level other parts.0 in
          let first : first_address level page ≡ first_address level at =
          eqb-true _ _ parts.1 ∙ ap (λ (k : ℕ). first_address k at) (sym same) in
          let absent : table_at rows other at ≡ None = ap (λ (k : ℕ). table_at rows k at) (sym same)
          ∙ table_at-same rows level at page (sym (same_first level page at first)) ∙ none in
          let zero = no_row rows other at absent in
          let one = ap {B = ℕ} (λ (b : Bool). cond b 1 0) yes in
          omega (arith, counted, zero, one))
          (λ (no : is_table other at (row_for level page frame) ≡ false).
          let zero = ap {B = ℕ} (λ (b : Bool). cond b 1 0) no in
          omega (arith, counted, zero, stands.once other at))
          (cases_Bool (is_table other at (row_for level page frame)))

      one_above : (at : ℕ) (f : FrameNo) → table_at rows 1 at ≡ Some f → f.0 ≡ table.0 → ⊥
      one_above at f is same =
          let own = stands.own 1 at (level + 1) page f is (at_table
          ∙ ap (λ (g : FrameNo). Some g) (sym (same_frame f table same))) in
          omega (arith, own.0, some)

      unmapped : (at : ℕ) → table_at rows 1 at ≡ None → page_at pages at ≡ None
      unmapped at no_table =
          ⊎_elim (λ (is : page_at pages at ≡ None). is)
          (λ (to : (m : MappedPage) × (page_at pages at ≡ Some m)). let below = the_some _
          (stands.mapped at to.0 to.1) in none_or_some _ below.0 no_table below.1)
          (cases_Option (page_at pages at))

  -- and it is the lowest table of its page
  pub linked_lowest : IsLowest (rows ++ row_for level page frame ∷ []) level page frame
  linked_lowest = record {
    at = more_has rows level page frame page none refl;
    last = λ low. more_hasn't rows level page frame (level - 1) page
        (none_under page (level - 1) (omega (arith, low)) refl) (λ same number. omega (arith, same, low));
  }
