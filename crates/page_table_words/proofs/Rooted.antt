-- A page table of a root alone.
use Rattle.std.proofs.Common.{◌≡◌, ◌≢◌, ℕ, ◌+◌, ◌-◌, ◌*◌, ◌^◌, ◌<◌, true, false, eqb, Some, None, List, [], ◌∷◌, length}
use Rattle.std.proofs.Common.{get_or, refl, sym, ◌∙◌, ap, subst, arith, ⊎_elim}
use Rattle.std.proofs.lemmas.Bool.{and_from, eq-eqb, false≢true, or_parts}
use Rattle.std.proofs.lemmas.List.{get_or-set_other, get_or-set_same, length-set}
use Rattle.std.proofs.lemmas.List.Sums.{count_by-le-length}
use Rattle.iofd_words.specs.declared.numbers.FrameNo.{FrameNo}
use Rattle.frame_memory.specs.Pool.{FramePool, bytes_of, given, least_free, word_at, zeros}
use Rattle.page_table_words.specs.Entries.{entry_at, page_entry, table_entry}
use Rattle.iofd_words.specs.Levels.{first_address, index_at, levels_of, number_at}
use Rattle.page_table_words.specs.Mapped.{Becomes, root_row}
use Rattle.page_table_words.specs.Rows.{TableRow, is_table, page_at, table_at}
use Rattle.page_table_words.specs.Stands.{Stands, TableRoot, TableStands}
use Rattle.page_table_words.specs.Taken.{LeavesOthers, names}
use Rattle.page_table_words.proofs.Frames.{least_is}
use Rattle.page_table_words.proofs.Lookups.{IsNew, more_cases, more_has, more_hasn't, none_or_some, row_for}
use Rattle.page_table_words.proofs.Numbers.{first_itself, index_below}
use Rattle.page_table_words.proofs.Tops.{number-first}

no_table : (level page : ℕ) → table_at [] level page ≡ None
unfolding table_at
no_table level page = refl

no_page : (page : ℕ) → page_at [] page ≡ None
unfolding page_at
no_page page = refl

module _ (old new : FramePool) (levels : ℕ) (root : FrameNo) (some : 0 < levels)
    (least : least_free old.holds ≡ Some root.0) (small : root.0 < 2 ^ 32) (taken : new ≡ given old root.0)
    (empty : (i : ℕ) → i < 512 → word_at new root.0 i ≡ 0) where
  one : (level page : ℕ) (frame : FrameNo) → table_at (row_for levels 0 root ∷ []) level page ≡ Some frame
      → IsNew [] levels 0 root level page frame
  one level page frame is =
      ⊎_elim (λ (before : table_at [] level page ≡ Some frame). none_or_some _ frame (no_table level page) before)
      (λ (it : IsNew [] levels 0 root level page frame). it) (more_cases [] levels 0 root level page frame is)

  none_under : (level page : ℕ) → level < levels → table_at (row_for levels 0 root ∷ []) level page ≡ None
  none_under level page low =
      more_hasn't [] levels 0 root level page (no_table level page) (λ same number. omega (arith, same, low))

  no_entry : (level page : ℕ) (frame : FrameNo) → table_at (row_for levels 0 root ∷ []) level page ≡ Some frame
      → entry_at new frame.0 (index_at level page) ≡ 0
  unfolding entry_at
  no_entry level page frame is = ap (λ (f : FrameNo). entry_at new f.0 (index_at level page))
      (one level page frame is).frame_is ∙ empty (index_at level page) (index_below level page)

  pub root_stands : Stands new levels root (row_for levels 0 root ∷ []) []
  root_stands = record {
    at_root = more_has [] levels 0 root 0 (no_table levels 0) refl;
    top = λ page frame is. (one levels page frame is).number_is ∙ number-first levels;
    level = λ level page frame is. let it =
        one level page frame is in (omega (arith, some, it.level_is), omega (arith, it.level_is));
    above = λ level page frame is low. let it = one level page frame is in absurd (omega (arith, it.level_is, low));
    placed = and_from _ true (eq-eqb _ _ (sym (first_itself levels 0))) refl;
    once = λ level page. count_by-le-length (is_table level page) (row_for levels 0 root ∷ []);
    held = λ level page frame is.
        ap (λ (f : FrameNo). get_or new.holds f.0 0) (one level page frame is).frame_is
        ∙ ap (λ (pool : FramePool). get_or pool.holds root.0 0) taken
        ∙ get_or-set_same old.holds root.0 1 0 (least_is old.holds root.0 least).0;
    own = λ level page other at frame is too.
        let it = one level page frame is in
        let that = one other at frame too in (
          it.level_is ∙ sym that.level_is,
          ap (λ (k : ℕ). number_at k page) it.level_is ∙ it.number_is
              ∙ sym (ap (λ (k : ℕ). number_at k at) that.level_is ∙ that.number_is),
        );
    fits = λ level page frame is. omega (arith, small, ap (λ (f : FrameNo). f.0) (one level page frame is).frame_is);
    entries = λ level page frame is low. no_entry level page frame is
        ∙ sym (ap table_entry (none_under (level - 1) page (omega (arith, low, (one level page frame is).level_is))));
    leaves = λ page frame is. no_entry 1 page frame is ∙ sym (ap page_entry (no_page page));
    mapped = λ page to is. none_or_some _ to (no_page page) is;
    rights = λ page to is. none_or_some _ to (no_page page) is;
  }

  others_left : LeavesOthers (row_for levels 0 root ∷ []) old new
  others_left = record {
    holds = λ f other. ap (λ (pool : FramePool). get_or pool.holds f 0) taken
        ∙ get_or-set_other old.holds root.0 f 1 0 (differs f other);
    bytes = λ f other. ap (λ (pool : FramePool). bytes_of pool f) taken
        ∙ get_or-set_other old.bytes root.0 f zeros [] (differs f other);
    count = ap (λ (pool : FramePool). length pool.holds) taken ∙ length-set old.holds root.0 1;
  }
    where
      differs : (f : ℕ) → names (row_for levels 0 root ∷ []) f ≡ false → f ≢ root.0
      differs f other same = false≢true (sym (or_parts (eqb root.0 f) false other).0 ∙ eq-eqb root.0 f (sym same))

pub root_becomes : (old new : FramePool) (table : TableRoot) → 0 < levels_of table.width
    → least_free old.holds ≡ Some table.root.0 → table.root.0 < 2 ^ 32 → new ≡ given old table.root.0
    → ((i : ℕ) → i < 512 → word_at new table.root.0 i ≡ 0) → Becomes old new table (root_row table ∷ []) []
root_becomes old new table some least small taken empty =
    let levels = levels_of table.width in
    let first : first_address levels 0 ≡ 0 =
    ap (λ (n : ℕ). n * 2 ^ (9 * levels + 12)) (number-first levels) ∙ omega arith in
    let row : ◌≡◌ {A = List TableRow} (row_for levels 0 table.root ∷ []) (root_row table ∷ []) =
    ap (λ (n : ℕ). let r : TableRow = record { level = levels; first = n; frame = table.root } in r ∷ []) first in
    record {
      stands = subst (λ (rows : List TableRow). TableStands new table rows []) row
          (root_stands old new levels table.root some least small taken empty);
      others = subst (λ (rows : List TableRow). LeavesOthers rows old new) row
          (others_left old new levels table.root some least small taken empty);
    }
