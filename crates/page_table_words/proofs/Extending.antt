-- Tables below one that stands, one after another.
use Rattle.std.proofs.Common.{◌≡◌, ◌≢◌, ℕ, ◌+◌, ◌-◌, ◌<◌, false, eqb, Some, List, [], ◌∷◌, ◌++◌, length, get_or, refl}
use Rattle.std.proofs.Common.{sym, ◌∙◌, ap, subst, arith, inl, inr, ⊎_elim}
use Rattle.std.proofs.lemmas.Bool.{eq-eqb, false≢true, or_parts}
use Rattle.std.proofs.lemmas.List.{append_assoc, append-nil, get_or-set_other, get_or-set_same, length-set}
use Rattle.std.proofs.lemmas.List.Folds.{list_any-append}
use Rattle.iofd_words.specs.declared.numbers.FrameNo.{FrameNo}
use Rattle.frame_memory.specs.Pool.{FramePool}
use Rattle.page_table_words.specs.Entries.{entry_at}
use Rattle.page_table_words.specs.Extended.{AddsTable, Extends}
use Rattle.iofd_words.specs.Levels.{index_at}
use Rattle.page_table_words.specs.Reached.{EndsAt, IsLowest}
use Rattle.page_table_words.specs.Rows.{MappedPage, TableRow, table_at}
use Rattle.page_table_words.specs.Stands.{Stands}
use Rattle.page_table_words.specs.Taken.{LeavesOthers, least_frames, names, rows_below}
use Rattle.page_table_words.proofs.Frames.{least_frames_more, least_is, no_frames, not_free}
use Rattle.page_table_words.proofs.Linked.{LinksTable, linked_lowest, linked_stands}
use Rattle.page_table_words.proofs.Lookups.{named_table, row_for}

-- ---- no table is left to make

pub none_left : (pool : FramePool) (levels : ℕ) (root : FrameNo) (rows : List TableRow) (pages : List MappedPage)
    (level page : ℕ) (table : FrameNo) → level ≡ 1 → Stands pool levels root rows pages → IsLowest rows level page table
    → Extends pool pool levels root rows pages level page table
none_left pool levels root rows pages level page table one stands lowest =
    let no_more : rows ++ rows_below level page (least_frames pool.holds (level - 1)) ≡ rows =
    ap (λ (frames : List FrameNo). rows ++ rows_below level page frames)
    (no_frames pool.holds (level - 1) (omega (arith, one))) ∙ append-nil rows in
    record {
      stands = rw no_more stands;
      at = rw no_more (ap (λ (k : ℕ). table_at rows k page) (sym one) ∙ lowest.at);
      others = record { holds = λ frame other. refl; bytes = λ frame other. refl; count = refl };
    }

-- ---- one table more

module _ (old mid : FramePool) (levels : ℕ) (root : FrameNo) (rows : List TableRow) (pages : List MappedPage)
    (level page : ℕ) (table next : FrameNo)
    (stands : Stands old levels root rows pages) (lowest : IsLowest rows level page table) (low : 1 < level)
    (adds : AddsTable old mid level page table next) where
  up : level - 1 + 1 ≡ level
  up = omega arith

  -- a table's frame isn't the new one
  differs : (other at : ℕ) (f : FrameNo) → table_at rows other at ≡ Some f → f.0 ≢ next.0
  differs other at f is same =
      let one = stands.held other at f is in
      let free = ap (λ (n : ℕ). get_or old.holds n 0) same ∙ (least_is old.holds next.0 adds.least).1 in
      omega (arith, one, free)

  links : LinksTable old mid rows (level - 1) page table next
  links = record {
    hold = ap (λ (holds : List ℕ). get_or holds next.0 0) adds.holds
        ∙ get_or-set_same old.holds next.0 1 0 (least_is old.holds next.0 adds.least).0;
    holds = λ other at f is. ap (λ (holds : List ℕ). get_or holds f.0 0) adds.holds
        ∙ get_or-set_other old.holds next.0 f.0 1 0 (differs other at f is);
    zero_words = adds.empty;
    link = ap (λ (k : ℕ). entry_at mid table.0 (index_at k page)) up ∙ adds.entry;
    words = λ other at i f is small apart. adds.others f.0 i
        (not_free old.holds f.0 (λ zero. let one = stands.held other at f is in omega (arith, one, zero)))
        (⊎_elim (λ (frame : f.0 ≢ table.0). inl frame)
        (λ (index : i ≢ index_at (level - 1 + 1) page). inr
        (λ same. index (same ∙ ap (λ (k : ℕ). index_at k page) (sym up)))) apart);
  }

  above : table_at rows (level - 1 + 1) page ≡ Some table
  above = ap (λ (k : ℕ). table_at rows k page) up ∙ lowest.at

  pub more_stand : Stands mid levels root (rows ++ row_for (level - 1) page next ∷ []) pages
  more_stand = linked_stands old mid levels root rows pages (level - 1) page table next stands above (omega arith)
      (lowest.last low) (least_is old.holds next.0 adds.least).1 adds.small links

  pub more_lowest : IsLowest (rows ++ row_for (level - 1) page next ∷ []) (level - 1) page next
  more_lowest = linked_lowest old mid levels root rows pages (level - 1) page table next stands above (omega arith)
      (lowest.last low) (least_is old.holds next.0 adds.least).1 adds.small links

  -- and the others below it
  module _ (new : FramePool) (last : FrameNo)
      (rest : Extends mid new levels root (rows ++ row_for (level - 1) page next ∷ []) pages (level - 1) page last)
    where
      same_rows : (rows ++ row_for (level - 1) page next ∷ [])
          ++ rows_below (level - 1) page (least_frames mid.holds (level - 1 - 1)) ≡ rows
          ++ rows_below level page (least_frames old.holds (level - 1))
      same_rows =
          append_assoc rows (row_for (level - 1) page next ∷ [])
          (rows_below (level - 1) page (least_frames mid.holds (level - 1 - 1)))
          ∙ ap (λ (holds : List ℕ). rows ++ row_for (level - 1) page next
          ∷ rows_below (level - 1) page (least_frames holds (level - 1 - 1))) adds.holds
          ∙ ap (λ (frames : List FrameNo). rows ++ rows_below level page frames)
          (sym (least_frames_more old.holds (level - 1) next (omega arith) adds.least))

      -- what isn't named by all these rows
      unnamed : (f : ℕ) → names ((rows ++ row_for (level - 1) page next ∷ [])
          ++ rows_below (level - 1) page (least_frames mid.holds (level - 1 - 1))) f ≡ false
          → (f ≢ table.0) × (f ≢ next.0)
      unnamed f other =
          let is_f = λ (row : TableRow). eqb row.frame.0 f in
          let outer = or_parts _ _ (sym (list_any-append is_f (rows ++ row_for (level - 1) page next ∷ [])
          (rows_below (level - 1) page (least_frames mid.holds (level - 1 - 1)))) ∙ other) in
          let inner = or_parts _ _ (sym (list_any-append is_f rows (row_for (level - 1) page next ∷ [])) ∙ outer.0) in
          let last_one = or_parts (eqb next.0 f) false inner.1 in (
            λ same. false≢true (sym inner.0 ∙ ap (names rows) same ∙ named_table rows level page table lowest.at),
            λ same. false≢true (sym last_one.0 ∙ eq-eqb next.0 f (sym same)),
          )

      pub all_extend : Extends old new levels root rows pages level page last
      all_extend = record {
        stands = subst (λ (all : List TableRow). Stands new levels root all pages) same_rows rest.stands;
        at = subst (λ (all : List TableRow). table_at all 1 page ≡ Some last) same_rows rest.at;
        others = subst (λ (all : List TableRow). LeavesOthers all old new) same_rows left;
      }
        where
          left : LeavesOthers ((rows ++ row_for (level - 1) page next ∷ [])
              ++ rows_below (level - 1) page (least_frames mid.holds (level - 1 - 1))) old new
          left = record {
            holds = λ f other. rest.others.holds f other ∙ ap (λ (holds : List ℕ). get_or holds f 0) adds.holds
                ∙ get_or-set_other old.holds next.0 f 1 0 (unnamed f other).1;
            bytes = λ f other. rest.others.bytes f other ∙ adds.bytes f (unnamed f other).0 (unnamed f other).1;
            count =
                rest.others.count ∙ ap (λ (holds : List ℕ). length holds) adds.holds ∙ length-set old.holds next.0 1;
          }

-- the next table ends its page's way
pub ends_below : (old mid : FramePool) (level page : ℕ) (table next : FrameNo) → EndsAt old level page table → 1 < level
    → AddsTable old mid level page table next → EndsAt mid (level - 1) page next
ends_below old mid level page table next ends low adds = record {
  levels = ends.levels;
  root = ends.root;
  rows = ends.rows ++ row_for (level - 1) page next ∷ [];
  pages = ends.pages;
  stands = more_stand old mid ends.levels ends.root ends.rows ends.pages level page table next
      ends.stands ends.lowest low adds;
  lowest = more_lowest old mid ends.levels ends.root ends.rows ends.pages level page table next
      ends.stands ends.lowest low adds;
}
