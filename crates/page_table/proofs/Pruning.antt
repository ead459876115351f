-- A page table whose idle tables go.
use Rattle.std.proofs.Common.{◌≡◌, ℕ, ◌+◌, ◌≤◌, Bool, true, false, cond, eqb, not, List, [], length, get_or, map, refl}
use Rattle.std.proofs.Common.{◌∙◌, ap, subst, arith, ⊎_elim}
use Rattle.std.specs.List.{count_by}
use Rattle.std.specs.List.Sorted.{IsPermutation}
use Rattle.std.proofs.lemmas.Bool.{and_left, cases_Bool, le-ltb}
use Rattle.std.proofs.lemmas.List.Filters.{sum_by-filter_both}
use Rattle.std.proofs.lemmas.List.Sorted.{IsPermutation-sym, sum_by-IsPermutation}
use Rattle.iofd_words.specs.Bounds.{Bounds}
use Rattle.iofd_words.specs.declared.numbers.FrameNo.{FrameNo}
use Rattle.frame_memory.specs.Pool.{FramePool, word_at}
use Rattle.page_table_words.specs.Cut.{Cuts, goes_below}
use Rattle.page_table_words.specs.Pruned.{Prunes, goes, gone, left}
use Rattle.page_table_words.specs.Released.{HasFewerHolds, times}
use Rattle.page_table_words.specs.Rows.{MappedPage, TableRow}
use Rattle.page_table_words.specs.Stands.{Stands}
use Rattle.page_table_words.specs.Taken.{names}
use Rattle.page_table.proofs.Cutting.{passed_at, passed_fewer, row_number}
use Rattle.page_table_words.proofs.Lookups.{named_table}
use Rattle.page_table_words.proofs.Members.{each_then, filter_alike}
use Rattle.page_table.proofs.Parting.{root_each}
use Rattle.page_table_words.proofs.Releasing.{named_counted, named_held, one_row, times_rows, unnamed_counted}
use Rattle.page_table_words.proofs.Tables.{stands_still}

-- the root stays
pub root_stays : (pool : FramePool) (levels : ℕ) (root : FrameNo) (rows : List TableRow) (pages : List MappedPage)
    (kept : List Bounds) → Stands pool levels root rows pages → names (left levels pages kept rows) root.0 ≡ true
root_stays pool levels root rows pages kept stands =
    named_table (left levels pages kept rows) levels 0 root
    (passed_at (λ row. not (goes levels pages kept row)) true rows levels 0
    (λ row is. ap not (and_left _ _ (le-ltb row.level levels
    (let same = (row_number levels levels 0 row (omega arith) is).0 in omega (arith, same)))))
    ∙ stands.at_root)

abbrev has_frame : ℕ → TableRow → Bool
has_frame f row = eqb row.frame.0 f

module _ (old mid : FramePool) (levels : ℕ) (root : FrameNo) (rows : List TableRow) (pages : List MappedPage)
    (kept : List Bounds) (listed listing : List FrameNo) (stands : Stands old levels root rows pages)
    (cuts : Cuts old mid levels root rows pages kept levels 0 listed listing) (holds : mid.holds ≡ old.holds) where
  pub gone_same : IsPermutation cuts.frames (map (λ (row : TableRow). row.frame) (gone levels pages kept rows))
  gone_same =
      IsPermutation-sym (map (λ (row : TableRow). row.frame) (gone levels pages kept rows)) cuts.frames
      (subst (λ (rs : List TableRow). IsPermutation (map (λ (row : TableRow). row.frame) rs) cuts.frames)
      (filter_alike (goes_below levels pages kept levels 0) (goes levels pages kept) rows
      (root_each old levels root rows pages stands kept)) cuts.same)

  left_stands : Stands mid levels root (left levels pages kept rows) pages
  left_stands =
      subst (λ (rs : List TableRow). Stands mid levels root rs pages)
      (filter_alike (λ row. not (goes_below levels pages kept levels 0 row)) (λ row. not (goes levels pages kept row))
      rows (each_then (λ row. goes_below levels pages kept levels 0 row ≡ goes levels pages kept row)
      (λ row. not (goes_below levels pages kept levels 0 row) ≡ not (goes levels pages kept row)) rows
      (λ row same. ap not same) (root_each old levels root rows pages stands kept))) cuts.stands

  both : (f : ℕ) → count_by (has_frame f) (gone levels pages kept rows)
      + count_by (has_frame f) (left levels pages kept rows) ≡ count_by (has_frame f) rows
  both f = sum_by-filter_both (goes levels pages kept) (λ row. not (goes levels pages kept row)) (λ row. refl)
      (λ (row : TableRow). cond (has_frame f row) 1 0) rows

  -- a frame that is named has one hold
  one_hold : (f : ℕ) → 1 ≤ count_by (has_frame f) rows → get_or old.holds f 0 ≡ 1
  one_hold f some =
      ⊎_elim (λ (named : names rows f ≡ true). named_held old levels root rows pages stands f named)
      (λ (other : names rows f ≡ false). absurd (omega (arith, some, unnamed_counted (has_frame f) rows other)))
      (cases_Bool (names rows f))

  module _ (given : List FrameNo) (same : IsPermutation
      (map (λ (row : TableRow). row.frame) (gone levels pages kept rows)) given) where
    times_given : (f : ℕ) → times f given ≡ count_by (has_frame f) (gone levels pages kept rows)
    times_given f = sum_by-IsPermutation (λ (g : FrameNo). cond (eqb g.0 f) 1 0)
        (map (λ (row : TableRow). row.frame) (gone levels pages kept rows)) given same
        ∙ times_rows f (gone levels pages kept rows)

    pub may_give : (f : ℕ) → times f given ≤ get_or mid.holds f 0
    may_give f =
        let held = ap (λ (hs : List ℕ). get_or hs f 0) holds in
        omega (
          arith,
          held,
          times_given f,
          passed_fewer (has_frame f) (goes levels pages kept) rows,
          one_row old levels root rows pages stands f,
        )

    module _ (new : FramePool) (fewer : HasFewerHolds mid new given) where
      pub all_pruned : Prunes (gone levels pages kept rows) (left levels pages kept rows) old new
      all_pruned = record {
        free = λ f named.
            let some = named_counted (has_frame f) (gone levels pages kept rows) named in
            let held = ap (λ (hs : List ℕ). get_or hs f 0) holds in
            omega (arith, held, fewer.holds f, times_given f, some, one_hold f (omega (arith, some, both f)));
        others = λ f other.
            let held = ap (λ (hs : List ℕ). get_or hs f 0) holds in
            omega (
              arith,
              held,
              fewer.holds f,
              times_given f,
              unnamed_counted (has_frame f) (gone levels pages kept rows) other,
            );
        bytes = λ f other. ap (λ (bs : List (List ℕ)). get_or bs f []) fewer.bytes ∙ cuts.bytes f other;
        count = fewer.count ∙ ap (λ (hs : List ℕ). length hs) holds;
      }

      pub still_stands : Stands new levels root (left levels pages kept rows) pages
      still_stands = stands_still mid new levels root (left levels pages kept rows) pages left_stands (record {
        words =
            λ f i named small. ap (λ (bs : List (List ℕ)). word_at (record { holds = []; bytes = bs }) f i) fewer.bytes;
        holds = λ f named.
            let some = named_counted (has_frame f) (left levels pages kept rows) named in
            let one = one_hold f (omega (arith, some, both f)) in
            omega (arith, fewer.holds f, times_given f, both f, some, one, one_row old levels root rows pages stands f);
      })
