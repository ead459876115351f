-- Rows of tracked page tables, after some went, or the marks of one changed.
use Rattle.std.proofs.Common.{◌≡◌, ℕ, Bool, true, false, cond, not, eqb, List, map, refl, ap, sym, ◌∙◌}
use Rattle.std.proofs.Common.{subst, arith, ◌⊎◌, inl, inr}
use Rattle.std.specs.List.{filter}
use Rattle.std.proofs.lemmas.Bool.Decides.{nat_tests}
use Rattle.iofd_words.specs.Dirty.{TrackedTable, is_tracked_as}
use Rattle.iofd_words.specs.declared.numbers.FileNo.{FileNo}
use Rattle.iofd_words.specs.declared.numbers.ObjId.{ObjId}
use Rattle.iofd_rows.proofs.Bools.{and_true, clash, not_false, not_true}
use Rattle.iofd_rows.proofs.Each.{IsIn, in_filter, in_kept, in_map}
use Rattle.iofd_rows.proofs.Named.{file_is, id_is}
use Rattle.iofd_promises.proofs.Spaces.{in_mapped}

-- the page table has a row, with such pages
pub record HasRow (tables : List TrackedTable) (file : FileNo) (hwpt : ObjId) (P : List ℕ → Type 0) : Type 0 where
  pub row : TrackedTable
  pub there : IsIn tables row
  pub of_file : row.file ≡ file
  pub of_table : row.hwpt ≡ hwpt
  pub pages : P row.pages

-- ---- names

pub named : (file : FileNo) (hwpt : ObjId) (row : TrackedTable) → row.file ≡ file → row.hwpt ≡ hwpt
    → is_tracked_as file hwpt row ≡ true
named file hwpt row of_file of_table =
    let file_same = ap (λ (f : FileNo). f.0) of_file in
    let table_same = ap (λ (i : ObjId). i.0) of_table in
    grind (arith, nat_tests)

pub name_is : (file : FileNo) (hwpt : ObjId) (row : TrackedTable) → is_tracked_as file hwpt row ≡ true
    → (row.file ≡ file) × (row.hwpt ≡ hwpt)
name_is file hwpt row is =
    let parts = and_true (eqb row.file.0 file.0) (eqb row.hwpt.0 hwpt.0) is in
    (file_is row.file file parts.0, id_is row.hwpt hwpt parts.1)

-- ---- fewer rows

module _ (gone : FileNo → ObjId → Bool) (tables : List TrackedTable) (file : FileNo) (hwpt : ObjId)
    (P : List ℕ → Type 0) where
  abbrev stays : TrackedTable → Bool
  stays row = not (gone row.file row.hwpt)

  pub row_kept : gone file hwpt ≡ false → HasRow tables file hwpt P → HasRow (filter stays tables) file hwpt P
  row_kept left has = record {
    row = has.row;
    there = in_kept stays tables has.row has.there
        (not_false (gone has.row.file has.row.hwpt) (rw (has.of_file, has.of_table) left));
    of_file = has.of_file;
    of_table = has.of_table;
    pages = has.pages;
  }

  pub row_was : HasRow (filter stays tables) file hwpt P → HasRow tables file hwpt P × (gone file hwpt ≡ false)
  row_was has =
      let (there, kept) = in_filter stays tables has.row has.there in
      let left : gone file hwpt ≡ false =
      subst (λ (i : ObjId). gone file i ≡ false) has.of_table
      (subst (λ (f : FileNo). gone f has.row.hwpt ≡ false) has.of_file
      (not_true (gone has.row.file has.row.hwpt) kept)) in (
        record {
          row = has.row;
          there = there;
          of_file = has.of_file;
          of_table = has.of_table;
          pages = has.pages;
        },
        left,
      )

-- ---- other marks in one row

module _ (g : List ℕ → List ℕ) (own : FileNo) (own_table : ObjId) (tables : List TrackedTable) (file : FileNo)
    (hwpt : ObjId) (P : List ℕ → Type 0) where
  abbrev pub remarked : TrackedTable → TrackedTable
  remarked row = cond (is_tracked_as own own_table row) (record row { pages = g row.pages }) row

  pub row_remarked : (Q : List ℕ → Type 0)
      → (own ≡ file → own_table ≡ hwpt → (pages : List ℕ) → P pages → Q (g pages))
      → ((own ≡ file → own_table ≡ hwpt → ⊥) → (pages : List ℕ) → P pages → Q pages)
      → HasRow tables file hwpt P → HasRow (map remarked tables) file hwpt Q
  row_remarked Q changes others has =
      by_name (is_tracked_as own own_table has.row) refl (in_mapped remarked tables has.row has.there)
    where
      by_name : (b : Bool) → is_tracked_as own own_table has.row ≡ b
          → IsIn (map remarked tables) (cond b (record has.row { pages = g has.row.pages }) has.row)
          → HasRow (map remarked tables) file hwpt Q
      by_name true is there =
          let (file_same, table_same) = name_is own own_table has.row is in
          record {
            row = record has.row { pages = g has.row.pages };
            there = there;
            of_file = has.of_file;
            of_table = has.of_table;
            pages = changes (sym file_same ∙ has.of_file) (sym table_same ∙ has.of_table) has.row.pages has.pages;
          }
      by_name false other there = record {
        row = has.row;
        there = there;
        of_file = has.of_file;
        of_table = has.of_table;
        pages = others (λ file_same table_same. clash _ other
            (named own own_table has.row (has.of_file ∙ sym file_same) (has.of_table ∙ sym table_same))) has.row.pages
            has.pages;
      }

  -- it was the row whose marks changed, or another one
  pub row_unmarked : HasRow (map remarked tables) file hwpt P
      → ((own ≡ file) × (own_table ≡ hwpt) × HasRow tables file hwpt (λ pages. P (g pages)))
      ⊎ ((own ≡ file → own_table ≡ hwpt → ⊥) × HasRow tables file hwpt P)
  row_unmarked has =
      let (old, there, is) = in_map remarked tables has.row has.there in
      by_name old there (is_tracked_as own own_table old) refl is
    where
      by_name : (old : TrackedTable) → IsIn tables old → (b : Bool) → is_tracked_as own own_table old ≡ b
          → cond b (record old { pages = g old.pages }) old ≡ has.row
          → ((own ≡ file) × (own_table ≡ hwpt) × HasRow tables file hwpt (λ pages. P (g pages)))
          ⊎ ((own ≡ file → own_table ≡ hwpt → ⊥) × HasRow tables file hwpt P)
      by_name old there true named_so is =
          let (file_same, table_same) = name_is own own_table old named_so in
          let of_file : old.file ≡ file = ap (λ (t : TrackedTable). t.file) is ∙ has.of_file in
          let of_table : old.hwpt ≡ hwpt = ap (λ (t : TrackedTable). t.hwpt) is ∙ has.of_table in
          inl (
            sym file_same ∙ of_file,
            sym table_same ∙ of_table,
            record {
              row = old;
              there = there;
              of_file = of_file;
              of_table = of_table;
              pages = subst P (sym (ap (λ (t : TrackedTable). t.pages) is)) has.pages;
            },
          )
      by_name old there false other is =
          let of_file : old.file ≡ file = ap (λ (t : TrackedTable). t.file) is ∙ has.of_file in
          let of_table : old.hwpt ≡ hwpt = ap (λ (t : TrackedTable). t.hwpt) is ∙ has.of_table in
          inr (
            λ file_same table_same. clash _ other
                (named own own_table old (of_file ∙ sym file_same) (of_table ∙ sym table_same)),
            record {
              row = old;
              there = there;
              of_file = of_file;
              of_table = of_table;
              pages = subst P (sym (ap (λ (t : TrackedTable). t.pages) is)) has.pages;
            },
          )
