-- One page table of several changes.
use Rattle.std.proofs.Common.{◌≡◌, ℕ, ◌+◌, ◌≤◌, ◌*◌, Bool, true, false, cond, ◌||◌, eqb, Option, List, [], ◌∷◌, ◌++◌}
use Rattle.std.proofs.Common.{append-nil, map, refl, ap, subst, ◌∙◌, arith}
use Rattle.std.specs.List.{filter, list_all}
use Rattle.std.specs.Int.{from_le_bytes, w64}
use Rattle.std.specs.Prelude.{slice_index, slice_range}
use Rattle.std.proofs.lemmas.List.Folds.{list_any-append}
use Rattle.iofd_rows.proofs.Bools.{and_true, both_false, clash, not_true}
use Rattle.iofd_rows.proofs.Each.{IsIn}
use Rattle.iofd_words.specs.Levels.{levels_of}
use Rattle.iofd_words.specs.Objects.{is_object}
use Rattle.iofd_words.specs.TablePlaces.{is_table_of}
use Rattle.iofd_words.specs.declared.rows.Object.{Object}
use Rattle.iofd_words.specs.declared.rows.TableFrame.{TableFrame}
use Rattle.frame_memory.specs.Pool.{FramePool}
use Rattle.page_table_words.proofs.Releasing.{named_held, one_row, unnamed_counted}
use Rattle.page_table_words.proofs.Tables.{stands_still}
use Rattle.page_table_words.specs.Mapped.{Becomes}
use Rattle.page_table_words.specs.Rows.{MappedPage, TableRow, page_at}
use Rattle.page_table_words.specs.Taken.{names}
use Rattle.page_table_set.proofs.Counted.{one_more, one_row_more, rows_append, rows_in_append, rows_in_frame}
use Rattle.page_table_set.proofs.Counted.{table_of_one}
use Rattle.page_table_set.proofs.Counted.{tables_append}
use Rattle.page_table_set.proofs.Gone.{no_common}
use Rattle.page_table_set.proofs.OwnIds.{is_object-sym, the_only}
use Rattle.page_table_set.specs.PageTables.{AllStand, Hwpt, HwptStands, row_of, rows_of, tables_in}

-- the pages of one object told anew
abbrev pub retold : Object → (ℕ → Option MappedPage) → (Object → ℕ → Option MappedPage) → Object → ℕ → Option MappedPage
retold one told leads object = cond (is_object one.file one.id object) told (leads object)

-- rows that are all a page table's
pub all_rows : (more : List TableFrame) (object : Object) → list_all (is_table_of object.file object.id) more ≡ true
    → rows_of more object ≡ map row_of more
all_rows [] object all = refl
all_rows (t ∷ more) object all =
    let parts =
    and_true (is_table_of object.file object.id t) (list_all (is_table_of object.file object.id) more) all in
    rw (parts.0) (ap (λ (l : List TableRow). row_of t ∷ l) (all_rows more object parts.1))

-- and so are none of another
pub no_rows : (more : List TableFrame) (a b : Object) → list_all (is_table_of a.file a.id) more ≡ true
    → is_object a.file a.id b ≡ false → rows_of more b ≡ []
no_rows [] a b all apart = refl
no_rows (t ∷ more) a b all apart =
    let parts = and_true (is_table_of a.file a.id t) (list_all (is_table_of a.file a.id) more) all in
    by_test (is_table_of b.file b.id t) refl parts.0 (no_rows more a b parts.1 apart)
  where
    by_test : (c : Bool) → is_table_of b.file b.id t ≡ c → is_table_of a.file a.id t ≡ true → rows_of more b ≡ []
        → map row_of (cond c (t ∷ filter (is_table_of b.file b.id) more) (filter (is_table_of b.file b.id) more)) ≡ []
    by_test false is own rest = rest
    by_test true is own rest = absurd (clash (is_table_of a.file a.id t)
        (not_true (is_table_of a.file a.id t) (table_of_one a b t apart is)) own)

pub tables_mapped : (more : List TableFrame) (frame : ℕ) → rows_in_frame (map row_of more) frame ≡ tables_in more frame
tables_mapped [] frame = refl
tables_mapped (t ∷ more) frame =
    let rest = tables_mapped more frame in
    let all = one_more t more frame in
    let row = one_row_counted in
    omega (arith, rest, all, row)
  where
    one_row_counted : rows_in_frame (row_of t ∷ map row_of more) frame ≡ cond (eqb t.frame.0 frame) 1 0
        + rows_in_frame (map row_of more) frame
    one_row_counted = one_row_more (row_of t) (map row_of more) frame

module _ (old new : FramePool) (tables : List Hwpt) (h : Hwpt) (frames more : List TableFrame) (leads : Object → ℕ
    → Option MappedPage) (told : ℕ → Option MappedPage) (pages : List MappedPage)
    (stand : AllStand old frames leads tables) (there : IsIn tables h)
    (all : list_all (is_table_of h.object.file h.object.id) more ≡ true)
    (free : (frame : ℕ) → names (map row_of more) frame ≡ true → slice_index old.holds frame ≡ 0)
    (found : (page : ℕ) → page_at pages page ≡ told page)
    (becomes : Becomes old new h.table (rows_of frames h.object ++ map row_of more) pages) where
  its_rows : rows_of (frames ++ more) h.object ≡ rows_of frames h.object ++ map row_of more
  its_rows = rows_append frames more h.object
      ∙ ap (λ (l : List TableRow). rows_of frames h.object ++ l) (all_rows more h.object all)

  one_stands : HwptStands new (frames ++ more) told h
  one_stands = record { pages = pages; found = found; stands = rw its_rows becomes.stands }

  named_of : (frame : ℕ) → names (rows_of frames h.object ++ map row_of more)
      frame ≡ (names (rows_of frames h.object) frame || names (map row_of more) frame)
  named_of frame =
      list_any-append (λ (row : TableRow). eqb row.frame.0 frame) (rows_of frames h.object) (map row_of more)

  other_stands : (x : Hwpt) → IsIn tables x → is_object h.object.file h.object.id x.object ≡ false
      → HwptStands new (frames ++ more) (leads x.object) x
  other_stands x within apart =
      let stands = stand.each x within in
      let back : is_object x.object.file x.object.id h.object ≡ false = is_object-sym x.object h.object ∙ apart in
      let rows : rows_of (frames ++ more) x.object ≡ rows_of frames x.object =
      rows_append frames more x.object ∙ ap (λ (l : List TableRow). rows_of frames x.object ++ l)
      (no_rows more h.object x.object all apart) ∙ append-nil (rows_of frames x.object) in
      record {
        pages = stands.pages;
        found = stands.found;
        stands = rw rows (stands_still old new (levels_of x.table.width) x.table.root (rows_of frames x.object)
            stands.pages stands.stands
            (record {
              words = λ frame i named below. ap (λ (l : List ℕ). word_in l i)
                  (becomes.others.bytes frame (unlike back frame named));
              holds = λ frame named. becomes.others.holds frame (unlike back frame named);
            }));
      }
    where
      word_in : List ℕ → ℕ → ℕ
      word_in bytes i = from_le_bytes w64 (slice_range bytes (8 * i) (8 * i + 8))

      unlike : is_object x.object.file x.object.id h.object ≡ false → (frame : ℕ)
          → names (rows_of frames x.object) frame ≡ true
          → names (rows_of frames h.object ++ map row_of more) frame ≡ false
      unlike back frame named =
          named_of frame ∙ both_false _ _ (no_common old frames leads tables stand x h within back frame named)
          (by_test (names (map row_of more) frame) refl)
        where
          by_test : (c : Bool) → names (map row_of more) frame ≡ c → c ≡ false
          by_test false is = refl
          by_test true is =
              let stands = stand.each x within in
              let one : slice_index old.holds frame ≡ 1 =
              named_held old (levels_of x.table.width) x.table.root (rows_of frames x.object) stands.pages
              stands.stands frame named in
              let none = free frame is in
              absurd (omega (arith, one, none))

  held_in : (frame : ℕ) (b c : Bool) → names (rows_of frames h.object) frame ≡ b → names (map row_of more) frame ≡ c
      → tables_in (frames ++ more) frame ≤ slice_index new.holds frame
  held_in frame b true is more_is =
      let few = stand.held frame in
      let none = free frame more_is in
      let rows = one_row new (levels_of h.table.width) h.table.root (rows_of frames h.object ++ map row_of more)
      pages becomes.stands frame in
      let parts = rows_in_append (rows_of frames h.object) (map row_of more) frame in
      let same = tables_mapped more frame in
      let both = tables_append frames more frame in
      omega (arith, few, none, rows, parts, same, both)
  held_in frame true false is more_is =
      let few = stand.held frame in
      let stands = stand.each h there in
      let one : slice_index old.holds frame ≡ 1 =
      named_held old (levels_of h.table.width) h.table.root (rows_of frames h.object) stands.pages
      stands.stands frame is in
      let now : slice_index new.holds frame ≡ 1 =
      named_held new (levels_of h.table.width) h.table.root (rows_of frames h.object ++ map row_of more) pages
      becomes.stands frame (named_of frame ∙ rw is refl) in
      let none = unnamed_counted (λ (row : TableRow). eqb row.frame.0 frame) (map row_of more) more_is in
      let same = tables_mapped more frame in
      let both = tables_append frames more frame in
      omega (arith, few, one, now, none, same, both)
  held_in frame false false is more_is =
      let few = stand.held frame in
      let holds = becomes.others.holds frame (named_of frame ∙ both_false _ _ is more_is) in
      let none = unnamed_counted (λ (row : TableRow). eqb row.frame.0 frame) (map row_of more) more_is in
      let same = tables_mapped more frame in
      let both = tables_append frames more frame in
      omega (arith, few, holds, none, same, both)

  pub changed_stand : AllStand new (frames ++ more) (retold h.object told leads) tables
  changed_stand = record {
    own = stand.own;
    each = λ x within. by_id x within (is_object h.object.file h.object.id x.object) refl;
    held = λ frame. held_in frame (names (rows_of frames h.object) frame) (names (map row_of more) frame) refl refl;
  }
    where
      by_id : (x : Hwpt) → IsIn tables x → (b : Bool) → is_object h.object.file h.object.id x.object ≡ b
          → HwptStands new (frames ++ more) (cond (is_object h.object.file h.object.id x.object) told (leads x.object))
          x
      by_id x within true is = rw is (subst (λ (y : Hwpt). HwptStands new (frames ++ more) told y)
          (the_only tables stand.own h x there within is) one_stands)
      by_id x within false is = rw is (other_stands x within is)
