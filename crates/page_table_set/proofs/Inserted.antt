-- A page table that maps no page comes beside others.
use Rattle.std.proofs.Common.{◌≡◌, ℕ, ◌+◌, ◌≤◌, ◌⊎◌, inl, inr, Bool, true, false, cond, ◌&&◌, eqb, Option, Some, None}
use Rattle.std.proofs.Common.{List, [], ◌∷◌, ◌++◌, map, refl, ap, subst, sym, ◌∙◌, arith, ◌||◌, IfSome, Ok, Result}
use Rattle.std.specs.List.{filter, list_any}
use Rattle.std.specs.Int.{from_le_bytes, w64}
use Rattle.std.specs.Prelude.{◌*◌, slice_index, slice_range}
use Rattle.std.proofs.lemmas.Bool.{eqb-true}
use Rattle.std.proofs.lemmas.Bool.Decides.{nat_tests}
use Rattle.std.proofs.lemmas.List.Sums.{sum_by-cons}
use Rattle.iofd_rows.proofs.Bools.{and_true, both_false, both_true}
use Rattle.iofd_rows.proofs.Each.{IsIn, in_inserted}
use Rattle.iofd_words.specs.Levels.{levels_of}
use Rattle.iofd_words.specs.Objects.{is_object}
use Rattle.iofd_words.specs.TablePlaces.{is_table_of}
use Rattle.iofd_words.specs.declared.numbers.FrameNo.{FrameNo}
use Rattle.iofd_words.specs.declared.rows.Object.{Object}
use Rattle.iofd_words.specs.declared.rows.TableFrame.{TableFrame}
use Rattle.iofd_words.specs.declared.refusal.Refusal.{Refusal}
use Rattle.iofd_words.specs.declared.width.Width.{Width}
use Rattle.frame_memory.specs.Pool.{FramePool, least_free}
use Rattle.std.proofs.lemmas.List.Quantifiers.{position-Some}
use Rattle.page_table_words.proofs.Releasing.{named_held}
use Rattle.page_table_words.proofs.Tables.{stands_still}
use Rattle.page_table_words.specs.Mapped.{Becomes, root_row}
use Rattle.page_table_words.specs.Rows.{MappedPage, TableRow, page_at, table_at}
use Rattle.page_table_words.specs.Stands.{TableRoot}
use Rattle.page_table_words.specs.Taken.{names}
use Rattle.page_table_set.proofs.OwnIds.{is_object-sym, objects, own_with}
use Rattle.page_table_set.specs.PageTables.{AllStand, Hwpt, HwptStands, hwpt_at, root_frame, row_of, rows_of}
use Rattle.page_table_set.specs.PageTables.{stands_before, tables_in, with_hwpt}

eqb_same : (n : ℕ) → eqb n n ≡ true
eqb_same n = grind (arith, nat_tests)

-- ---- the list

-- it is the new one, or was there
pub in_with : (h : Hwpt) (tables : List Hwpt) (x : Hwpt) → IsIn (with_hwpt h tables) x → (h ≡ x) ⊎ IsIn tables x
in_with = in_inserted stands_before

-- ---- its rows

-- a row that is another page table's is passed over
pub rows_without : (frames : List TableFrame) (row : TableFrame) (object : Object)
    → is_table_of object.file object.id row ≡ false
    → rows_of (frames ++ row ∷ []) object ≡ rows_of frames object
rows_without [] row object other = rw other refl
rows_without (t ∷ frames) row object other =
    by_test (is_table_of object.file object.id t) (rows_without frames row object other)
  where
    by_test : (b : Bool) → rows_of (frames ++ row ∷ []) object ≡ rows_of frames object
        → map row_of (cond b (t ∷ filter (is_table_of object.file object.id) (frames ++ row ∷ []))
        (filter (is_table_of object.file object.id) (frames ++ row ∷ [])))
        ≡ map row_of (cond b (t ∷ filter (is_table_of object.file object.id) frames)
        (filter (is_table_of object.file object.id) frames))
    by_test true rest = ap (λ (l : List TableRow). row_of t ∷ l) rest
    by_test false rest = rest

-- one that is its own comes last
pub rows_with : (frames : List TableFrame) (row : TableFrame) (object : Object)
    → is_table_of object.file object.id row ≡ true
    → rows_of (frames ++ row ∷ []) object ≡ rows_of frames object ++ row_of row ∷ []
rows_with [] row object own = rw own refl
rows_with (t ∷ frames) row object own = by_test (is_table_of object.file object.id t) (rows_with frames row object own)
  where
    by_test : (b : Bool) → rows_of (frames ++ row ∷ []) object ≡ rows_of frames object ++ row_of row ∷ []
        → map row_of (cond b (t ∷ filter (is_table_of object.file object.id) (frames ++ row ∷ []))
        (filter (is_table_of object.file object.id) (frames ++ row ∷ [])))
        ≡ map row_of (cond b (t ∷ filter (is_table_of object.file object.id) frames)
        (filter (is_table_of object.file object.id) frames)) ++ row_of row ∷ []
    by_test true rest = ap (λ (l : List TableRow). row_of t ∷ l) rest
    by_test false rest = rest

-- how many tables are in a frame
pub tables_in_with : (frames : List TableFrame) (row : TableFrame) (frame : ℕ)
    → tables_in (frames ++ row ∷ []) frame ≡ tables_in frames frame + cond (eqb row.frame.0 frame) 1 0
tables_in_with [] row frame =
    sum_by-cons (λ (x : TableFrame). cond {A = ℕ} (eqb x.frame.0 frame) 1 0) row [] ∙ omega arith
tables_in_with (t ∷ frames) row frame =
    let one = sum_by-cons (λ (x : TableFrame). cond {A = ℕ} (eqb x.frame.0 frame) 1 0) t (frames ++ row ∷ []) in
    let all = sum_by-cons (λ (x : TableFrame). cond {A = ℕ} (eqb x.frame.0 frame) 1 0) t frames in
    let rest = tables_in_with frames row frame in
    omega (arith, one, all, rest)

-- no row, no table
no_table : (level : ℕ) (frame : FrameNo) → table_at [] level 0 ≡ Some frame → ⊥
unfolding table_at
no_table level frame is = cc

-- where no page is mapped none leads anywhere
no_page : (page : ℕ) → page_at [] page ≡ None
unfolding page_at
no_page page = refl

-- ---- all stand

module _ (old new : FramePool) (tables : List Hwpt) (h : Hwpt) (frames : List TableFrame) (leads : Object → ℕ
    → Option MappedPage)
    (free : slice_index old.holds h.table.root.0 ≡ 0)
    (becomes : Becomes old new h.table (root_row h.table ∷ []) [])
    (stand : AllStand old frames leads tables)
    (none : rows_of frames h.object ≡ [])
    (nowhere : (page : ℕ) → leads h.object page ≡ None) where
  own : is_table_of h.object.file h.object.id (root_frame h) ≡ true
  own = both_true _ _ (eqb_same h.object.file.0) (eqb_same h.object.id.0)

  -- the new one
  first_stands : HwptStands new (frames ++ root_frame h ∷ []) (leads h.object) h
  first_stands =
      let rows : rows_of (frames ++ root_frame h ∷ []) h.object ≡ root_row h.table ∷ [] =
      rows_with frames (root_frame h) h.object own ∙ ap (λ (l : List TableRow). l ++ row_of (root_frame h) ∷ []) none in
      record { pages = []; found = λ page. no_page page ∙ sym (nowhere page); stands = rw rows becomes.stands }

  -- one whose rows are none doesn't stand
  no_rows : (x : Hwpt) → HwptStands old frames (leads x.object) x → is_object h.object.file h.object.id x.object ≡ true
      → ⊥
  no_rows x stands is =
      let parts = and_true (eqb x.object.file.0 h.object.file.0) (eqb x.object.id.0 h.object.id.0) is in
      let file : x.object.file.0 ≡ h.object.file.0 = eqb-true x.object.file.0 h.object.file.0 parts.0 in
      let id : x.object.id.0 ≡ h.object.id.0 = eqb-true x.object.id.0 h.object.id.0 parts.1 in
      let rows : rows_of frames x.object ≡ [] =
      ap (λ (n : ℕ). map row_of (filter (λ (t : TableFrame). eqb t.file.0 n && eqb t.hwpt.0 x.object.id.0) frames)) file
      ∙ ap (λ (n : ℕ). map row_of (filter (λ (t : TableFrame). eqb t.file.0 h.object.file.0 && eqb t.hwpt.0 n) frames))
      id
      ∙ none in
      no_table (levels_of x.table.width) x.table.root
      (ap (λ (l : List TableRow). table_at l (levels_of x.table.width) 0) (sym rows) ∙ stands.stands.at_root)

  -- another one
  others : (x : Hwpt) → HwptStands old frames (leads x.object) x → (b : Bool)
      → is_table_of x.object.file x.object.id (root_frame h) ≡ b
      → HwptStands new (frames ++ root_frame h ∷ []) (leads x.object) x
  others x stands true is = absurd (no_rows x stands (is_object-sym h.object x.object ∙ is))
  others x stands false is =
      let rows = rows_without frames (root_frame h) x.object is in
      record {
        pages = stands.pages;
        found = stands.found;
        stands = rw rows (stands_still old new (levels_of x.table.width) x.table.root (rows_of frames x.object)
            stands.pages stands.stands
            (record {
              words = λ frame i named below. ap (λ (l : List ℕ). word_in l i)
                  (becomes.others.bytes frame (unlike frame named));
              holds = λ frame named. becomes.others.holds frame (unlike frame named);
            }));
      }
    where
      word_in : List ℕ → ℕ → ℕ
      word_in bytes i = from_le_bytes w64 (slice_range bytes (8 * i) (8 * i + 8))

      unlike : (frame : ℕ) → names (rows_of frames x.object) frame ≡ true → names (root_row h.table ∷ []) frame ≡ false
      unlike frame named = by_frame (eqb h.table.root.0 frame) refl
        where
          by_frame : (b : Bool) → eqb h.table.root.0 frame ≡ b → (b || false) ≡ false
          by_frame true is =
              let same : h.table.root.0 ≡ frame = eqb-true h.table.root.0 frame is in
              let one : slice_index old.holds frame ≡ 1 =
              named_held old (levels_of x.table.width) x.table.root (rows_of frames x.object) stands.pages
              stands.stands frame named in
              let zero_holds : slice_index old.holds frame ≡ 0 =
              ap (λ (n : ℕ). slice_index old.holds n) (sym same) ∙ free in
              absurd (omega (arith, one, zero_holds))
          by_frame false is = refl

  -- the root's frame held no table
  held_in : (frame : ℕ) → (b : Bool) → eqb h.table.root.0 frame ≡ b
      → tables_in (frames ++ root_frame h ∷ []) frame ≤ slice_index new.holds frame
  held_in frame true is =
      let same : h.table.root.0 ≡ frame = eqb-true h.table.root.0 frame is in
      let few = stand.held frame in
      let zero_holds : slice_index old.holds frame ≡ 0 = ap (λ (n : ℕ). slice_index old.holds n) (sym same) ∙ free in
      let one : slice_index new.holds frame ≡ 1 =
      named_held new (levels_of h.table.width) h.table.root (root_row h.table ∷ []) []
      becomes.stands frame (rw is refl) in
      let counted : tables_in (frames ++ root_frame h ∷ []) frame ≡ tables_in frames frame + 1 =
      tables_in_with frames (root_frame h) frame ∙ ap (λ (b : Bool). tables_in frames frame + cond {A = ℕ} b 1 0) is in
      omega (arith, few, zero_holds, one, counted)
  held_in frame false is =
      let few = stand.held frame in
      let holds : slice_index new.holds frame ≡ slice_index old.holds frame = becomes.others.holds frame (rw is refl) in
      let counted : tables_in (frames ++ root_frame h ∷ []) frame ≡ tables_in frames frame + 0 =
      tables_in_with frames (root_frame h) frame ∙ ap (λ (b : Bool). tables_in frames frame + cond {A = ℕ} b 1 0) is in
      omega (arith, few, holds, counted)

  -- no other one has its id
  new_id : (list : List Hwpt) → ((x : Hwpt) → IsIn list x → IsIn tables x)
      → list_any (is_object h.object.file h.object.id) (objects list) ≡ false
  new_id [] all = refl
  new_id (t ∷ list) all = both_false _ _ (by_test (is_object h.object.file h.object.id t.object) refl)
      (new_id list (λ x within. all x (inr within)))
    where
      by_test : (b : Bool) → is_object h.object.file h.object.id t.object ≡ b → b ≡ false
      by_test false is = refl
      by_test true is = absurd (no_rows t (stand.each t (all t (inl refl))) is)

  pub inserted_stand : AllStand new (frames ++ root_frame h ∷ []) leads (with_hwpt h tables)
  inserted_stand = record {
    own = own_with h tables stand.own (new_id tables (λ x within. within));
    each = λ x within. by_place x (in_with h tables x within);
    held = λ frame. held_in frame (eqb h.table.root.0 frame) refl;
  }
    where
      by_place : (x : Hwpt) → (h ≡ x) ⊎ IsIn tables x → HwptStands new (frames ++ root_frame h ∷ []) (leads x.object) x
      by_place x (inl same) =
          subst (λ (y : Hwpt). HwptStands new (frames ++ root_frame h ∷ []) (leads y.object) y) same first_stands
      by_place x (inr there) = others x (stand.each x there) (is_table_of x.object.file x.object.id (root_frame h)) refl

the_same : (a b : TableRoot) → ◌≡◌ {A = Result TableRoot Refusal} (Ok a) (Ok b) → a ≡ b
the_same a b same = cc

-- as the call has it: the root is in the least free frame
pub inserted : (old new : FramePool) (tables after : List Hwpt) (object : Object) (width : Width) (table : TableRoot)
    (r : Result TableRoot Refusal)
    → IfSome (least_free old.holds) (λ frame. r ≡ Ok (record { width = width; root = record { 0 = frame } }))
    → r ≡ Ok table
    → Becomes old new table (root_row table ∷ []) []
    → after ≡ with_hwpt (record { object = object; table = table }) tables
    → IfSome (least_free old.holds) (λ frame. (frames : List TableFrame) (leads : Object → ℕ → Option MappedPage)
    → AllStand old frames leads tables → rows_of frames object ≡ [] → ((page : ℕ) → leads object page ≡ None)
    → AllStand new (frames ++ root_frame (hwpt_at object width frame) ∷ []) leads after)
inserted old new tables after object width table r taken is becomes with = by_least (least_free old.holds) refl taken
  where
    by_least : (o : Option ℕ) → least_free old.holds ≡ o
        → IfSome o (λ frame. r ≡ Ok (record { width = width; root = record { 0 = frame } }))
        → IfSome o (λ frame. (frames : List TableFrame) (leads : Object → ℕ → Option MappedPage)
        → AllStand old frames leads tables → rows_of frames object ≡ [] → ((page : ℕ) → leads object page ≡ None)
        → AllStand new (frames ++ root_frame (hwpt_at object width frame) ∷ []) leads after)
    by_least None least taken = tt
    by_least (Some frame) least taken = λ frames leads stand none nowhere.
        let both = sym is ∙ taken in
        let same : table ≡ record { width = width; root = record { 0 = frame } } = the_same table _ both in
        let free : slice_index old.holds frame ≡ 0 =
        eqb-true (slice_index old.holds frame) 0 (position-Some (λ count. eqb count 0) old.holds frame 0 least).1 in
        rw (with, same) (inserted_stand old new tables (hwpt_at object width frame) frames leads free
        (subst (λ (t : TableRoot). Becomes old new t (root_row t ∷ []) []) same becomes) stand none nowhere)
