-- What is done to other frames leaves all page tables as they were.
use Rattle.std.proofs.Common.{◌≡◌, ℕ, ◌+◌, ◌<◌, ◌≤◌, Bool, true, false, cond, eqb, Option, List, [], ◌∷◌, map}
use Rattle.std.proofs.Common.{⊎_elim, refl, ap, sym, ◌∙◌, arith}
use Rattle.std.specs.List.{filter}
use Rattle.std.specs.Int.{from_le_bytes, w64}
use Rattle.std.proofs.lemmas.Bool.{cases_lt}
use Rattle.std.proofs.lemmas.List.Sums.{sum_by-cons}
use Rattle.std.specs.Prelude.{◌*◌, slice_index, slice_range}
use Rattle.iofd_rows.proofs.Each.{IsIn}
use Rattle.iofd_words.specs.Levels.{levels_of}
use Rattle.iofd_words.specs.TablePlaces.{is_table_of}
use Rattle.iofd_words.specs.declared.rows.Object.{Object}
use Rattle.iofd_words.specs.declared.rows.TableFrame.{TableFrame}
use Rattle.frame_memory.specs.Pool.{FramePool}
use Rattle.page_table_words.proofs.Releasing.{named_held}
use Rattle.page_table_words.proofs.Tables.{stands_still}
use Rattle.page_table_words.specs.SameTables.{SameTables}
use Rattle.page_table_words.specs.Rows.{MappedPage}
use Rattle.page_table_words.specs.Taken.{names}
use Rattle.page_table_set.specs.PageTables.{AllStand, Hwpt, HwptStands, row_of, rows_of, tables_in}
use Rattle.page_table_set.specs.SameFrames.{SameFrames}

-- a frame that a row of one page table names holds a table
pub named_within : (frames : List TableFrame) (object : Object) (frame : ℕ) → names (rows_of frames object) frame ≡ true
    → 0 < tables_in frames frame
named_within [] object frame named = cc
named_within (t ∷ frames) object frame named =
    by_tests (is_table_of object.file object.id t) (eqb t.frame.0 frame) refl refl named
    (named_within frames object frame)
  where
    counted : tables_in (t ∷ frames) frame ≡ cond (eqb t.frame.0 frame) 1 0 + tables_in frames frame
    counted = sum_by-cons (λ (x : TableFrame). cond (eqb x.frame.0 frame) 1 0) t frames

    by_tests : (b c : Bool) → is_table_of object.file object.id t ≡ b → eqb t.frame.0 frame ≡ c
        → names (map row_of (cond b (t ∷ filter (is_table_of object.file object.id) frames)
        (filter (is_table_of object.file object.id) frames))) frame ≡ true
        → (names (rows_of frames object) frame ≡ true → 0 < tables_in frames frame)
        → 0 < tables_in (t ∷ frames) frame
    by_tests b true is here named later =
        let one : tables_in (t ∷ frames) frame ≡ 1 + tables_in frames frame =
        counted ∙ ap (λ (x : Bool). cond {A = ℕ} x 1 0 + tables_in frames frame) here in
        omega (arith, one)
    by_tests true false is here named later =
        let rest : names (rows_of frames object) frame ≡ true = rw here at named in
        let more = later rest in
        let whole = counted in
        omega (arith, more, whole)
    by_tests false false is here named later =
        let more = later named in
        let whole = counted in
        omega (arith, more, whole)

-- where each frame of a page table has the same words and as many holds, all stand as they did
pub all_stay : (old new : FramePool) (frames : List TableFrame) (leads : Object → ℕ
    → Option MappedPage) (tables : List Hwpt)
    → AllStand old frames leads tables
    → ((h : Hwpt) → IsIn tables h → SameTables (rows_of frames h.object) old new)
    → ((frame : ℕ) → tables_in frames frame ≤ slice_index new.holds frame)
    → AllStand new frames leads tables
all_stay old new frames leads tables stand same held = record {
  own = stand.own;
  each = λ h within. one h within (stand.each h within);
  held = held;
}
  where
    one : (h : Hwpt) → IsIn tables h → HwptStands old frames (leads h.object) h
        → HwptStands new frames (leads h.object) h
    one h within stands = record {
      pages = stands.pages;
      found = stands.found;
      stands = stands_still old new (levels_of h.table.width) h.table.root (rows_of frames h.object) stands.pages
          stands.stands (same h within);
    }

-- on a frame of a page table that stands there is one hold
pub table_held : (pool : FramePool) (frames : List TableFrame) (leads : ℕ → Option MappedPage) (h : Hwpt)
    → HwptStands pool frames leads h
    → (frame : ℕ) → names (rows_of frames h.object) frame ≡ true → slice_index pool.holds frame ≡ 1
table_held pool frames leads h stands frame named =
    named_held pool (levels_of h.table.width) h.table.root (rows_of frames h.object) stands.pages
    stands.stands frame named

-- the pages may be told in another way
pub all_told : (pool : FramePool) (frames : List TableFrame) (leads others : Object → ℕ
    → Option MappedPage) (tables : List Hwpt)
    → AllStand pool frames leads tables
    → ((h : Hwpt) → IsIn tables h → (page : ℕ) → others h.object page ≡ leads h.object page)
    → AllStand pool frames others tables
all_told pool frames leads others tables stand same = record {
  own = stand.own;
  each = λ h within.
      let stands = stand.each h within in
      record {
        pages = stands.pages;
        found = λ page. stands.found page ∙ sym (same h within page);
        stands = stands.stands;
      };
  held = stand.held;
}

pub leads_alike : (pool : FramePool) (frames : List TableFrame) (leads others : Object → ℕ
    → Option MappedPage) (tables : List Hwpt)
    → AllStand pool frames leads tables
    → ((h : Hwpt) → IsIn tables h → (page : ℕ) → others h.object page ≡ leads h.object page)
    → AllStand pool frames others tables
leads_alike = all_told

-- ---- a pool in which only other frames differ

-- each frame in which a table is has the same bytes and holds
pub stays_standing : (old new : FramePool) (frames : List TableFrame) (leads : Object → ℕ
    → Option MappedPage) (tables : List Hwpt)
    → AllStand old frames leads tables → SameFrames frames old new → AllStand new frames leads tables
stays_standing old new frames leads tables stand same =
    all_stay old new frames leads tables stand
    (λ h within. record {
      words = λ frame i named below. ap (λ (bytes : List ℕ). from_le_bytes w64 (slice_range bytes (8 * i) (8 * i + 8)))
          (same.bytes frame (named_within frames h.object frame named));
      holds = λ frame named. same.holds frame (named_within frames h.object frame named);
    })
    held
  where
    held : (frame : ℕ) → tables_in frames frame ≤ slice_index new.holds frame
    held frame =
        ⊎_elim
        (λ (some : 0 < tables_in frames frame). let was = stand.held frame in let is = same.holds frame
        some in omega (arith, was, is))
        (λ (none : tables_in frames frame ≤ 0). omega (arith, none))
        (cases_lt 0 (tables_in frames frame))
