-- A page table goes from others.
use Rattle.std.proofs.Common.{◌≡◌, ℕ, ◌≤◌, Bool, true, false, not, eqb, Option, Some, None, List, [], append-nil}
use Rattle.std.proofs.Common.{length, refl, ap, subst, sym, ◌∙◌, arith}
use Rattle.std.specs.List.{filter}
use Rattle.std.specs.Prelude.{slice_index}
use Rattle.std.proofs.lemmas.Bool.{eqb-true}
use Rattle.std.proofs.lemmas.List.Sorted.{IsPermutation-refl}
use Rattle.iofd_rows.proofs.Bools.{and_true}
use Rattle.iofd_rows.proofs.Each.{IsIn, in_found}
use Rattle.iofd_words.specs.Levels.{levels_of}
use Rattle.iofd_words.specs.Objects.{is_object}
use Rattle.iofd_words.specs.TablePlaces.{is_table_of}
use Rattle.iofd_words.specs.declared.numbers.FileNo.{FileNo}
use Rattle.iofd_words.specs.declared.numbers.FrameNo.{FrameNo}
use Rattle.iofd_words.specs.declared.numbers.ObjId.{ObjId}
use Rattle.iofd_words.specs.declared.rows.Object.{Object}
use Rattle.iofd_words.specs.declared.rows.TableFrame.{TableFrame}
use Rattle.frame_memory.specs.Pool.{FramePool, word_at}
use Rattle.page_table_words.proofs.Releasing.{named_counted, named_held, unnamed_counted}
use Rattle.page_table_words.proofs.Tables.{stands_still}
use Rattle.page_table_words.specs.Released.{CanRelease, GivesBack, Releases}
use Rattle.page_table_words.specs.Rows.{MappedPage, TableRow}
use Rattle.page_table_words.specs.Stands.{IfStands}
use Rattle.page_table_words.specs.Taken.{names}
use Rattle.page_table_set.proofs.Counted.{both_few, counted, fewer_tables, rows_filtered, rows_kept, table_of_one}
use Rattle.page_table_set.proofs.OwnIds.{in_without, is_object-sym, none_found, not_found, own_without}
use Rattle.page_table_set.specs.PageTables.{AllStand, IfAllStand, Hwpt, HwptStands, hwpt_of, rows_of, tables_in}
use Rattle.page_table_set.specs.Removed.{CanRemove, rows_found, without_hwpt, without_tables}

-- the file and id of the one that is found
pub found_file : (tables : List Hwpt) (file : FileNo) (id : ObjId) (h : Hwpt) → hwpt_of tables file id ≡ Some h
    → h.object.file ≡ file
found_file tables file id h found =
    let is = (in_found (λ (x : Hwpt). is_object file id x.object) tables h found).1 in
    let parts = and_true (eqb h.object.file.0 file.0) (eqb h.object.id.0 id.0) is in
    ap (λ (n : ℕ). let f : FileNo = record { 0 = n } in f) (eqb-true h.object.file.0 file.0 parts.0)

pub found_id : (tables : List Hwpt) (file : FileNo) (id : ObjId) (h : Hwpt) → hwpt_of tables file id ≡ Some h
    → h.object.id ≡ id
found_id tables file id h found =
    let is = (in_found (λ (x : Hwpt). is_object file id x.object) tables h found).1 in
    let parts = and_true (eqb h.object.file.0 file.0) (eqb h.object.id.0 id.0) is in
    ap (λ (n : ℕ). let i : ObjId = record { 0 = n } in i) (eqb-true h.object.id.0 id.0 parts.1)

pub found_in : (tables : List Hwpt) (file : FileNo) (id : ObjId) (h : Hwpt) → hwpt_of tables file id ≡ Some h
    → IsIn tables h
found_in tables file id h found = (in_found (λ (x : Hwpt). is_object file id x.object) tables h found).0

-- rows that are no page table's of these may go
pub fewer_stand : (pool : FramePool) (p : TableFrame → Bool) (frames : List TableFrame) (leads : Object → ℕ
    → Option MappedPage) (tables : List Hwpt)
    → AllStand pool frames leads tables
    → ((h : Hwpt) → IsIn tables h → (t : TableFrame) → is_table_of h.object.file h.object.id t ≡ true → p t ≡ true)
    → AllStand pool (filter p frames) leads tables
fewer_stand pool p frames leads tables stand stays = record {
  own = stand.own;
  each = λ h within.
      let stands = stand.each h within in
      let rows = rows_filtered p frames h.object (stays h within) in
      record { pages = stands.pages; found = stands.found; stands = rw rows stands.stands };
  held = λ frame. let few = fewer_tables p frames frame in let all = stand.held frame in omega (arith, few, all);
}

-- two page tables that stand have no frame in common
module _ (pool : FramePool) (frames : List TableFrame) (leads : Object → ℕ
    → Option MappedPage) (tables : List Hwpt) (stand : AllStand pool frames leads tables)
    (a b : Hwpt) (in_a : IsIn tables a) (apart : is_object a.object.file a.object.id b.object ≡ false) where
  pub no_common : (frame : ℕ) → names (rows_of frames a.object) frame ≡ true
      → names (rows_of frames b.object) frame ≡ false
  no_common frame named = by_test (names (rows_of frames b.object) frame) refl
    where
      by_test : (c : Bool) → names (rows_of frames b.object) frame ≡ c → c ≡ false
      by_test false is = refl
      by_test true is =
          let stands = stand.each a in_a in
          let one : slice_index pool.holds frame ≡ 1 =
          named_held pool (levels_of a.table.width) a.table.root (rows_of frames a.object) stands.pages
          stands.stands frame named in
          let few = both_few frames a.object b.object frame apart in
          let some = named_counted (λ (row : TableRow). eqb row.frame.0 frame) (rows_of frames a.object) named in
          let more = named_counted (λ (row : TableRow). eqb row.frame.0 frame) (rows_of frames b.object) is in
          let all = stand.held frame in
          absurd (omega (arith, one, few, some, more, all))

module _ (old new : FramePool) (tables : List Hwpt) (frames : List TableFrame) (leads : Object → ℕ
    → Option MappedPage) (h : Hwpt)
    (stand : AllStand old frames leads tables) (there : IsIn tables h)
    (releases : Releases (rows_of frames h.object) old new) where
  other_stands : (x : Hwpt) → IsIn tables x → is_object h.object.file h.object.id x.object ≡ false
      → HwptStands new (without_tables h.object.file h.object.id frames) (leads x.object) x
  other_stands x within apart =
      let stands = stand.each x within in
      let rows = rows_kept frames h.object x.object apart in
      let back : is_object x.object.file x.object.id h.object ≡ false = is_object-sym x.object h.object ∙ apart in
      record {
        pages = stands.pages;
        found = stands.found;
        stands = rw rows (stands_still old new (levels_of x.table.width) x.table.root (rows_of frames x.object)
            stands.pages stands.stands
            (record {
              words = λ frame i named below. ap (λ (b : List (List ℕ)). word_at (record {
                holds = old.holds;
                bytes = b;
              }) frame i) releases.bytes;
              holds = λ frame named. releases.others frame
                  (no_common old frames leads tables stand x h within back frame named);
            }));
      }

  less_held : (frame : ℕ) (b : Bool) → names (rows_of frames h.object) frame ≡ b
      → tables_in (without_tables h.object.file h.object.id frames) frame ≤ slice_index new.holds frame
  less_held frame true is =
      let stands = stand.each h there in
      let one : slice_index old.holds frame ≡ 1 =
      named_held old (levels_of h.table.width) h.table.root (rows_of frames h.object) stands.pages
      stands.stands frame is in
      let all = counted frames h.object.file h.object.id frame in
      let some = named_counted (λ (row : TableRow). eqb row.frame.0 frame) (rows_of frames h.object) is in
      let few = stand.held frame in
      let left : tables_in (without_tables h.object.file h.object.id frames) frame ≡ 0 =
      omega (arith, one, all, some, few) in
      omega (arith, left)
  less_held frame false is =
      let all = counted frames h.object.file h.object.id frame in
      let none = unnamed_counted (λ (row : TableRow). eqb row.frame.0 frame) (rows_of frames h.object) is in
      let few = stand.held frame in
      let same = releases.others frame is in
      omega (arith, all, none, few, same)

  pub gone_stand : AllStand new (without_tables h.object.file h.object.id frames) leads
      (without_hwpt h.object.file h.object.id tables)
  gone_stand = record {
    own = own_without h.object.file h.object.id tables stand.own;
    each = λ x within. let was =
        in_without h.object.file h.object.id tables stand.own x within in other_stands x was.0 was.1;
    held = λ frame. less_held frame (names (rows_of frames h.object) frame) refl;
  }

-- as the call has it, where one is found
pub removed_stand : (old new : FramePool) (tables : List Hwpt) (file : FileNo) (id : ObjId) (h : Hwpt)
    (frames : List TableFrame) (leads : Object → ℕ → Option MappedPage)
    → hwpt_of tables file id ≡ Some h → AllStand old frames leads tables → Releases (rows_of frames h.object) old new
    → AllStand new (without_tables file id frames) leads (without_hwpt file id tables)
removed_stand old new tables file id h frames leads found stand releases =
    subst (λ (f : FileNo). AllStand new (without_tables f id frames) leads (without_hwpt f id tables))
    (found_file tables file id h found)
    (subst (λ (i : ObjId). AllStand new (without_tables h.object.file i frames) leads
    (without_hwpt h.object.file i tables)) (found_id tables file id h found)
    (gone_stand old new tables frames leads h stand (found_in tables file id h found) releases))

pub other_table : (file : FileNo) (id : ObjId) (b : Object) (t : TableFrame) → is_object file id b ≡ false
    → is_table_of b.file b.id t ≡ true → not (is_table_of file id t) ≡ true
other_table file id b t apart is = table_of_one (record b { file = file; id = id }) b t apart is

-- and where none is
pub none_removed : (pool : FramePool) (tables : List Hwpt) (file : FileNo) (id : ObjId) (frames : List TableFrame)
    (leads : Object → ℕ → Option MappedPage)
    → hwpt_of tables file id ≡ None → AllStand pool frames leads tables
    → AllStand pool (without_tables file id frames) leads tables
none_removed pool tables file id frames leads none stand =
    fewer_stand pool (λ t. not (is_table_of file id t)) frames leads tables stand
    (λ h within t own. other_table file id h.object t (not_found file id tables none h within) own)

-- ---- frames of the one that is found

module _ (pool : FramePool) (tables : List Hwpt) (file : FileNo) (id : ObjId) (h : Hwpt)
    (found : hwpt_of tables file id ≡ Some h) where
  pub its_rows : (frames : List TableFrame) → rows_found frames (hwpt_of tables file id) ≡ rows_of frames h.object
  its_rows frames = ap (rows_found frames) found

  pub frames_counted : (count : ℕ) → IfStands pool h.table (λ rows pages. count ≡ length rows)
      → IfAllStand pool tables (λ frames leads. count ≡ length (rows_found frames (hwpt_of tables file id)))
  frames_counted count counts = λ frames leads stand.
      let stands = stand.each h (found_in tables file id h found) in
      counts _ stands.pages stands.stands ∙ sym (ap length (its_rows frames))

  pub can_release : (room : ℕ) → CanRemove pool tables file id room → CanRelease pool h.table room
  can_release room can =
      let stands = can.stand.each h (found_in tables file id h found) in
      record {
        rows = rows_of can.frames h.object;
        pages = stands.pages;
        stands = stands.stands;
        enough = rw (its_rows can.frames) at can.enough;
      }

  pub gives_found : (old new : List FrameNo) → IfStands pool h.table (λ rows pages. GivesBack rows old new)
      → IfAllStand pool tables (λ frames leads. GivesBack (rows_found frames (hwpt_of tables file id)) old new)
  gives_found old new gives = λ frames leads stand.
      let stands = stand.each h (found_in tables file id h found) in
      subst (λ (rows : List TableRow). GivesBack rows old new) (sym (its_rows frames))
      (gives _ stands.pages stands.stands)

  pub releases_found : (new : FramePool) → IfStands pool h.table (λ rows pages. Releases rows pool new)
      → IfAllStand pool tables (λ frames leads. Releases (rows_found frames (hwpt_of tables file id)) pool new)
  releases_found new releases = λ frames leads stand.
      let stands = stand.each h (found_in tables file id h found) in
      subst (λ (rows : List TableRow). Releases rows pool new) (sym (its_rows frames))
      (releases _ stands.pages stands.stands)

  pub stand_found : (new : FramePool) (after : List Hwpt) → after ≡ without_hwpt file id tables
      → IfStands pool h.table (λ rows pages. Releases rows pool new)
      → IfAllStand pool tables (λ frames leads. AllStand new (without_tables file id frames) leads after)
  stand_found new after is releases = λ frames leads stand.
      let stands = stand.each h (found_in tables file id h found) in
      subst (λ (l : List Hwpt). AllStand new (without_tables file id frames) leads l) (sym is)
      (removed_stand pool new tables file id h frames leads found stand (releases _ stands.pages stands.stands))

-- where none is found nothing is given back
module _ (pool : FramePool) (tables : List Hwpt) (file : FileNo) (id : ObjId) (none : hwpt_of tables file id ≡ None)
  where
    no_rows : (frames : List TableFrame) → rows_found frames (hwpt_of tables file id) ≡ []
    no_rows frames = ap (rows_found frames) none

    pub gives_none : (list : List FrameNo) → IfAllStand pool tables
        (λ frames leads. GivesBack (rows_found frames (hwpt_of tables file id)) list list)
    gives_none list = λ frames leads stand.
        subst (λ (rows : List TableRow). GivesBack rows list list) (sym (no_rows frames))
        (record {
          given = [];
          is = sym (append-nil list);
          same = IsPermutation-refl [];
          rising = λ i j d below within. absurd (omega (arith, within));
        })

    pub stand_none : (after : List Hwpt) → after ≡ without_hwpt file id tables
        → IfAllStand pool tables (λ frames leads. AllStand pool (without_tables file id frames) leads after)
    stand_none after is = λ frames leads stand.
        subst (λ (l : List Hwpt). AllStand pool (without_tables file id frames) leads l)
        (sym (is ∙ none_found file id tables none))
        (none_removed pool tables file id frames leads none stand)
