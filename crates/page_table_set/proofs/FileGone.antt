-- All page tables of a file go, one after the other.
use Rattle.std.proofs.Common.{◌≡◌, ℕ, suc, ◌+◌, ◌≤◌, Bool, true, false, cond, not, ◌&&◌, ◌||◌, eqb, Option, Some, None}
use Rattle.std.proofs.Common.{List, [], ◌∷◌, ◌++◌, append_assoc, append-nil, drop, length, length-append, map, take}
use Rattle.std.proofs.Common.{refl, ap, subst, sym, ◌∙◌, inl, inr, arith}
use Rattle.std.specs.List.{filter, find, flat_map, sum_by}
use Rattle.std.specs.List.Sorted.{IsNonDecreasingBy, IsPermutation}
use Rattle.std.specs.Prelude.{slice_index}
use Rattle.std.proofs.lemmas.Bool.Decides.{nat_tests}
use Rattle.std.proofs.lemmas.List.{drop_at, map-append, take-append-drop, take_at}
use Rattle.std.proofs.lemmas.List.Concat.{flat_map-cons}
use Rattle.std.proofs.lemmas.List.Folds.{list_any-append}
use Rattle.std.proofs.lemmas.List.Sums.{sum_by-cons}
use Rattle.std.proofs.lemmas.List.Sorted.{IsPermutation-append, IsPermutation-refl, IsPermutation-trans}
use Rattle.std.proofs.lemmas.List.Sorted.{sum_by-IsPermutation}
use Rattle.iofd_rows.proofs.Bools.{clash, or_false}
use Rattle.iofd_rows.proofs.Each.{IsIn, in_filter}
use Rattle.iofd_words.specs.Objects.{is_object}
use Rattle.iofd_words.specs.TablePlaces.{is_table_of}
use Rattle.iofd_words.specs.declared.numbers.FileNo.{FileNo}
use Rattle.iofd_words.specs.declared.numbers.FrameNo.{FrameNo}
use Rattle.iofd_words.specs.declared.numbers.ObjId.{ObjId}
use Rattle.iofd_words.specs.declared.rows.Object.{Object}
use Rattle.iofd_words.specs.declared.rows.TableFrame.{TableFrame}
use Rattle.frame_memory.specs.Pool.{FramePool}
use Rattle.page_table_words.specs.Released.{GivesBack, Releases}
use Rattle.page_table_words.specs.Rows.{MappedPage, TableRow}
use Rattle.page_table_words.specs.Taken.{names}
use Rattle.page_table_set.proofs.Counted.{rows_filtered}
use Rattle.page_table_set.proofs.Gone.{fewer_stand, other_table}
use Rattle.page_table_set.proofs.OwnIds.{in_without}
use Rattle.page_table_set.specs.PageTables.{AllStand, Hwpt, hwpt_of, rows_of}
use Rattle.page_table_set.specs.Removed.{CanRemove, id_of, rows_found, rows_of_file, without_file, without_hwpt}
use Rattle.page_table_set.specs.Removed.{without_tables, without_tables_of}

abbrev pub of_file : FileNo → Hwpt → Bool
of_file file h = eqb h.object.file.0 file.0

-- the first of the file is the one of its id
pub record FirstIs (file : FileNo) (id : ObjId) (tables : List Hwpt) : Type 0 where
  pub h : Hwpt
  pub found : hwpt_of tables file id ≡ Some h
  pub own : filter (of_file file) tables ≡ h ∷ filter (of_file file) (without_hwpt file id tables)
  pub others : without_file file tables ≡ without_file file (without_hwpt file id tables)
  pub fewer : suc (length (without_hwpt file id tables)) ≡ length tables

pub first_is : (file : FileNo) (id : ObjId) (tables : List Hwpt) → id_of (find (of_file file) tables) ≡ Some id
    → FirstIs file id tables
first_is file id [] is = cc
first_is file id (t ∷ tables) is = by_test (of_file file t) refl is (first_is file id tables)
  where
    the_id : (a b : ObjId) → ◌≡◌ {A = Option ObjId} (Some a) (Some b) → eqb a.0 b.0 ≡ true
    the_id a b same =
        let is : a.0 ≡ b.0 = (let whole : a ≡ b = cc in ap (λ (i : ObjId). i.0) whole) in grind (arith, nat_tests)

    by_test : (b : Bool) → of_file file t ≡ b → id_of (cond b (Some t) (find (of_file file) tables)) ≡ Some id
        → (id_of (find (of_file file) tables) ≡ Some id → FirstIs file id tables) → FirstIs file id (t ∷ tables)
    by_test true own is later =
        let id_is : eqb t.object.id.0 id.0 ≡ true = the_id t.object.id id is in
        let here : is_object file id t.object ≡ true = rw own id_is in
        record {
          h = t;
          found = rw here refl;
          own = rw own (rw (id_is) refl);
          others = rw own (rw (id_is) refl);
          fewer = rw here refl;
        }
    by_test false other is later =
        let there : is_object file id t.object ≡ false = rw other refl in
        let rest = later is in
        record {
          h = rest.h;
          found = rw there rest.found;
          own = rw other (rw other rest.own);
          others = rw other (rw other (ap (λ (l : List Hwpt). t ∷ l) rest.others));
          fewer = rw there (ap suc rest.fewer);
        }

-- ---- rows

rows_alike : (file : FileNo) (id : ObjId) (frames : List TableFrame) (tables : List Hwpt)
    → ((x : Hwpt) → IsIn tables x → is_object file id x.object ≡ false)
    → flat_map (λ (h : Hwpt). rows_of frames h.object) tables ≡ flat_map
    (λ (h : Hwpt). rows_of (without_tables file id frames) h.object) tables
rows_alike file id frames [] apart = refl
rows_alike file id frames (t ∷ tables) apart =
    let first : rows_of (without_tables file id frames) t.object ≡ rows_of frames t.object =
    rows_filtered (λ x. not (is_table_of file id x)) frames t.object
    (λ x own. other_table file id t.object x (apart t (inl refl)) own) in
    let rest = rows_alike file id frames tables (λ x within. apart x (inr within)) in
    flat_map-cons (λ (h : Hwpt). rows_of frames h.object) t tables
    ∙ ap (λ (l : List TableRow). rows_of frames t.object ++ l) rest
    ∙ ap (λ (l : List TableRow). l ++ flat_map (λ (h : Hwpt). rows_of (without_tables file id frames) h.object) tables)
    (sym first)
    ∙ sym (flat_map-cons (λ (h : Hwpt). rows_of (without_tables file id frames) h.object) t tables)

others_alike : (file : FileNo) (id : ObjId) (frames : List TableFrame)
    → without_tables_of file (without_tables file id frames) ≡ without_tables_of file frames
others_alike file id [] = refl
others_alike file id (t ∷ frames) =
    by_tests (eqb t.file.0 file.0) (eqb t.hwpt.0 id.0) refl (others_alike file id frames)
  where
    by_tests : (b c : Bool) → eqb t.file.0 file.0 ≡ b
        → without_tables_of file (without_tables file id frames) ≡ without_tables_of file frames
        → without_tables_of file (cond (not (b && c)) (t ∷ without_tables file id frames)
        (without_tables file id frames)) ≡ cond (not b) (t
        ∷ without_tables_of file frames) (without_tables_of file frames)
    by_tests true true is rest = rest
    by_tests true false is rest = rw is rest
    by_tests false c is rest = rw is (ap (λ (l : List TableFrame). t ∷ l) rest)

-- ---- what is given back

pub released_then : (gone rows : List TableRow) (old mid new : FramePool) → Releases gone old mid
    → Releases rows mid new → Releases (gone ++ rows) old new
released_then gone rows old mid new first second = record {
  free = λ frame named. by_name frame (names rows frame) refl
      (sym (list_any-append (λ (row : TableRow). eqb row.frame.0 frame) gone rows) ∙ named);
  others = λ frame other.
      let parts = or_false (names gone frame) (names rows frame)
      (sym (list_any-append (λ (row : TableRow). eqb row.frame.0 frame) gone rows) ∙ other) in
      second.others frame parts.1 ∙ first.others frame parts.0;
  bytes = second.bytes ∙ first.bytes;
  count = second.count ∙ first.count;
}
  where
    by_name : (frame : ℕ) (b : Bool) → names rows frame ≡ b → (names gone frame || names rows frame) ≡ true
        → slice_index new.holds frame ≡ 0
    by_name frame true is named = second.free frame is
    by_name frame false is named =
        second.others frame is ∙ first.free frame (only_first (names gone frame) (names rows frame) is named)
      where
        only_first : (p q : Bool) → q ≡ false → (p || q) ≡ true → p ≡ true
        only_first true q none either = refl
        only_first false q none either = absurd (clash q none either)

-- ---- page tables that went, and those that are left

pub record Going (file : FileNo) (old now : FramePool) (tables left : List Hwpt) (out items : List FrameNo)
    (frames : List TableFrame) (leads : Object → ℕ → Option MappedPage) : Type 0 where
  pub rows_left : List TableFrame
  pub stand : AllStand now rows_left leads left
  pub gone : List TableRow
  pub rows : rows_of_file frames file tables ≡ gone ++ rows_of_file rows_left file left
  pub others : without_tables_of file rows_left ≡ without_tables_of file frames
  pub released : Releases gone old now
  pub given : List FrameNo
  pub is : items ≡ out ++ given
  pub permuted : IsPermutation (map (λ (row : TableRow). row.frame) gone) given

pub none_gone : (file : FileNo) (pool : FramePool) (tables : List Hwpt) (out : List FrameNo) (frames : List TableFrame)
    (leads : Object → ℕ → Option MappedPage)
    → AllStand pool frames leads tables → Going file pool pool tables tables out out frames leads
none_gone file pool tables out frames leads stand = record {
  rows_left = frames;
  stand = stand;
  gone = [];
  rows = refl;
  others = refl;
  released = record { free = λ frame named. cc; others = λ frame other. refl; bytes = refl; count = refl };
  given = [];
  is = sym (append-nil out);
  permuted = IsPermutation-refl [];
}

module _ (file : FileNo) (id : ObjId) (old now : FramePool) (tables left : List Hwpt) (out items : List FrameNo)
    (frames : List TableFrame) (leads : Object → ℕ → Option MappedPage)
    (going : Going file old now tables left out items frames leads) (first : FirstIs file id left) where
  its_rows : rows_found going.rows_left (hwpt_of left file id) ≡ rows_of going.rows_left first.h.object
  its_rows = ap (rows_found going.rows_left) first.found

  all_rows : rows_of_file going.rows_left file left
      ≡ rows_of going.rows_left first.h.object ++ rows_of_file (without_tables file id going.rows_left) file
      (without_hwpt file id left)
  all_rows =
      ap (flat_map (λ (h : Hwpt). rows_of going.rows_left h.object)) first.own
      ∙ flat_map-cons (λ (h : Hwpt). rows_of going.rows_left h.object) first.h
      (filter (of_file file) (without_hwpt file id left))
      ∙ ap (λ (l : List TableRow). rows_of going.rows_left first.h.object ++ l)
      (rows_alike file id going.rows_left (filter (of_file file) (without_hwpt file id left))
      (λ x within. (in_without file id left going.stand.own x
      (in_filter (of_file file) (without_hwpt file id left) x within).0).1))

  pub room_for : (room left_room : ℕ) → length (rows_of_file frames file tables) ≤ room
      → left_room + length items ≡ room + length out → CanRemove now left file id left_room
  room_for room left_room enough same =
      let whole = ap length going.rows ∙ length-append going.gone (rows_of_file going.rows_left file left) in
      let parts = ap length all_rows ∙ length-append (rows_of going.rows_left first.h.object)
      (rows_of_file (without_tables file id going.rows_left) file (without_hwpt file id left)) in
      let long = ap length going.is ∙ length-append out going.given in
      let both = ones (map (λ (row : TableRow). row.frame) going.gone) going.given going.permuted in
      let mapped = length-map-frames going.gone in
      let one = ap length its_rows in
      record {
        frames = going.rows_left;
        leads = leads;
        stand = going.stand;
        enough = omega (arith, whole, parts, long, both, mapped, one, enough, same);
      }
    where
      length-ones : (fs : List FrameNo) → sum_by (λ f. 1) fs ≡ length fs
      length-ones [] = refl
      length-ones (f ∷ fs) =
          let one = sum_by-cons (λ (x : FrameNo). 1) f fs in let rest = length-ones fs in omega (arith, one, rest)

      ones : (fs gs : List FrameNo) → IsPermutation fs gs → length fs ≡ length gs
      ones fs gs same =
          sym (length-ones fs) ∙ sym (sum_by-IsPermutation (λ (f : FrameNo). 1) fs gs same) ∙ length-ones gs

      length-map-frames : (rows : List TableRow) → length (map (λ (row : TableRow). row.frame) rows) ≡ length rows
      length-map-frames [] = refl
      length-map-frames (row ∷ rows) = ap suc (length-map-frames rows)

  pub going_more : (new : FramePool) (after : List Hwpt) (more : List FrameNo) → after ≡ without_hwpt file id left
      → AllStand new (without_tables file id going.rows_left) leads after
      → GivesBack (rows_found going.rows_left (hwpt_of left file id)) items more
      → Releases (rows_found going.rows_left (hwpt_of left file id)) now new
      → Going file old new tables after out more frames leads
  going_more new after more is stand gives releases = record {
    rows_left = without_tables file id going.rows_left;
    stand = stand;
    gone = going.gone ++ rows_found going.rows_left (hwpt_of left file id);
    rows = going.rows ∙ ap (λ (l : List TableRow). going.gone ++ l) all_rows
        ∙ sym (append_assoc going.gone (rows_of going.rows_left first.h.object)
        (rows_of_file (without_tables file id going.rows_left) file (without_hwpt file id left)))
        ∙ ap (λ (l : List TableRow). (going.gone ++ l) ++ rows_of_file (without_tables file id going.rows_left) file
        (without_hwpt file id left)) (sym its_rows)
        ∙ ap (λ (l : List Hwpt). (going.gone ++ rows_found going.rows_left (hwpt_of left file id))
        ++ rows_of_file (without_tables file id going.rows_left) file l) (sym is);
    others = others_alike file id going.rows_left ∙ going.others;
    released = released_then going.gone (rows_found going.rows_left (hwpt_of left file id)) old now new
        going.released releases;
    given = going.given ++ gives.given;
    is = gives.is ∙ ap (λ (l : List FrameNo). l ++ gives.given) going.is ∙ append_assoc out going.given gives.given;
    permuted = subst (λ (l : List FrameNo). IsPermutation l (going.given ++ gives.given))
        (sym (map-append (λ (row : TableRow). row.frame) going.gone
        (rows_found going.rows_left (hwpt_of left file id))))
        (IsPermutation-append (map (λ (row : TableRow). row.frame) going.gone) going.given
        (map (λ (row : TableRow). row.frame) (rows_found going.rows_left (hwpt_of left file id))) gives.given
        going.permuted gives.same);
  }

-- ---- none is left

none_of_file : (file : FileNo) (tables : List Hwpt) → id_of (find (of_file file) tables) ≡ None
    → (filter (of_file file) tables ≡ []) × (without_file file tables ≡ tables)
none_of_file file [] none = (refl, refl)
none_of_file file (t ∷ tables) none = by_test (of_file file t) none (none_of_file file tables)
  where
    by_test : (b : Bool) → id_of (cond b (Some t) (find (of_file file) tables)) ≡ None
        → (id_of (find (of_file file) tables) ≡ None → (filter (of_file file) tables ≡ [])
        × (without_file file tables ≡ tables))
        → (cond b (t ∷ filter (of_file file) tables) (filter (of_file file) tables) ≡ [])
        × (cond (not b) (t ∷ without_file file tables) (without_file file tables) ≡ t ∷ tables)
    by_test true none later = cc
    by_test false none later = let rest = later none in (rest.0, ap (λ (l : List Hwpt). t ∷ l) rest.1)

pub none_left : (file : FileNo) (tables : List Hwpt) → id_of (find (of_file file) tables) ≡ None
    → without_file file tables ≡ tables
none_left file tables none = (none_of_file file tables none).1

module _ (file : FileNo) (old now : FramePool) (tables left : List Hwpt) (out items : List FrameNo)
    (frames : List TableFrame) (leads : Object → ℕ → Option MappedPage)
    (going : Going file old now tables left out items frames leads) (none : id_of (find (of_file file) left) ≡ None)
  where
    rows_gone : rows_of_file frames file tables ≡ going.gone
    rows_gone =
        going.rows ∙ ap (λ (l : List Hwpt). going.gone ++ flat_map (λ (h : Hwpt). rows_of going.rows_left h.object) l)
        (none_of_file file left none).0 ∙ append-nil going.gone

    of_others : (h : Hwpt) → IsIn left h → of_file file h ≡ false
    of_others h within = by_test (of_file file h) refl
        (in_filter (λ (x : Hwpt). not (of_file file x)) left h
        (subst (λ (l : List Hwpt). IsIn l h) (sym (none_of_file file left none).1) within)).1
      where
        by_test : (b : Bool) → of_file file h ≡ b → not b ≡ true → b ≡ false
        by_test true is not_it = sym not_it
        by_test false is not_it = refl

    pub file_stands : AllStand now (without_tables_of file frames) leads left
    file_stands =
        subst (λ (l : List TableFrame). AllStand now l leads left) going.others
        (fewer_stand now (λ t. not (eqb t.file.0 file.0)) going.rows_left leads left going.stand
        (λ h within t own. other_file h.object t (of_others h within) own))
      where
        other_file : (object : Object) (t : TableFrame) → eqb object.file.0 file.0 ≡ false
            → is_table_of object.file object.id t ≡ true → not (eqb t.file.0 file.0) ≡ true
        other_file object t apart is = grind (arith, nat_tests)

    pub file_released : Releases (rows_of_file frames file tables) old now
    file_released = subst (λ (rows : List TableRow). Releases rows old now) (sym rows_gone) going.released

    pub file_given : (new : List FrameNo) (start : ℕ) → start ≡ length out → take start new ≡ take start items
        → IsPermutation (drop start items) (drop start new)
        → IsNonDecreasingBy (λ (f : FrameNo). f.0) (drop start new)
        → GivesBack (rows_of_file frames file tables) out new
    file_given new start long front same rising =
        let old_is : take start items ≡ out = ap (take start) going.is ∙ take_at out going.given start (sym long) in
        let given_is : drop start items ≡ going.given =
        ap (drop start) going.is ∙ drop_at out going.given start (sym long) in
        record {
          given = drop start new;
          is = sym (take-append-drop start new) ∙ ap (λ (fs : List FrameNo). fs ++ drop start new) (front ∙ old_is);
          same = subst (λ (rows : List TableRow). IsPermutation (map (λ (row : TableRow). row.frame) rows)
              (drop start new)) (sym rows_gone)
              (IsPermutation-trans (map (λ (row : TableRow). row.frame) going.gone) going.given
              (drop start new) going.permuted
              (subst (λ (fs : List FrameNo). IsPermutation fs (drop start new)) given_is same));
          rising = rising;
        }
