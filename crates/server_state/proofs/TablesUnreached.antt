-- The frames of tables: no page and no pin names one. So what page tables that are cleared leave of the frames is
-- shown.
use Rattle.std.proofs.Common.{◌≡◌, ℕ, ◌<◌, Bool, true, false, cond, ◌||◌, not, eqb, ltb, Option, Some, None, List, []}
use Rattle.std.proofs.Common.{◌∷◌, append-nil, length, map, refl, ap, subst, sym, ◌∙◌, inl, inr, arith}
use Rattle.std.specs.List.{filter, list_all, list_any}
use Rattle.std.proofs.lemmas.Bool.Decides.{nat_tests}
use Rattle.frame_memory.specs.Pool.{FramePool}
use Rattle.page_table_set.proofs.Staying.{table_held}
use Rattle.page_table_set.specs.PageTables.{AllStand, Hwpt, KeepsOthers, row_of, rows_of}
use Rattle.iofd_rows.proofs.Bools.{both_true}
use Rattle.iofd_rows.proofs.Each.{IsIn, in_map, of_any, of_each}
use Rattle.iofd_rows.proofs.Named.{object_of_kind}
use Rattle.iofd_words.specs.Frames.{FrameWrite}
use Rattle.iofd_words.specs.Objects.{is_hwpt, kind_of}
use Rattle.iofd_words.specs.TablePlaces.{is_table_of}
use Rattle.iofd_words.specs.Tables.{is_orphan}
use Rattle.iofd_words.specs.World.{World}
use Rattle.iofd_words.specs.declared.rows.Object.{Object}
use Rattle.iofd_words.specs.declared.rows.ObjectKind.{ObjectKind}
use Rattle.iofd_words.specs.declared.rows.TableFrame.{TableFrame}
use Rattle.user_memory_rows.proofs.CountBy.{any_count}
use Rattle.user_memory_rows.specs.Shown.{FramesShown, tables_in}
use Rattle.server_state.proofs.TakenShown.{taken_shown}
use Rattle.server_state.specs.Leads.{leads_of}
use Rattle.server_state.specs.Shows.{Shows}
use Rattle.server_state.specs.Tables.{page_tables_among}
use Rattle.server_state.specs.declared.state.State.{State}
use Rattle.page_table_words.specs.Rows.{MappedPage, TableRow}
use Rattle.page_table_words.specs.Taken.{names}
use Rattle.user_memory.specs.Memory.{Memory, reached}

-- ---- lists

in_passes : {X : Type 0} (p : X → Bool) (xs : List X) (x : X) → IsIn xs x → p x ≡ true → IsIn (filter p xs) x
in_passes p [] x within passes = absurd within
in_passes p (y ∷ xs) x (inl same) passes = let here : p y ≡ true = ap p same ∙ passes in rw here (inl same)
in_passes p (y ∷ xs) x (inr later) passes = by_test (p y) (in_passes p xs x later passes)
  where
    by_test : (b : Bool) → IsIn (filter p xs) x → IsIn (cond b (y ∷ filter p xs) (filter p xs)) x
    by_test true rest = inr rest
    by_test false rest = rest

pub in_list : {X Y : Type 0} (h : X → Y) (xs : List X) (x : X) → IsIn xs x → IsIn (map h xs) (h x)
in_list h [] x within = absurd within
in_list h (y ∷ xs) x (inl same) = inl (ap h same)
in_list h (y ∷ xs) x (inr later) = inr (in_list h xs x later)

-- some element passes a test that some pass
pub some_one : {X : Type 0} (p : X → Bool) (xs : List X) → list_any p xs ≡ true → (x : X) × IsIn xs x × (p x ≡ true)
some_one p [] some = cc
some_one p (y ∷ xs) some = by_test (p y) refl some (λ later. some_one p xs later)
  where
    by_test : (b : Bool) → p y ≡ b → (b || list_any p xs) ≡ true
        → (list_any p xs ≡ true → (x : _) × IsIn xs x × (p x ≡ true)) → (x : _) × IsIn (y ∷ xs) x × (p x ≡ true)
    by_test true is any later = (y, inl refl, is)
    by_test false is any later = let rest = later any in (rest.0, inr rest.1, rest.2)

-- ---- tables

-- a row that isn't left over is of a page table that is kept
module _ (objects : List Object) (tables : List Hwpt)
    (are : map (λ (h : Hwpt). h.object) tables ≡ page_tables_among objects) (t : TableFrame) where
  pub its_table : not (is_orphan objects t) ≡ true → (h : Hwpt) × IsIn tables h
      × (is_table_of h.object.file h.object.id t ≡ true)
  its_table owned = by_kind (kind_of objects t.file t.hwpt) refl owned
    where
      twice : (b : Bool) → not (not b) ≡ true → b ≡ true
      twice true is = refl
      twice false is = cc

      own : (n : ℕ) → eqb n n ≡ true
      own n = grind (arith, nat_tests)

      by_kind : (o : Option ObjectKind) → kind_of objects t.file t.hwpt ≡ o
          → not (elim o [ Some kind ↦ not (is_hwpt kind) | None ↦ true ]) ≡ true → (h : Hwpt) × IsIn tables h
          × (is_table_of h.object.file h.object.id t ≡ true)
      by_kind None is owned = cc
      by_kind (Some k) is owned =
          let (object, found, within, of_file, of_id, of_kind) = object_of_kind objects t.file t.hwpt k is in
          let hwpt : is_hwpt object.kind ≡ true = ap is_hwpt of_kind ∙ twice (is_hwpt k) owned in
          let among : IsIn (map (λ (h : Hwpt). h.object) tables) object =
          subst (λ (os : List Object). IsIn os object) (sym are)
          (in_passes (λ (o : Object). is_hwpt o.kind) objects object within hwpt) in
          let (h, there, same) = in_map (λ (h : Hwpt). h.object) tables object among in
          let of_this : is_table_of object.file object.id t ≡ true =
          rw (of_file, of_id) (both_true _ _ (own t.file.0) (own t.hwpt.0)) in
          (h, there, ap (λ (o : Object). is_table_of o.file o.id t) same ∙ of_this)

-- no page and no pin names the frame of a table
pub none_reach : (pool : ℕ) (writes : List FrameWrite) (objects : List Object) (frames : List TableFrame)
    (leads : Object → ℕ → Option MappedPage) (tables : List Hwpt) (memory : Memory) (before : FramePool)
    → map (λ (h : Hwpt). h.object) tables ≡ page_tables_among objects
    → list_all (λ table. not (is_orphan objects table)) frames ≡ true
    → FramesShown pool writes frames memory before → AllStand before frames leads tables
    → (f : ℕ) → 0 < tables_in frames f → reached memory f ≡ 0
none_reach pool writes objects frames leads tables memory before are owned shown stand f some =
    let counted : ltb 0 (tables_in frames f) ≡ true = search (some, arith, nat_tests) in
    let any : list_any (λ (t : TableFrame). eqb t.frame.0 f) frames ≡ true =
    any_count (λ (t : TableFrame). eqb t.frame.0 f) frames ∙ counted in
    let (t, within, here) = some_one (λ (t : TableFrame). eqb t.frame.0 f) frames any in
    let (h, there, of) =
    its_table objects tables are t (of_each (λ table. not (is_orphan objects table)) frames t owned within) in
    let row = in_list row_of (filter (is_table_of h.object.file h.object.id) frames) t
    (in_passes (is_table_of h.object.file h.object.id) frames t within of) in
    let named : names (rows_of frames h.object) f ≡ true =
    of_any (λ (r : TableRow). eqb r.frame.0 f) (rows_of frames h.object) (row_of t) row here in
    let one = table_held before frames (leads h.object) h (stand.each h there) f named in
    let holds = shown.holds f in
    omega (arith, one, holds, some)

module _ {A : Type 0} (w : World) (s : State A) (shows : Shows w s)
    (owned : list_all (λ table. not (is_orphan w.objects table)) w.table_frames ≡ true) where
  pub unreached : (f : ℕ) → 0 < tables_in w.table_frames f → reached s.memory f ≡ 0
  unreached = none_reach w.settings.pool w.writes w.objects w.table_frames (leads_of w) s.page_tables.tables s.memory
      s.pool shows.tables.tables owned shows.frames shows.tables.stand

  -- what is left of the frames once pages are cleared
  pub frames_cleared : (after : FramePool) → after.holds ≡ s.pool.holds → length after.bytes ≡ length after.holds
      → KeepsOthers w.table_frames s.pool after
      → FramesShown w.settings.pool w.writes w.table_frames s.memory after
  frames_cleared after holds bytes others =
      subst (λ (rows : List TableFrame). FramesShown w.settings.pool w.writes rows s.memory after)
      (append-nil w.table_frames)
      (taken_shown w.settings.pool w.writes w.table_frames [] s.memory s.pool after [] shows.frames unreached
      (λ f some. absurd (let no : 0 < 0 = some in omega (arith, no)))
      (λ f. omega arith) (λ f. refl) holds bytes
      (subst (λ (rows : List TableFrame). KeepsOthers rows s.pool after) (sym (append-nil w.table_frames)) others))
