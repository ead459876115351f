-- The frames that a new page table takes hold nothing else: each was free, and is taken once.
use Rattle.std.proofs.Common.{◌≡◌, ℕ, ◌+◌, ◌<◌, ◌≤◌, Bool, true, false, cond, ◌||◌, not, eqb, ltb, Option, Some, None}
use Rattle.std.proofs.Common.{List, [], ◌∷◌, map, refl, sym, ◌∙◌, ap, subst, arith, inl, inr}
use Rattle.std.specs.Prelude.{slice_index}
use Rattle.std.specs.List.{count_by, filter, list_all, list_any}
use Rattle.std.proofs.lemmas.Bool.Decides.{nat_tests}
use Rattle.frame_memory.specs.Pool.{FramePool}
use Rattle.page_table_set.proofs.Staying.{table_held}
use Rattle.page_table_set.specs.PageTables.{AllStand, Hwpt, row_of, rows_of}
use Rattle.iofd_rows.proofs.Bools.{and_true, both_true, clash}
use Rattle.iofd_rows.proofs.Each.{IsIn, in_map, of_any, of_each}
use Rattle.iofd_rows.proofs.Named.{object_of_kind}
use Rattle.iofd_runs.proofs.MissingTables.{is_owned}
use Rattle.iofd_runs.proofs.StillTabled.{in_kept, orphan_is}
use Rattle.iofd_words.specs.Objects.{is_hwpt, kind_of}
use Rattle.iofd_words.specs.TablePlaces.{is_table_of}
use Rattle.iofd_words.specs.Tables.{are_different, is_among}
use Rattle.iofd_words.specs.declared.numbers.FileNo.{FileNo}
use Rattle.iofd_words.specs.declared.numbers.FrameNo.{FrameNo}
use Rattle.iofd_words.specs.declared.numbers.ObjId.{ObjId}
use Rattle.iofd_words.specs.declared.rows.Object.{Object}
use Rattle.iofd_words.specs.declared.rows.ObjectKind.{ObjectKind}
use Rattle.iofd_words.specs.declared.rows.TableFrame.{TableFrame}
use Rattle.user_memory_rows.proofs.CountBy.{any_count, count-cons}
use Rattle.user_memory_rows.specs.Shown.{tables_in}
use Rattle.server_state.proofs.GivenBack.{times_in}
use Rattle.server_state.specs.Tables.{page_tables_among}
use Rattle.page_table_words.specs.Rows.{MappedPage, TableRow}
use Rattle.page_table_words.specs.Taken.{names}

-- ---- a frame in a list

pub record IsThere {X : Type 0} (p : X → Bool) (xs : List X) : Type 0 where
  pub one : X
  pub within : IsIn xs one
  pub passes : p one ≡ true

some_there : {X : Type 0} (p : X → Bool) (xs : List X) → list_any p xs ≡ true → IsThere p xs
some_there p [] some = cc
some_there p (x ∷ xs) some = by_test (p x) refl some (some_there p xs)
  where
    by_test : (b : Bool) → p x ≡ b → (b || list_any p xs) ≡ true → (list_any p xs ≡ true → IsThere p xs)
        → IsThere p (x ∷ xs)
    by_test true is some later = record { one = x; within = inl refl; passes = is }
    by_test false is some later =
        let rest = later some in record { one = rest.one; within = inr rest.within; passes = rest.passes }

-- one that is counted
pub counted_there : {X : Type 0} (p : X → Bool) (xs : List X) → 0 < count_by p xs → IsThere p xs
counted_there p xs more = some_there p xs (any_count p xs
    ∙ (let positive : ltb 0 (count_by p xs) ≡ true = search (more, arith, nat_tests) in positive))

-- frames of which each is another are there once at most
pub each_once : (frames : List FrameNo) (f : ℕ) → are_different frames ≡ true → times_in frames f ≤ 1
each_once [] f different = omega arith
each_once (x ∷ frames) f different =
    let parts = and_true (not (is_among frames x)) (are_different frames) different in
    let rest = each_once frames f parts.1 in
    let all = count-cons (λ (y : FrameNo). eqb y.0 f) x frames in
    by_test (eqb x.0 f) refl parts.0 rest all
  where
    by_test : (b : Bool) → eqb x.0 f ≡ b → not (is_among frames x) ≡ true → times_in frames f ≤ 1
        → times_in (x ∷ frames) f ≡ cond b 1 0 + times_in frames f → times_in (x ∷ frames) f ≤ 1
    by_test false is apart rest all = omega (arith, rest, all)
    by_test true is apart rest all =
        let same : x.0 ≡ f = search (is, arith, nat_tests) in
        let none : ltb 0 (times_in frames x.0) ≡ false =
        sym (any_count (λ (y : FrameNo). eqb y.0 x.0) frames) ∙ not_true_of (is_among frames x) apart in
        let zero_there : times_in frames x.0 ≡ 0 = search (none, arith, nat_tests) in
        let here = ap (times_in frames) same in
        omega (arith, all, zero_there, here)
      where
        not_true_of : (b : Bool) → not b ≡ true → b ≡ false
        not_true_of true is = cc
        not_true_of false is = refl

-- ---- the frame of a table

in_mapped_rows : (frames : List TableFrame) (t : TableFrame) → IsIn frames t → IsIn (map row_of frames) (row_of t)
in_mapped_rows [] t within = absurd within
in_mapped_rows (x ∷ frames) t (inl same) = inl (ap row_of same)
in_mapped_rows (x ∷ frames) t (inr later) = inr (in_mapped_rows frames t later)

module _ (objects : List Object) (tables : List Hwpt)
    (are : map (λ (h : Hwpt). h.object) tables ≡ page_tables_among objects) where
  -- the page table of a row that isn't an orphan's is kept
  pub its_table : (t : TableFrame) → is_owned objects t ≡ true → (h : Hwpt) × IsIn tables h
      × (is_table_of h.object.file h.object.id t ≡ true)
  its_table t owned = by_kind (kind_of objects t.file t.hwpt) refl
    where
      Kept : Type 0
      Kept = (h : Hwpt) × IsIn tables h × (is_table_of h.object.file h.object.id t ≡ true)

      of_kept : (k : ObjectKind) → kind_of objects t.file t.hwpt ≡ Some k → is_hwpt k ≡ true → Kept
      of_kept k is hwpt =
          let (object, found, within, of_file, of_id, of_kind) = object_of_kind objects t.file t.hwpt k is in
          let among : IsIn (page_tables_among objects) object =
          in_kept (λ (o : Object). is_hwpt o.kind) objects object within (ap is_hwpt of_kind ∙ hwpt) in
          let mapped : IsIn (map (λ (h : Hwpt). h.object) tables) object =
          subst (λ (l : List Object). IsIn l object) (sym are) among in
          let (h, there, same) = in_map (λ (h : Hwpt). h.object) tables object mapped in
          let file : t.file ≡ h.object.file = sym (ap (λ (o : Object). o.file) same ∙ of_file) in
          let id : t.hwpt ≡ h.object.id = sym (ap (λ (o : Object). o.id) same ∙ of_id) in
          let one : eqb t.file.0 h.object.file.0 ≡ true =
          ap (λ (x : FileNo). eqb x.0 h.object.file.0) file ∙ itself_is h.object.file.0 in
          let two : eqb t.hwpt.0 h.object.id.0 ≡ true =
          ap (λ (x : ObjId). eqb x.0 h.object.id.0) id ∙ itself_is h.object.id.0 in
          (h, there, both_true _ _ one two)
        where
          itself_is : (n : ℕ) → eqb n n ≡ true
          itself_is n = grind (arith, nat_tests)

      by_kind : (o : Option ObjectKind) → kind_of objects t.file t.hwpt ≡ o → Kept
      by_kind None is = absurd (clash _ (ap not (orphan_is objects t None is)) owned)
      by_kind (Some k) is = of_kept k is (twice (is_hwpt k) (ap not (sym (orphan_is objects t (Some k) is)) ∙ owned))
        where
          twice : (b : Bool) → not (not b) ≡ true → b ≡ true
          twice true is = refl
          twice false is = cc

  -- on the frame of a table there is one hold
  pub held_alone : (pool : FramePool) (frames : List TableFrame) (leads : Object → ℕ → Option MappedPage) (f : ℕ)
      → AllStand pool frames leads tables → list_all (is_owned objects) frames ≡ true → 0 < tables_in frames f
      → slice_index pool.holds f ≡ 1
  held_alone pool frames leads f stand owned some =
      let there = counted_there (λ (table : TableFrame). eqb table.frame.0 f) frames some in
      let t = there.one in
      let (h, kept, its) = its_table t (of_each (is_owned objects) frames t owned there.within) in
      let row : IsIn (rows_of frames h.object) (row_of t) =
      in_mapped_rows (filter (is_table_of h.object.file h.object.id) frames) t
      (in_kept (is_table_of h.object.file h.object.id) frames t there.within its) in
      let named : names (rows_of frames h.object) f ≡ true =
      of_any (λ (r : TableRow). eqb r.frame.0 f) (rows_of frames h.object) (row_of t) row there.passes in
      table_held pool frames (leads h.object) h (stand.each h kept) f named
