-- Tables that no area needs once some have gone give their frames back.
use Rattle.std.proofs.Common.{◌≡◌, inl, inr, ℕ, ◌<◌, ◌≤◌, Bool, true, false, cond, not, ◌&&◌, ◌||◌, eqb, ltb}
use Rattle.std.proofs.Common.{Option, Some, None, List, [], ◌∷◌, ◌++◌, append-nil, get_or, length, map, refl, ap}
use Rattle.std.proofs.Common.{subst, sym, ◌∙◌, arith}
use Rattle.std.proofs.Common.{⊎_elim}
use Rattle.std.specs.List.{count_by, filter, list_all, list_any}
use Rattle.std.specs.List.Sorted.{IsNonDecreasingBy}
use Rattle.std.proofs.lemmas.Bool.{cases_lt}
use Rattle.std.proofs.lemmas.Bool.Decides.{nat_tests}
use Rattle.std.proofs.lemmas.List.Sums.{sum_by-cons}
use Rattle.frame_memory.specs.Pool.{FramePool}
use Rattle.iofd_rows.proofs.Bools.{and_true, both_true, clash, or_false}
use Rattle.iofd_rows.proofs.Each.{IsIn, in_filter, in_kept, in_map, of_all, of_any, of_each}
use Rattle.iofd_rows.proofs.ListTests.{alike, any-filter, any_weaker, or_right}
use Rattle.iofd_rows.proofs.Named.{file_is, id_is, kind_only, object_of_kind}
use Rattle.iofd_rows.proofs.Widths.{same_width}
use Rattle.iofd_rows.specs.Ids.{have_own_ids}
use Rattle.iofd_runs.proofs.MissingTables.{all_needed, has_needed, needed_places, none_missing}
use Rattle.iofd_runs.specs.Fits.{begins_at_page}
use Rattle.iofd_words.specs.Areas.{areas_meet, areas_of}
use Rattle.iofd_words.specs.Frames.{FrameWrite}
use Rattle.iofd_words.specs.Levels.{levels_of}
use Rattle.iofd_words.specs.Objects.{is_hwpt, is_hwpt_over, kind_of}
use Rattle.iofd_words.specs.TablePlaces.{TablePlace, has_table, is_place, is_table_of, place_of}
use Rattle.iofd_words.specs.Tables.{MissingTable, MovesTables, in_frames, is_among, is_below_root, is_idle, is_orphan}
use Rattle.iofd_words.specs.Tables.{kept_tables}
use Rattle.iofd_words.specs.Tables.{may_go, missing_tables, span_of_table, with_tables}
use Rattle.iofd_words.specs.World.{World}
use Rattle.iofd_words.specs.declared.event.Event.TheVariants as event
use Rattle.iofd_words.specs.declared.event.UnmapRequest.{UnmapRequest}
use Rattle.iofd_words.specs.declared.numbers.FileNo.{FileNo}
use Rattle.iofd_words.specs.declared.numbers.FrameNo.{FrameNo}
use Rattle.iofd_words.specs.declared.numbers.ObjId.{ObjId}
use Rattle.iofd_words.specs.declared.reply.Reply.TheVariants as reply
use Rattle.iofd_words.specs.declared.rows.Area.{Area}
use Rattle.iofd_words.specs.declared.rows.Object.{Object}
use Rattle.iofd_words.specs.declared.rows.ObjectKind.{ObjectKind}
use Rattle.iofd_words.specs.declared.rows.ObjectKind.TheVariants as kind
use Rattle.iofd_words.specs.declared.rows.TableFrame.{TableFrame}
use Rattle.iofd_words.specs.declared.width.Width.{Width}
use Rattle.page_table_set.specs.Idle.{GivesUp, is_idle_in, is_idle_of}
use Rattle.page_table_set.specs.OverSpans.{is_over}
use Rattle.page_table_set.specs.PageTables.{Hwpt}
use Rattle.server_state.proofs.GivenBack.{among_is, given_once, kept_are, rising, some_time}
use Rattle.server_state.proofs.TablesUnreached.{in_list}
use Rattle.server_state.proofs.UsedTables.{used_table}
use Rattle.server_state.specs.Choice.{AreFramesChosen}
use Rattle.server_state.specs.Tables.{has_own_width, is_hwpt_of, page_tables_among}
use Rattle.user_memory.specs.Memory.{Memory, reached}
use Rattle.user_memory_rows.proofs.CountBy.{any_count}
use Rattle.user_memory_rows.specs.Shown.{FramesShown, tables_in}

pub any_in : {X : Type 0} (p : X → Bool) (xs : List X) → list_any p xs ≡ true → (x : X) × IsIn xs x × (p x ≡ true)
any_in p [] any = absurd (clash _ refl any)
any_in {X = X} p (x ∷ xs) any = by_test (p x) refl any (any_in p xs)
  where
    by_test : (b : Bool) → p x ≡ b → (b || list_any p xs) ≡ true
        → (list_any p xs ≡ true → (y : X) × IsIn xs y × (p y ≡ true)) → (y : X) × IsIn (x ∷ xs) y × (p y ≡ true)
    by_test true is here rest = (x, inl refl, is)
    by_test false is here rest = let found = rest here in (found.0, inr found.1, found.2)

pub none_counted : {X : Type 0} (p : X → Bool) (xs : List X) → list_any p xs ≡ false → 0 ≡ count_by p xs
none_counted p [] none = refl
none_counted p (x ∷ xs) none =
    let parts = or_false (p x) (list_any p xs) none in
    let all = sum_by-cons (λ y. cond {A = ℕ} (p y) 1 0) x xs in
    let here : ◌≡◌ {A = ℕ} (cond (p x) 1 0) 0 = rw parts.0 refl in
    let rest = none_counted p xs parts.1 in
    omega (arith, all, here, rest)

-- ---- a table is idle, by page tables and by the definitions

module _ (objects : List Object) (tables : List Hwpt) (own : have_own_ids objects ≡ true)
    (are : map (λ (h : Hwpt). h.object) tables ≡ page_tables_among objects)
    (widths : list_all has_own_width tables ≡ true) where
  pub object_there : (h : Hwpt) → IsIn tables h → IsIn objects h.object
  object_there h there =
      (in_filter (λ (o : Object). is_hwpt o.kind) objects h.object
      (subst (λ (os : List Object). IsIn os h.object) are (in_list (λ (x : Hwpt). x.object) tables h there))).0

  pub idle_told : (areas : List Area) (file : FileNo) (ioas : ObjId) (t : TableFrame)
      → is_idle_in file ioas (areas_of areas file ioas) tables t ≡ is_idle objects areas file ioas t
  idle_told areas file ioas t =
      alike (is_idle_in file ioas (areas_of areas file ioas) tables t) (is_idle objects areas file ioas t) to from
    where
      to : is_idle_in file ioas (areas_of areas file ioas) tables t ≡ true → is_idle objects areas file ioas t ≡ true
      to any =
          let (h, there, passes) = any_in (λ (x : Hwpt). is_over file ioas x.object
          && is_idle_of x (areas_of areas file ioas) t) tables any in
          let parts = and_true (is_over file ioas h.object) (is_idle_of h (areas_of areas file ioas) t) passes in
          let over = and_true (eqb h.object.file.0 file.0) (is_hwpt_over ioas h.object.kind) parts.0 in
          let its = and_true (is_table_of h.object.file h.object.id t) _ parts.1 in
          let names = and_true (eqb t.file.0 h.object.file.0) (eqb t.hwpt.0 h.object.id.0) its.0 in
          let idle = and_true (not (eqb t.level (levels_of h.table.width)))
          (not (areas_meet (span_of_table t) (areas_of areas file ioas))) its.1 in
          let found : kind_of objects t.file t.hwpt ≡ Some h.object.kind =
          ap (λ (f : FileNo). kind_of objects f t.hwpt) (file_is t.file h.object.file names.0)
          ∙ ap (kind_of objects h.object.file) (id_is t.hwpt h.object.id names.1)
          ∙ kind_only objects h.object own (object_there h there) in
          let of_file : eqb t.file.0 file.0 ≡ true =
          (let one = names.0 in let other = over.0 in grind (arith, nat_tests)) in
          both_true _ _ (both_true _ _ of_file
          (ap (λ (o : Option ObjectKind). elim o [ Some k ↦ is_below_root ioas t k | None ↦ false ]) found
          ∙ by_kind h.object.kind h.table.width over.1 (of_each has_own_width tables h widths there) idle.0)) idle.1
        where
          by_kind : (k : ObjectKind) (width : Width) → is_hwpt_over ioas k ≡ true → is_hwpt_of width k ≡ true
              → not (eqb t.level (levels_of width)) ≡ true → is_below_root ioas t k ≡ true
          by_kind kind.Ioas width over of low = absurd (clash _ refl over)
          by_kind (kind.Hwpt space its automatic) width over of low =
              let same = same_width its width of in
              both_true _ _ over (ap (λ (x : Width). not (eqb t.level (levels_of x))) same ∙ low)
          by_kind (kind.Device device) width over of low = absurd (clash _ refl over)
          by_kind (kind.Access attached) width over of low = absurd (clash _ refl over)

      from : is_idle objects areas file ioas t ≡ true → is_idle_in file ioas (areas_of areas file ioas) tables t ≡ true
      from idle =
          let parts = and_true (eqb t.file.0 file.0
          && elim (kind_of objects t.file t.hwpt) [ Some k ↦ is_below_root ioas t k | None ↦ false ])
          (not (areas_meet (span_of_table t) (areas_of areas file ioas))) idle in
          let more = and_true (eqb t.file.0 file.0)
          (elim (kind_of objects t.file t.hwpt) [ Some k ↦ is_below_root ioas t k | None ↦ false ]) parts.0 in
          by_found (kind_of objects t.file t.hwpt) refl more.0 more.1 parts.1
        where
          over_is : (k : ObjectKind) (width : Width) → is_below_root ioas t k ≡ true → is_hwpt_of width k ≡ true
              → (is_hwpt_over ioas k ≡ true) × (not (eqb t.level (levels_of width)) ≡ true)
          over_is kind.Ioas width below of = absurd (clash _ refl below)
          over_is (kind.Hwpt space its automatic) width below of =
              let same = same_width its width of in
              let parts = and_true (eqb space.0 ioas.0) (not (eqb t.level (levels_of its))) below in
              (parts.0, ap (λ (x : Width). not (eqb t.level (levels_of x))) (sym same) ∙ parts.1)
          over_is (kind.Device device) width below of = absurd (clash _ refl below)
          over_is (kind.Access attached) width below of = absurd (clash _ refl below)

          hwpt_is : (k : ObjectKind) → is_below_root ioas t k ≡ true → is_hwpt k ≡ true
          hwpt_is kind.Ioas below = absurd (clash _ refl below)
          hwpt_is (kind.Hwpt space its automatic) below = refl
          hwpt_is (kind.Device device) below = absurd (clash _ refl below)
          hwpt_is (kind.Access attached) below = absurd (clash _ refl below)

          by_found : (o : Option ObjectKind) → kind_of objects t.file t.hwpt ≡ o → eqb t.file.0 file.0 ≡ true
              → elim o [ Some k ↦ is_below_root ioas t k | None ↦ false ] ≡ true
              → not (areas_meet (span_of_table t) (areas_of areas file ioas)) ≡ true
              → is_idle_in file ioas (areas_of areas file ioas) tables t ≡ true
          by_found None is of_file below unmet = absurd (clash _ refl below)
          by_found (Some k) is of_file below unmet =
              let first = object_of_kind objects t.file t.hwpt k is in
              let o = first.0 in
              let among : IsIn (page_tables_among objects) o =
              in_kept (λ (x : Object). is_hwpt x.kind) objects o first.2 (ap is_hwpt first.5 ∙ hwpt_is k below) in
              let listed = in_map (λ (h : Hwpt). h.object) tables o (subst (λ os. IsIn os o) (sym are) among) in
              let h = listed.0 in
              let kind_is : h.object.kind ≡ k = ap (λ (x : Object). x.kind) listed.2 ∙ first.5 in
              let told = over_is h.object.kind h.table.width (ap (is_below_root ioas t) kind_is ∙ below)
              (of_each has_own_width tables h widths listed.1) in
              let file_of : h.object.file.0 ≡ t.file.0 = ap (λ (x : Object). x.file.0) listed.2
              ∙ ap (λ (f : FileNo). f.0) first.3 in
              let id_of : h.object.id.0 ≡ t.hwpt.0 = ap (λ (x : Object). x.id.0) listed.2
              ∙ ap (λ (i : ObjId). i.0) first.4 in
              let over_file : eqb h.object.file.0 file.0 ≡ true = grind (arith, nat_tests) in
              let table_file : eqb t.file.0 h.object.file.0 ≡ true = grind (arith, nat_tests) in
              let table_id : eqb t.hwpt.0 h.object.id.0 ≡ true = grind (arith, nat_tests) in
              of_any (λ x. is_over file ioas x.object && is_idle_of x (areas_of areas file ioas) t) tables h listed.1
              (both_true _ _ (both_true _ _ over_file told.0)
              (both_true _ _ (both_true _ _ table_file table_id) (both_true _ _ told.1 unmet)))

-- ---- what a record gives back

no_frames : (missing : List MissingTable) → in_frames missing [] ≡ []
no_frames [] = refl
no_frames (m ∷ missing) = refl

module _ (w left : World) (file : FileNo) (request : UnmapRequest) (count : ℕ) (given : List FrameNo)
    (own : have_own_ids left.objects ≡ true) (begins : list_all begins_at_page left.areas ≡ true)
    (stay : left.table_frames ≡ w.table_frames)
    (needed : missing_tables left.objects left.areas w.table_frames ≡ [])
    (owned : list_all (λ t. not (is_orphan left.objects t)) w.table_frames ≡ true)
    (once : (f : ℕ) → tables_in w.table_frames f ≤ 1)
    (same : (f : ℕ) → count_by (λ (x : FrameNo). eqb x.0 f) given
    ≡ tables_in (filter (is_idle left.objects left.areas file request.ioas) w.table_frames) f)
    (sorted : IsNonDecreasingBy (λ (f : FrameNo). f.0) given) where
  abbrev goes : TableFrame → Bool
  goes = is_idle left.objects left.areas file request.ioas

  still_needed : missing_tables left.objects left.areas (kept_tables given w.table_frames) ≡ []
  still_needed =
      none_missing left.objects left.areas (kept_tables given w.table_frames)
      (of_all (has_needed left.areas (kept_tables given w.table_frames)) left.objects (λ o there.
      of_all (has_table (kept_tables given w.table_frames) o.file o.id) (needed_places left.areas o.file o.kind)
      (λ p place. has_kept o there p place
      (of_each (has_table w.table_frames o.file o.id) (needed_places left.areas o.file o.kind) p
      (of_each (has_needed left.areas w.table_frames) left.objects o
      (all_needed left.objects left.areas w.table_frames needed) there) place))))
    where
      has_kept : (o : Object) → IsIn left.objects o → (p : TablePlace) → IsIn (needed_places left.areas o.file o.kind) p
          → has_table w.table_frames o.file o.id p ≡ true
          → has_table (kept_tables given w.table_frames) o.file o.id p ≡ true
      has_kept o there p place has =
          let (t, within, passes) = any_in (λ (x : TableFrame). is_table_of o.file o.id x && is_place (place_of x) p)
          w.table_frames has in
          let parts = and_true (is_table_of o.file o.id t) (is_place (place_of t) p) passes in
          let names = and_true (eqb t.file.0 o.file.0) (eqb t.hwpt.0 o.id.0) parts.0 in
          let at = and_true (eqb t.level p.level) (eqb t.first.0 p.first) parts.1 in
          let level : t.level ≡ p.level = (let is = at.0 in search (is, arith, nat_tests)) in
          let first : t.first.0 ≡ p.first = (let is = at.1 in search (is, arith, nat_tests)) in
          let used = used_table left.objects left.areas o p t own begins there place
          (file_is t.file o.file names.0) (id_is t.hwpt o.id names.1) level first file request.ioas in
          let stays : not (is_among given t.frame) ≡ true =
          ap not (among_is goes w.table_frames given once same t within ∙ used) in
          of_any (λ (x : TableFrame). is_table_of o.file o.id x && is_place (place_of x) p)
          (kept_tables given w.table_frames) t
          (in_kept (λ (x : TableFrame). not (is_among given x.frame)) w.table_frames t within stays) passes

  due : (E : Type 0) (frame : FrameNo) → IsIn given frame
      → list_any (λ (t : TableFrame). eqb t.frame.0 frame.0 && (is_orphan left.objects t
      || may_go {A = E} left (event.Unmap file request) (reply.Bytes count) t)) w.table_frames ≡ true
  due E frame within =
      let some : 0 < tables_in (filter goes w.table_frames) frame.0 =
      let is = same frame.0 in let more = some_time given frame within in omega (arith, is, more) in
      let counted : ltb 0 (tables_in (filter goes w.table_frames) frame.0) ≡ true = search (some, arith, nat_tests) in
      any_weaker (λ (t : TableFrame). goes t && eqb t.frame.0 frame.0) _ w.table_frames
      (λ t both. let here = and_true (goes t) (eqb t.frame.0 frame.0) both in
      both_true _ _ here.1 (or_right (is_orphan left.objects t) _ here.0))
      (sym (any-filter (λ (t : TableFrame). eqb t.frame.0 frame.0) goes w.table_frames)
      ∙ any_count (λ (t : TableFrame). eqb t.frame.0 frame.0) (filter goes w.table_frames) ∙ counted)

  pub gives_idle : {E : Type 0} → MovesTables {A = E} w left (event.Unmap file request) (reply.Bytes count) [] given
      × AreFramesChosen {A = E} w left (event.Unmap file request) (reply.Bytes count) [] given
  gives_idle {E = E} = (
    record {
      enough = sym (ap (λ (l : List MissingTable). length l)
          (ap (λ (ts : List TableFrame). missing_tables left.objects left.areas (kept_tables given ts)) stay
          ∙ still_needed));
      free = refl;
      different = refl;
      gone = of_all (λ (t : TableFrame). not (is_orphan left.objects t) || is_among given t.frame) w.table_frames
          (λ t within. first (not (is_orphan left.objects t)) (is_among given t.frame)
          (of_each (λ (x : TableFrame). not (is_orphan left.objects x)) w.table_frames t owned within));
      may = of_all _ given (due E);
      rising = rising given sorted (given_once goes w.table_frames given once same);
    },
    record {
      taken = refl;
      given = of_all (λ (t : TableFrame). not (may_go {A = E} left (event.Unmap file request) (reply.Bytes count) t)
          || is_among given t.frame) w.table_frames
          (λ t within. ap (λ (b : Bool). not (goes t) || b) (among_is goes w.table_frames given once same t within)
          ∙ either (goes t));
    },
  )
    where
      first : (a b : Bool) → a ≡ true → (a || b) ≡ true
      first true b is = refl
      first false b is = absurd (clash _ refl is)

      either : (b : Bool) → (not b || b) ≡ true
      either true = refl
      either false = refl

  pub world_left : with_tables [] given left
      ≡ record left { table_frames = filter (λ t. not (goes t)) w.table_frames }
  unfolding with_tables
  world_left = ap (λ (tables : List TableFrame). record left { table_frames = tables })
      (ap (λ (l : List TableFrame). kept_tables given left.table_frames ++ l)
      (no_frames (missing_tables left.objects left.areas (kept_tables given left.table_frames)))
      ∙ append-nil (kept_tables given left.table_frames)
      ∙ ap (kept_tables given) stay
      ∙ kept_are goes w.table_frames given once same)

-- ---- the frames

pub frames_after : (pool : ℕ) (writes : List FrameWrite) (frames left : List TableFrame) (given : List FrameNo)
    (memory : Memory) (before after : FramePool) → FramesShown pool writes frames memory before
    → ((f : ℕ) → 0 < tables_in frames f → reached memory f ≡ 0) → GivesUp before after frames left given
    → length after.bytes ≡ length after.holds → FramesShown pool writes left memory after
frames_after pool writes frames left given memory before after shown unreached gives bytes = record {
  size = gives.count ∙ shown.size;
  count = bytes ∙ gives.count ∙ shown.size;
  full = λ f within some. ap (λ (b : List ℕ). length b) (gives.others f (none f some)) ∙ shown.full f within some;
  holds = λ f. let held = shown.holds f in let less = gives.holds f in let went = gives.went f in
      omega (arith, held, less, went);
  once = λ f. let few = shown.once f in let went = gives.went f in omega (arith, few, went);
  written = λ f offset within below some. ap (λ (b : List ℕ). get_or b offset 0) (gives.others f (none f some))
      ∙ shown.written f offset within below some;
}
  where
    none : (f : ℕ) → 0 < reached memory f → tables_in frames f ≡ 0
    none f some =
        ⊎_elim (λ (there : 0 < tables_in frames f). let no = unreached f there in absurd (omega (arith, no, some)))
        (λ (no : tables_in frames f ≤ 0). omega (arith, no)) (cases_lt 0 (tables_in frames f))
