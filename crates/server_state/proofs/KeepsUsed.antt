-- After each event no table is idle, where it was so before and each idle table goes where an UNMAP answers bytes.
use Rattle.std.proofs.Common.{◌≡◌, ◌⊎◌, inl, inr, ℕ, Bool, true, false, ◌&&◌, ◌||◌, cond, eqb, is_some, not, Option, Some, None}
use Rattle.std.proofs.Common.{List, [], ◌∷◌, map, refl, ap, subst, sym, ◌∙◌, arith, ⊎_elim}
use Rattle.std.specs.List.{filter, list_all, list_any}
use Rattle.std.proofs.lemmas.Bool.Decides.{nat_tests}
use Rattle.std.proofs.lemmas.List.Folds.{list_any-append}
use Rattle.iofd_rows.proofs.Bools.{and_true, both_false, both_true, clash, or_false}
use Rattle.iofd_rows.proofs.Each.{IsIn, in_filter, in_map, in_with_object, of_any, of_each}
use Rattle.iofd_rows.proofs.ListTests.{any-filter, false_else, or_right}
use Rattle.iofd_rows.proofs.Named.{file_is, id_is, kind_only, object_of_kind}
use Rattle.iofd_rows.proofs.PageLists.{any-with_area}
use Rattle.iofd_rows.specs.Ids.{have_own_ids}
use Rattle.iofd_runs.proofs.MissingTables.{missing_at, missing_is, needed_places}
use Rattle.iofd_runs.proofs.Moves.{AreasMove, FewerAreas, OneArea, OtherPhases, SameAreas, changed_moves, takes_area}
use Rattle.iofd_runs.proofs.Moves.{Fewer, More, ObjectsMove, Reattached, Same}
use Rattle.iofd_runs.proofs.StillTabled.{hwpts_reattached}
use Rattle.iofd_runs.proofs.NotRefused.{destroy_passed}
use Rattle.iofd_runs.specs.Fits.{begins_at_page}
use Rattle.iofd_runs.specs.Tabled.{AreTabled}
use Rattle.iofd_steps.specs.After.{changed, mapped_area, settle, without_areas}
use Rattle.iofd_runs.proofs.OwnIds.{keeps_own_ids}
use Rattle.iofd_runs.proofs.SameTables.{same_tables}
use Rattle.iofd_words.specs.Areas.{areas_meet, areas_of, is_of, with_phase}
use Rattle.iofd_words.specs.Bounds.{Bounds}
use Rattle.iofd_steps.specs.Answers.{Answers}
use Rattle.iofd_refusals.specs.Checks.{is_used, refusal}
use Rattle.iofd_words.specs.Levels.{levels_of}
use Rattle.iofd_words.specs.Objects.{has_hwpt, has_ioas, is_hwpt, is_hwpt_over, is_ioas, kind_of}
use Rattle.iofd_words.specs.View.{view}
use Rattle.iofd_words.specs.Span.{meets}
use Rattle.iofd_words.specs.TablePlaces.{TablePlace, has_table, is_place, lacking}
use Rattle.iofd_words.specs.declared.rows.ObjectKind.{ObjectKind}
use Rattle.iofd_words.specs.declared.rows.ObjectKind.TheVariants as kind
use Rattle.iofd_words.specs.Tables.{MissingTable, in_frames, is_among, is_below_root, is_idle, is_orphan, kept_tables}
use Rattle.iofd_words.specs.Tables.{missing_of, missing_tables, span_of_table, with_tables}
use Rattle.iofd_words.specs.World.{World}
use Rattle.iofd_words.specs.declared.event.Event.{Event}
use Rattle.iofd_words.specs.declared.event.Event.TheVariants as event
use Rattle.iofd_words.specs.declared.numbers.FileNo.{FileNo}
use Rattle.iofd_words.specs.declared.numbers.FrameNo.{FrameNo}
use Rattle.iofd_words.specs.declared.numbers.ObjId.{ObjId}
use Rattle.iofd_words.specs.declared.reply.Reply.{Reply}
use Rattle.iofd_words.specs.declared.reply.Reply.TheVariants as reply
use Rattle.iofd_words.specs.declared.rows.Area.{Area}
use Rattle.iofd_words.specs.declared.rows.Object.{Object}
use Rattle.iofd_words.specs.declared.rows.TableFrame.{TableFrame}
use Rattle.server_state.specs.Choice.{AreFramesChosen, NoneIdle}
use Rattle.server_state.proofs.UsedTables.{in_append, used_table}

-- ---- tables that come

-- a row in a frame is that of a missing table
row_in_frames : (missing : List MissingTable) (frames : List FrameNo) (t : TableFrame) → IsIn (in_frames missing frames) t
    → (m : MissingTable) × IsIn missing m × (t.file ≡ m.file) × (t.hwpt ≡ m.hwpt) × (t.level ≡ m.place.level)
    × (t.first.0 ≡ m.place.first)
row_in_frames [] frames t within = absurd within
row_in_frames (m ∷ missing) [] t within = absurd within
row_in_frames (m ∷ missing) (f ∷ frames) t (inl same) = (
  m,
  inl refl,
  ap (λ (x : TableFrame). x.file) (sym same),
  ap (λ (x : TableFrame). x.hwpt) (sym same),
  ap (λ (x : TableFrame). x.level) (sym same),
  ap (λ (x : TableFrame). x.first.0) (sym same),
)
row_in_frames (m ∷ missing) (f ∷ frames) t (inr later) =
    let rest = row_in_frames missing frames t later in (rest.0, inr rest.1, rest.2, rest.3, rest.4, rest.5)

in_missing : (objects : List Object) (areas : List Area) (tables : List TableFrame) (m : MissingTable)
    → IsIn (missing_tables objects areas tables) m → (o : Object) × IsIn objects o × IsIn (missing_of areas tables o) m
in_missing [] areas tables m within = absurd within
in_missing (o ∷ objects) areas tables m within =
    ⊎_elim (λ (here : IsIn (missing_of areas tables o) m). (o, inl refl, here))
    (λ (later : IsIn (missing_tables objects areas tables) m).
    let rest = in_missing objects areas tables m later in (rest.0, inr rest.1, rest.2))
    (in_append (missing_of areas tables o) (missing_tables objects areas tables) m within)

in_lacked : (has : TablePlace → Bool) (places : List TablePlace) (p : TablePlace) → IsIn (lacking has places) p
    → IsIn places p
in_lacked has [] p within = absurd within
in_lacked has (q ∷ places) p within =
    by_test (has q) within (in_lacked has places p) (in_lacked (λ other. has other || is_place q other) places p)
  where
    by_test : (b : Bool)
        → IsIn (cond b (lacking has places) (q ∷ lacking (λ other. has other || is_place q other) places)) p
        → (IsIn (lacking has places) p → IsIn places p)
        → (IsIn (lacking (λ other. has other || is_place q other) places) p → IsIn places p) → (q ≡ p) ⊎ IsIn places p
    by_test true here one other = inr (one here)
    by_test false (inl same) one other = inl same
    by_test false (inr later) one other = inr (other later)

pub new_used : (objects : List Object) (areas : List Area) (tables : List TableFrame) (taken : List FrameNo)
    → have_own_ids objects ≡ true → list_all begins_at_page areas ≡ true → (t : TableFrame)
    → IsIn (in_frames (missing_tables objects areas tables) taken) t → (file : FileNo) (ioas : ObjId)
    → is_idle objects areas file ioas t ≡ false
new_used objects areas tables taken own begins t within file ioas =
    let row = row_in_frames (missing_tables objects areas tables) taken t within in
    let m = row.0 in
    let of = in_missing objects areas tables m row.1 in
    let o = of.0 in
    let there : IsIn (map (missing_at o.file o.id) (lacking (has_table tables o.file o.id)
    (needed_places areas o.file o.kind))) m =
    subst (λ (l : List MissingTable). IsIn l m) (missing_is areas tables o) of.2 in
    let place = in_map (missing_at o.file o.id) _ m there in
    let needed = in_lacked (has_table tables o.file o.id) (needed_places areas o.file o.kind) place.0 place.1 in
    let is = place.2 in
    used_table objects areas o place.0 t own begins of.1 needed
    (row.2 ∙ ap (λ (x : MissingTable). x.file) (sym is)) (row.3 ∙ ap (λ (x : MissingTable). x.hwpt) (sym is))
    (row.4 ∙ ap (λ (x : MissingTable). x.place.level) (sym is))
    (row.5 ∙ ap (λ (x : MissingTable). x.place.first) (sym is)) file ioas

none_of_any : {X : Type 0} (p : X → Bool) (xs : List X) → list_any p xs ≡ false → (x : X) → IsIn xs x → p x ≡ false
none_of_any p xs none x within = false_else (p x) (λ is. clash _ none (of_any p xs x within is))

-- ---- areas that meet a table

-- an area of the address space that meets the span
abbrev pub meets_own : FileNo → ObjId → Bounds → Area → Bool
meets_own file ioas span area = is_of file ioas area && meets area.span span

met_is : (file : FileNo) (ioas : ObjId) (span : Bounds) (areas : List Area)
    → areas_meet span (areas_of areas file ioas) ≡ list_any (meets_own file ioas span) areas
met_is file ioas span areas = any-filter (λ (a : Area). meets a.span span) (is_of file ioas) areas

any_phases : (file : FileNo) (ioas : ObjId) (span : Bounds) (phase : Area → _) (areas : List Area)
    → list_any (meets_own file ioas span) (map (λ (a : Area). with_phase (phase a) a) areas)
    ≡ list_any (meets_own file ioas span) areas
any_phases file ioas span phase [] = refl
any_phases file ioas span phase (a ∷ areas) =
    ap (λ (b : Bool). meets_own file ioas span a || b) (any_phases file ioas span phase areas)

any_left : (p goes : Area → Bool) (areas : List Area) → list_any p areas ≡ true
    → ((a : Area) → IsIn areas a → p a ≡ true → goes a ≡ true → ⊥) → list_any p (filter (λ a. not (goes a)) areas) ≡ true
any_left p goes [] any stays = any
any_left p goes (a ∷ areas) any stays =
    by_tests (p a) (goes a) refl refl any (λ rest. any_left p goes areas rest (λ b within. stays b (inr within)))
  where
    by_tests : (b c : Bool) → p a ≡ b → goes a ≡ c → (b || list_any p areas) ≡ true
        → (list_any p areas ≡ true → list_any p (filter (λ x. not (goes x)) areas) ≡ true)
        → list_any p (cond (not c) (a ∷ filter (λ x. not (goes x)) areas) (filter (λ x. not (goes x)) areas)) ≡ true
    by_tests true true here gone is rest = absurd (stays a (inl refl) here gone)
    by_tests true false here gone is rest = ap (λ (x : Bool). x || list_any p (filter (λ y. not (goes y)) areas)) here
    by_tests false true here gone is rest = rest is
    by_tests false false here gone is rest =
        ap (λ (x : Bool). x || list_any p (filter (λ y. not (goes y)) areas)) here ∙ rest is

module _ {A : Type 0} (at : ℕ) (w : World) (e : Event A) (answer : Reply) where
  still_met : (file : FileNo) (ioas : ObjId) (span : Bounds)
      → ((a : Area) → IsIn w.areas a → meets_own file ioas span a ≡ true → takes_area e answer a ≡ true → ⊥)
      → list_any (meets_own file ioas span) w.areas ≡ true
      → list_any (meets_own file ioas span) (changed at w e answer).areas ≡ true
  still_met file ioas span stays met = by_move (changed at w e answer) (changed_moves at w e answer).areas
    where
      by_move : (new : World) → AreasMove at w e answer new → list_any (meets_own file ioas span) new.areas ≡ true
      by_move new (SameAreas is same) = rw is met
      by_move new (FewerAreas goes by is left free) =
          rw is (any_left (meets_own file ioas span) goes w.areas met
          (λ a within here gone. stays a within here (by a gone)))
      by_move new (OtherPhases phase lives is same) = rw is (any_phases file ioas span phase w.areas ∙ met)
      by_move new (OneArea number file' request iova passed lies makes alike is under) =
          rw is (any-with_area (meets_own file ioas span) (mapped_area number file' request iova) w.areas
          ∙ or_right _ _ met)

  -- a page table that is there now was there, or no row was of it
  kind_back : have_own_ids w.objects ≡ true → (o : Object) → IsIn (changed at w e answer).objects o → is_hwpt o.kind ≡ true
      → Answers w e answer → (k : ObjectKind) → kind_of w.objects o.file o.id ≡ Some k → IsIn w.objects o
  kind_back own o within hwpt answers k was = by_move (changed at w e answer) (changed_moves at w e answer).objects within
    where
      by_move : (new : World) → ObjectsMove w e answer new → IsIn new.objects o → IsIn w.objects o
      by_move new (Same is) here = subst (λ (os : List Object). IsIn os o) is here
      by_move new (Fewer stays stay bound is) here =
          (in_filter stays w.objects o (subst (λ (os : List Object). IsIn os o) is here)).0
      by_move new (Reattached file id attached is) here =
          hwpts_reattached file id attached w.objects o (subst (λ (os : List Object). IsIn os o) is here) hwpt
      by_move new (More object fresh admitted other is) here =
          ⊎_elim
          (λ (new_one : object ≡ o).
          let is_free = and_true _ (not (is_some (kind_of w.objects object.file object.id))) (fresh answers) in
          let there : kind_of w.objects object.file object.id ≡ Some k =
          subst (λ (y : Object). kind_of w.objects y.file y.id ≡ Some k) (sym new_one) was in
          absurd (clash _ (ap (λ (x : Option ObjectKind). not (is_some x)) there) is_free.1))
          (λ (old : IsIn w.objects o). old)
          (in_with_object object w.objects o (subst (λ (os : List Object). IsIn os o) is here))

  -- ---- tables that stay

  module _ (ids : have_own_ids w.objects ≡ true) (left_ids : have_own_ids (changed at w e answer).objects ≡ true)
      (used : NoneIdle w) (tabled : AreTabled w) (answers : Answers w e answer) (t : TableFrame)
      (there : IsIn w.table_frames t) where
    -- a row of a page table of this kind was so before
    same_kind : (k : ObjectKind) → is_hwpt k ≡ true → kind_of (changed at w e answer).objects t.file t.hwpt ≡ Some k
        → kind_of w.objects t.file t.hwpt ≡ Some k
    same_kind k hwpt found =
        let first = object_of_kind (changed at w e answer).objects t.file t.hwpt k found in
        let owned : not (is_orphan w.objects t) ≡ true =
        of_each (λ (x : TableFrame). not (is_orphan w.objects x)) w.table_frames t tabled.owned there in
        by_kind (kind_of w.objects t.file t.hwpt) refl owned first.0 first.2 first.3 first.4 first.5
      where
        by_kind : (o : Option ObjectKind) → kind_of w.objects t.file t.hwpt ≡ o
            → not (elim o [ Some kind ↦ not (is_hwpt kind) | None ↦ true ]) ≡ true
            → (x : Object) → IsIn (changed at w e answer).objects x → x.file ≡ t.file → x.id ≡ t.hwpt → x.kind ≡ k
            → kind_of w.objects t.file t.hwpt ≡ Some k
        by_kind None is owned x within of_file of_id of_kind = absurd (clash _ refl owned)
        by_kind (Some was) is owned x within of_file of_id of_kind =
            let named_is : kind_of w.objects x.file x.id ≡ Some was =
            ap (λ (f : FileNo). kind_of w.objects f x.id) of_file ∙ ap (kind_of w.objects t.file) of_id ∙ is in
            let here = kind_back ids x within (ap is_hwpt of_kind ∙ hwpt) answers was named_is in
            sym (ap (λ (f : FileNo). kind_of w.objects f t.hwpt) of_file)
            ∙ sym (ap (kind_of w.objects x.file) of_id)
            ∙ kind_only w.objects x ids here ∙ ap (λ (y : ObjectKind). let o : Option ObjectKind = Some y in o) of_kind

    below_hwpt : (ioas : ObjId) (k : ObjectKind) → is_below_root ioas t k ≡ true → is_hwpt k ≡ true
    below_hwpt ioas kind.Ioas below = absurd (clash _ refl below)
    below_hwpt ioas (kind.Hwpt over width automatic) below = refl
    below_hwpt ioas (kind.Device device) below = absurd (clash _ refl below)
    below_hwpt ioas (kind.Access attached) below = absurd (clash _ refl below)

    -- what its page table's areas met they meet still, where none of those that met it goes
    pub kept_used : (file : FileNo) (ioas : ObjId)
        → ((k : ObjectKind) → kind_of w.objects t.file t.hwpt ≡ Some k → kind_of (changed at w e answer).objects t.file
        t.hwpt ≡ Some k → is_below_root ioas t k ≡ true → t.file.0 ≡ file.0 → (a : Area) → IsIn w.areas a
        → meets_own file ioas (span_of_table t) a ≡ true → takes_area e answer a ≡ true → ⊥)
        → is_idle (changed at w e answer).objects (changed at w e answer).areas file ioas t ≡ false
    kept_used file ioas stays = false_else _ (λ idle.
        let parts = and_true (eqb t.file.0 file.0
        && elim (kind_of (changed at w e answer).objects t.file t.hwpt) [
          | Some k ↦ is_below_root ioas t k
          | None ↦ false
        ]) (not (areas_meet (span_of_table t) (areas_of (changed at w e answer).areas file ioas))) idle in
        let more = and_true (eqb t.file.0 file.0)
        (elim (kind_of (changed at w e answer).objects t.file t.hwpt) [
          | Some k ↦ is_below_root ioas t k
          | None ↦ false
        ]) parts.0 in
        by_kind (kind_of (changed at w e answer).objects t.file t.hwpt) refl more.0 more.1 parts.1)
      where
        by_kind : (o : Option ObjectKind) → kind_of (changed at w e answer).objects t.file t.hwpt ≡ o
            → eqb t.file.0 file.0 ≡ true → elim o [ Some k ↦ is_below_root ioas t k | None ↦ false ] ≡ true
            → not (areas_meet (span_of_table t) (areas_of (changed at w e answer).areas file ioas)) ≡ true → ⊥
        by_kind None is of_file below unmet = clash _ refl below
        by_kind (Some k) is of_file below unmet =
            let was = same_kind k (below_hwpt ioas k below) is in
            let same : t.file.0 ≡ file.0 = search (of_file, arith, nat_tests) in
            let not_idle : is_idle w.objects w.areas file ioas t ≡ false =
            none_of_any (is_idle w.objects w.areas file ioas) w.table_frames (used file ioas) t there in
            let met : areas_meet (span_of_table t) (areas_of w.areas file ioas) ≡ true =
            by_test (areas_meet (span_of_table t) (areas_of w.areas file ioas)) refl not_idle was in
            let now : areas_meet (span_of_table t) (areas_of (changed at w e answer).areas file ioas) ≡ true =
            met_is file ioas (span_of_table t) (changed at w e answer).areas
            ∙ still_met file ioas (span_of_table t) (stays k was is below same)
            (sym (met_is file ioas (span_of_table t) w.areas) ∙ met) in
            clash _ (ap not now) unmet
          where
            by_test : (b : Bool) → areas_meet (span_of_table t) (areas_of w.areas file ioas) ≡ b
                → is_idle w.objects w.areas file ioas t ≡ false → kind_of w.objects t.file t.hwpt ≡ Some k → b ≡ true
            by_test true met_so not_so was = refl
            by_test false met_so not_so was =
                absurd (clash _ not_so (both_true _ _ (both_true _ _ of_file
                (ap (λ (x : Option ObjectKind). elim x [ Some k ↦ is_below_root ioas t k | None ↦ false ]) was ∙ below))
                (ap not met_so)))

-- ---- events by which areas go

-- an UNMAP of this address space that answers bytes
abbrev pub Unmaps : {A : Type 0} → Event A → Reply → FileNo → ObjId → Type 0
Unmaps (event.Unmap own request) (reply.Bytes count) file ioas = (own.0 ≡ file.0) × (request.ioas.0 ≡ ioas.0)
Unmaps e answer file ioas = ⊥

-- where an area that met a table of a page table that stays goes, it is one of an address space that is unmapped
goes_by : {A : Type 0} (at : ℕ) (w : World) (e : Event A) (answer : Reply) (t : TableFrame) (file : FileNo) (ioas : ObjId)
    → refusal w e ≡ None → Answers w e answer → list_all (λ a. has_ioas w.objects a.file a.ioas) w.areas ≡ true
    → (k : ObjectKind)
    → kind_of w.objects t.file t.hwpt ≡ Some k → kind_of (changed at w e answer).objects t.file t.hwpt ≡ Some k
    → is_below_root ioas t k ≡ true → t.file.0 ≡ file.0 → (a : Area) → IsIn w.areas a
    → meets_own file ioas (span_of_table t) a ≡ true → takes_area e answer a ≡ true → Unmaps e answer file ioas
unfolding changed settle without_areas Answers
goes_by at w (event.Unmap own request) (reply.Bytes count) t file ioas none answers spaces k was now below same a within met takes =
    let here = and_true (is_of file ioas a) (meets a.span (span_of_table t)) met in
    let mine = and_true (eqb a.file.0 file.0) (eqb a.ioas.0 ioas.0) here.0 in
    let theirs = and_true (eqb a.file.0 own.0) (eqb a.ioas.0 request.ioas.0) takes in
    (grind (arith, nat_tests), grind (arith, nat_tests))
goes_by at w (event.Destroy own id) answer t file ioas none answers spaces k was now below same a within met takes =
    let here = and_true (is_of file ioas a) (meets a.span (span_of_table t)) met in
    let mine = and_true (eqb a.file.0 file.0) (eqb a.ioas.0 ioas.0) here.0 in
    let theirs = and_true (eqb a.file.0 own.0) (eqb a.ioas.0 id.0) takes in
    let space : has_ioas w.objects a.file a.ioas ≡ true =
    of_each (λ (x : Area). has_ioas w.objects x.file x.ioas) w.areas a spaces within in
    let space_own : has_ioas w.objects own id ≡ true =
    ap (λ (f : FileNo). has_ioas w.objects f id) (sym (file_is a.file own theirs.0))
    ∙ ap (has_ioas w.objects a.file) (sym (id_is a.ioas id theirs.1)) ∙ space in
    let first = object_of_kind w.objects t.file t.hwpt k was in
    let over : is_hwpt_over id k ≡ true = over_is k below (grind (arith, nat_tests)) in
    let stands : has_hwpt w.objects own id ≡ true =
    of_any (λ (o : Object). eqb o.file.0 own.0 && is_hwpt_over id o.kind) w.objects first.0 first.2
    (both_true _ _ (ap (λ (f : FileNo). eqb f.0 own.0) first.3 ∙ (let is : eqb t.file.0 own.0 ≡ true = grind (arith, nat_tests) in is))
    (ap (is_hwpt_over id) first.5 ∙ over)) in
    absurd (by_kind (kind_of w.objects own id) space_own stands (destroy_passed (view w) own id none).unused)
  where
    over_is : (k : ObjectKind) → is_below_root ioas t k ≡ true → ioas.0 ≡ id.0 → is_hwpt_over id k ≡ true
    over_is kind.Ioas low is = absurd (clash _ refl low)
    over_is (kind.Hwpt over width automatic) low is =
        let parts = and_true (eqb over.0 ioas.0) (not (eqb t.level (levels_of width))) low in
        let one = parts.0 in grind (arith, nat_tests)
    over_is (kind.Device device) low is = absurd (clash _ refl low)
    over_is (kind.Access attached) low is = absurd (clash _ refl low)

    by_kind : (o : Option ObjectKind) → elim o [ Some kind ↦ is_ioas kind | None ↦ false ] ≡ true
        → has_hwpt w.objects own id ≡ true → is_used (view w) own id o ≡ false → ⊥
    by_kind None is_space stands unused = clash _ refl is_space
    by_kind (Some kind.Ioas) is_space stands unused =
        clash _ (or_false (has_hwpt w.objects own id) _ unused).0 stands
    by_kind (Some (kind.Hwpt over width automatic)) is_space stands unused = clash _ refl is_space
    by_kind (Some (kind.Device device)) is_space stands unused = clash _ refl is_space
    by_kind (Some (kind.Access attached)) is_space stands unused = clash _ refl is_space
goes_by at w (event.Close own) reply.Done t file ioas none answers spaces k was now below same a within met takes =
    let here = and_true (is_of file ioas a) (meets a.span (span_of_table t)) met in
    let mine = and_true (eqb a.file.0 file.0) (eqb a.ioas.0 ioas.0) here.0 in
    let first = object_of_kind (filter (λ (o : Object). not (eqb o.file.0 own.0)) w.objects) t.file t.hwpt k now in
    let stays = (in_filter (λ (o : Object). not (eqb o.file.0 own.0)) w.objects first.0 first.2).1 in
    let of_file = ap (λ (f : FileNo). f.0) first.3 in
    let gone : eqb first.0.file.0 own.0 ≡ true = grind (arith, nat_tests) in
    absurd (clash _ (ap not gone) stays)
goes_by at w (event.Close own) answer t file ioas none answers spaces k was now below same a within met takes =
    absurd answers
goes_by at w e answer t file ioas none answers spaces k was now below same a within met takes =
    absurd (clash _ refl takes)

-- ---- all together

by_unmap : {A : Type 0} (w left : World) (e : Event A) (answer : Reply) (taken given : List FrameNo)
    → AreFramesChosen w left e answer taken given → (file : FileNo) (ioas : ObjId) → Unmaps e answer file ioas
    → (t : TableFrame) → IsIn w.table_frames t → not (is_among given t.frame) ≡ true
    → is_idle left.objects left.areas file ioas t ≡ false
by_unmap w left (event.Unmap own request) (reply.Bytes count) taken given chosen file ioas (of_file, of_id) t within stays =
    let either = of_each (λ (x : TableFrame). not (is_idle left.objects left.areas own request.ioas x)
    || is_among given x.frame) w.table_frames t chosen.given within in
    let own_is : own ≡ file = ap (λ (n : ℕ). let f : FileNo = record { 0 = n } in f) of_file in
    let id : request.ioas ≡ ioas = ap (λ (n : ℕ). let i : ObjId = record { 0 = n } in i) of_id in
    ap (λ (f : FileNo). is_idle left.objects left.areas f ioas t) (sym own_is)
    ∙ ap (λ (i : ObjId). is_idle left.objects left.areas own i t) (sym id)
    ∙ other (is_idle left.objects left.areas own request.ioas t) (is_among given t.frame) either stays
  where
    other : (a b : Bool) → (not a || b) ≡ true → not b ≡ true → a ≡ false
    other false b is stays = refl
    other true true is stays = absurd (clash _ refl stays)
    other true false is stays = absurd (clash _ refl is)
by_unmap w left e answer taken given chosen file ioas un t within stays = absurd un

any_in : {X : Type 0} (p : X → Bool) (xs : List X) → list_any p xs ≡ true → (x : X) × IsIn xs x × (p x ≡ true)
any_in p [] any = absurd (clash _ refl any)
any_in {X = X} p (x ∷ xs) any = by_test (p x) refl any (any_in p xs)
  where
    by_test : (b : Bool) → p x ≡ b → (b || list_any p xs) ≡ true
        → (list_any p xs ≡ true → (y : X) × IsIn xs y × (p y ≡ true)) → (y : X) × IsIn (x ∷ xs) y × (p y ≡ true)
    by_test true is here rest = (x, inl refl, is)
    by_test false is here rest = let found = rest here in (found.0, inr found.1, found.2)

none_by_each : {X : Type 0} (p : X → Bool) (xs : List X) → ((x : X) → IsIn xs x → p x ≡ false) → list_any p xs ≡ false
none_by_each p xs each = not_any (list_any p xs) refl
  where
    not_any : (b : Bool) → list_any p xs ≡ b → b ≡ false
    not_any false is = refl
    not_any true is =
        let some = any_in p xs is in absurd (clash _ (each some.0 some.1) some.2)

pub keeps_used : {A : Type 0} (at : ℕ) (w : World) (e : Event A) (answer : Reply) (taken given : List FrameNo)
    → refusal w e ≡ None → Answers w e answer → AreFramesChosen w (changed at w e answer) e answer taken given
    → have_own_ids w.objects ≡ true → AreTabled w → list_all (λ a. has_ioas w.objects a.file a.ioas) w.areas ≡ true
    → list_all begins_at_page (changed at w e answer).areas ≡ true → NoneIdle w
    → NoneIdle (with_tables taken given (changed at w e answer))
unfolding with_tables
keeps_used at w e answer taken given none answers chosen ids tabled spaces begins used file ioas =
    let left = changed at w e answer in
    let left_ids = keeps_own_ids at w e answer none answers ids in
    let same : left.table_frames ≡ w.table_frames = same_tables at w e answer in
    let kept = kept_tables given left.table_frames in
    list_any-append (is_idle left.objects left.areas file ioas) kept
    (in_frames (missing_tables left.objects left.areas kept) taken)
    ∙ both_false _ _
    (none_by_each (is_idle left.objects left.areas file ioas) kept (λ t within.
    let was = in_filter (λ (x : TableFrame). not (is_among given x.frame)) left.table_frames t within in
    let there : IsIn w.table_frames t = subst (λ (l : List TableFrame). IsIn l t) same was.0 in
    false_else (is_idle left.objects left.areas file ioas t) (λ idle.
    clash _ (kept_used at w e answer ids left_ids used tabled answers t there file ioas
    (λ k before now below of_file a a_within met takes.
    clash _ (by_unmap w left e answer taken given chosen file ioas
    (goes_by at w e answer t file ioas none answers spaces k before now below of_file a a_within met takes) t there was.1)
    idle)) idle)))
    (none_by_each (is_idle left.objects left.areas file ioas)
    (in_frames (missing_tables left.objects left.areas kept) taken)
    (λ t within. new_used left.objects left.areas kept taken left_ids begins t within file ioas))
