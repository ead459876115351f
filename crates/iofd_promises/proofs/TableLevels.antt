-- Each table is of a level that its page table's width has.
use Rattle.std.proofs.Common.{◌≡◌, ◌≤◌, ℕ, zero, suc, ◌-◌, Bool, true, false, cond, ◌||◌, not, Option, Some, None, List}
use Rattle.std.proofs.Common.{[], ◌∷◌, refl, ap, ◌∙◌, subst, arith, ◌⊎◌, inl, inr, ⊎_elim}
use Rattle.iofd_steps.specs.After.{changed}
use Rattle.iofd_steps.specs.Answers.{Answers}
use Rattle.iofd_words.specs.Areas.{areas_of}
use Rattle.iofd_refusals.specs.Checks.{refusal}
use Rattle.iofd_words.specs.Levels.{levels_of}
use Rattle.iofd_words.specs.Objects.{is_hwpt, kind_of}
use Rattle.iofd_steps.specs.Run.{IsRun, world_of}
use Rattle.iofd_words.specs.Record.{Record}
use Rattle.iofd_words.specs.Settings.{Settings}
use Rattle.iofd_words.specs.TablePlaces.{TablePlace, has_table, is_place, lacking, live_pages, places_from, places_of}
use Rattle.iofd_words.specs.Tables.{MissingTable, MovesTables, in_frames, kept_tables, missing_of, missing_tables}
use Rattle.iofd_words.specs.Tables.{with_tables}
use Rattle.iofd_words.specs.World.{World, opening}
use Rattle.iofd_words.specs.declared.event.Event.{Event}
use Rattle.iofd_words.specs.declared.numbers.FileNo.{FileNo}
use Rattle.iofd_words.specs.declared.numbers.FrameNo.{FrameNo}
use Rattle.iofd_words.specs.declared.numbers.ObjId.{ObjId}
use Rattle.iofd_words.specs.declared.reply.Reply.{Reply}
use Rattle.iofd_words.specs.declared.rows.Area.{Area}
use Rattle.iofd_words.specs.declared.rows.Object.{Object}
use Rattle.iofd_words.specs.declared.rows.ObjectKind.{ObjectKind}
use Rattle.iofd_words.specs.declared.rows.ObjectKind.TheVariants as kind
use Rattle.iofd_words.specs.declared.rows.TableFrame.{TableFrame}
use Rattle.iofd_words.specs.declared.width.Width.{Width}
use Rattle.iofd_words.specs.declared.width.Width.TheVariants.{Bits39, Bits48, Bits57}
use Rattle.iofd_rows.specs.Ids.{have_own_ids}
use Rattle.iofd_rows.proofs.Each.{IsIn, in_filter, in_map, of_each}
use Rattle.iofd_rows.proofs.Named.{kind_only, object_of_kind}
use Rattle.iofd_runs.proofs.KeepsTabled.{HasTables, keeps_tables, opening_tables}
use Rattle.iofd_runs.proofs.MissingTables.{is_owned, missing_at, missing_is, needed_places}
use Rattle.iofd_runs.proofs.OwnIds.{keeps_own_ids}
use Rattle.iofd_runs.proofs.Runs.{run_keeps_tables}
use Rattle.iofd_runs.proofs.SameTables.{same_tables}
use Rattle.iofd_promises.specs.Owners.{HasPlace, deepest}
use Rattle.iofd_promises.proofs.Comes.{came, same_kind}
use Rattle.iofd_promises.proofs.Lists.{in_append, in_flat_map}
use Rattle.iofd_promises.proofs.Rows.{contains}

-- ---- the levels that are needed

abbrev IsLevel : ℕ → ℕ → Type 0
IsLevel level most = (1 ≤ level) × (level ≤ most)

in_lacking : (has : TablePlace → Bool) (places : List TablePlace) (p : TablePlace) → IsIn (lacking has places) p
    → IsIn places p
in_lacking has [] p within = absurd within
in_lacking has (place ∷ places) p within =
    by_test (has place) within (in_lacking has places p)
    (in_lacking (λ other. has other || is_place place other) places p)
  where
    by_test : (b : Bool) → IsIn (cond b (lacking has places)
        (place ∷ lacking (λ other. has other || is_place place other) places)) p
        → (IsIn (lacking has places) p → IsIn places p)
        → (IsIn (lacking (λ other. has other || is_place place other) places) p → IsIn places p)
        → (place ≡ p) ⊎ IsIn places p
    by_test true within there new = inr (there within)
    by_test false (inl same) there new = inl same
    by_test false (inr later) there new = inr (new later)

level_from : (n page : ℕ) (p : TablePlace) → IsIn (places_from n page) p → IsLevel p.level n
level_from zero page p within = absurd within
level_from (suc n) page p (inl same) =
    let level : suc n ≡ p.level = ap (λ (q : TablePlace). q.level) same in
    (omega (arith, level), omega (arith, level))
level_from (suc n) page p (inr later) = let (low, high) = level_from n page p later in (low, omega (arith, high))

levels_some : (width : Width) → 1 ≤ levels_of width
levels_some Bits39 = omega arith
levels_some Bits48 = omega arith
levels_some Bits57 = omega arith

level_of : (width : Width) (pages : List ℕ) (p : TablePlace) → IsIn (places_of width pages) p
    → IsLevel p.level (levels_of width)
level_of width pages p (inl same) =
    let level : levels_of width ≡ p.level = ap (λ (q : TablePlace). q.level) same in
    let some = levels_some width in
    (omega (arith, level, some), omega (arith, level))
level_of width pages p (inr later) =
    let (page, there, within) = in_flat_map (places_from (levels_of width - 1)) pages p later in
    let (low, high) = level_from (levels_of width - 1) page p within in
    (low, omega (arith, high))

-- a table in a frame is one of those that were missing
in_frame : (missing : List MissingTable) (frames : List FrameNo) (t : TableFrame) → IsIn (in_frames missing frames) t
    → (m : MissingTable) × IsIn missing m × (m.file ≡ t.file) × (m.hwpt ≡ t.hwpt) × (m.place.level ≡ t.level)
in_frame [] frames t within = absurd within
in_frame (m ∷ missing) [] t within = absurd within
in_frame (m ∷ missing) (frame ∷ frames) t (inl same) = (
  m,
  inl refl,
  ap (λ (x : TableFrame). x.file) same,
  ap (λ (x : TableFrame). x.hwpt) same,
  ap (λ (x : TableFrame). x.level) same,
)
in_frame (m ∷ missing) (frame ∷ frames) t (inr later) =
    let (n, there, of_file, of_id, level) = in_frame missing frames t later in (n, inr there, of_file, of_id, level)

-- ---- in each world of a run

abbrev LevelsFit : List Object → List TableFrame → Type 0
LevelsFit objects tables =
    (t : TableFrame) → IsIn tables t → (ioas : ObjId) (width : Width) (automatic : Bool)
    → kind_of objects t.file t.hwpt ≡ Some (kind.Hwpt ioas width automatic) → IsLevel t.level (levels_of width)

kind_once : (o : Option ObjectKind) (a b : ObjectKind) → o ≡ Some a → o ≡ Some b → a ≡ b
kind_once o a b first second = cc

new_level : (objects : List Object) (areas : List Area) (tables : List TableFrame) (taken : List FrameNo)
    → have_own_ids objects ≡ true → LevelsFit objects (in_frames (missing_tables objects areas tables) taken)
new_level objects areas tables taken own t within ioas width automatic table =
    let (m, missing, of_file, of_id, level) = in_frame (missing_tables objects areas tables) taken t within in
    let (o, there, of_object) = in_flat_map (missing_of areas tables) objects m missing in
    let (place, lacks, is) = in_map (missing_at o.file o.id)
    (lacking (has_table tables o.file o.id) (needed_places areas o.file o.kind)) m
    (subst (λ (ms : List MissingTable). IsIn ms m) (missing_is areas tables o) of_object) in
    let file : o.file ≡ t.file = ap (λ (x : MissingTable). x.file) is ∙ of_file in
    let id : o.id ≡ t.hwpt = ap (λ (x : MissingTable). x.hwpt) is ∙ of_id in
    let here : kind_of objects t.file t.hwpt ≡ Some o.kind =
    subst (λ (i : ObjId). kind_of objects t.file i ≡ Some o.kind) id
    (subst (λ (f : FileNo). kind_of objects f o.id ≡ Some o.kind) file (kind_only objects o own there)) in
    let same = kind_once _ _ _ here table in
    let needed = in_lacking (has_table tables o.file o.id) (needed_places areas o.file o.kind) place lacks in
    let places : IsIn (places_of width (live_pages (areas_of areas o.file ioas))) place =
    subst (λ (k : ObjectKind). IsIn (needed_places areas o.file k) place) same needed in
    let (low, high) = level_of width (live_pages (areas_of areas o.file ioas)) place places in
    let exact : place.level ≡ t.level = ap (λ (x : MissingTable). x.place.level) is ∙ level in
    (omega (arith, low, exact), omega (arith, high, exact))

owned_kind : (objects : List Object) (t : TableFrame) → is_owned objects t ≡ true → (ioas : ObjId) × (width : Width)
    × (automatic : Bool) × (kind_of objects t.file t.hwpt ≡ Some (kind.Hwpt ioas width automatic))
owned_kind objects t is = by_kind (kind_of objects t.file t.hwpt) refl is
  where
    by_kind : (o : Option ObjectKind) → kind_of objects t.file t.hwpt ≡ o
        → not (elim o [ Some k ↦ not (is_hwpt k) | None ↦ true ]) ≡ true → (ioas : ObjId) × (width : Width)
        × (automatic : Bool) × (kind_of objects t.file t.hwpt ≡ Some (kind.Hwpt ioas width automatic))
    by_kind None named is = cc
    by_kind (Some kind.Ioas) named is = cc
    by_kind (Some (kind.Hwpt ioas width automatic)) named is = (ioas, width, automatic, named)
    by_kind (Some (kind.Device device)) named is = cc
    by_kind (Some (kind.Access attached)) named is = cc

record LevelSound (w : World) : Type 0 where
  pub tables : HasTables w
  pub levels : LevelsFit w.objects w.table_frames

keeps_levels : {A : Type 0} (at : ℕ) (w : World) (e : Event A) (answer : Reply) (taken given : List FrameNo)
    → refusal w e ≡ None → Answers w e answer → MovesTables w (changed at w e answer) e answer taken given
    → LevelSound w → LevelSound (with_tables taken given (changed at w e answer))
unfolding with_tables
keeps_levels at w e answer taken given none answers moves s = record {
  tables = keeps_tables at w e answer taken given none answers moves s.tables;
  levels = λ t within.
      ⊎_elim
      (λ (kept : IsIn (kept_tables given left.table_frames) t). old t
      (subst (λ (ts : List TableFrame). IsIn ts t) (same_tables at w e answer)
      (in_filter _ left.table_frames t kept).0))
      (λ (new : IsIn (in_frames (missing_tables left.objects left.areas (kept_tables given left.table_frames)) taken)
      t). new_level left.objects left.areas (kept_tables given left.table_frames) taken (keeps_own_ids at w
      e answer none answers s.tables.own_ids) t new)
      (in_append (kept_tables given left.table_frames) _ t within);
}
  where
    left : World
    left = changed at w e answer

    old : (t : TableFrame) → IsIn w.table_frames t → (ioas : ObjId) (width : Width) (automatic : Bool)
        → kind_of left.objects t.file t.hwpt ≡ Some (kind.Hwpt ioas width automatic) → IsLevel t.level (levels_of width)
    old t there ioas width automatic table =
        let (i, v, p, had) =
        owned_kind w.objects t (of_each (is_owned w.objects) w.table_frames t s.tables.tables.owned there) in
        s.levels t there ioas width automatic (same_kind w.objects left.objects t.file t.hwpt _ _ s.tables.own_ids
        (came at w e answer none answers) refl had table)

level_sound : {A : Type 0} (settings : Settings) (records : List (Record A)) → IsRun settings records
    → LevelSound (world_of settings records)
unfolding IsRun world_of
level_sound settings records run = run_keeps_tables LevelSound keeps_levels 0 (opening settings) records run
    (record { tables = opening_tables settings; levels = λ t within. absurd within })

deepest_is : (width : Width) → levels_of width ≡ deepest width
deepest_is Bits39 = refl
deepest_is Bits48 = refl
deepest_is Bits57 = refl

pub has_place : {A : Type 0} (settings : Settings) (records : List (Record A)) (t : TableFrame) → IsRun settings records
    → IsIn (world_of settings records).table_frames t → HasPlace (world_of settings records) t
has_place settings records t run within =
    let w = world_of settings records in
    let s = level_sound settings records run in
    let (ioas, width, automatic, table) =
    owned_kind w.objects t (of_each (is_owned w.objects) w.table_frames t s.tables.tables.owned within) in
    let (object, first, there, of_file, of_id, is) = object_of_kind w.objects t.file t.hwpt _ table in
    let (low, high) = s.levels t within ioas width automatic table in
    let most = deepest_is width in
    record {
      object = object;
      there = contains w.objects object there;
      of_file = of_file;
      of_id = of_id;
      ioas = ioas;
      width = width;
      automatic = automatic;
      is = is;
      low = low;
      high = omega (arith, high, most);
    }
