-- An event of one file leaves the rows for tables of each other file as they are.
use Rattle.std.proofs.Common.{◌≡◌, ℕ, Bool, true, false, ◌&&◌, ◌||◌, ◌++◌, not, eqb, Option, Some, None, List, []}
use Rattle.std.proofs.Common.{◌∷◌, map, refl, ap, sym, ◌∙◌, subst, arith}
use Rattle.std.specs.List.{filter, list_all, list_any}
use Rattle.std.proofs.lemmas.Bool.Decides.{nat_tests}
use Rattle.std.proofs.lemmas.List.{append-nil}
use Rattle.std.proofs.lemmas.List.Elements.{filter-append}
use Rattle.iofd_steps.specs.After.{changed}
use Rattle.iofd_words.specs.Areas.{areas_of, is_of}
use Rattle.iofd_refusals.specs.Checks.{refusal}
use Rattle.iofd_words.specs.Objects.{is_hwpt, is_object, kind_of, objects_of}
use Rattle.iofd_steps.specs.Run.{Lawful, MovesFrames, after, after_answer}
use Rattle.iofd_words.specs.Record.{Record}
use Rattle.iofd_words.specs.TablePlaces.{TablePlace, has_table, is_place, is_table_of, live_pages, place_of, places_of}
use Rattle.iofd_words.specs.Tables.{MissingTable, MovesTables, in_frames, is_among, is_orphan, kept_tables, may_go}
use Rattle.iofd_words.specs.Tables.{missing_of, missing_tables, with_tables}
use Rattle.iofd_words.specs.World.{World}
use Rattle.iofd_words.specs.declared.event.Event.{Event}
use Rattle.iofd_words.specs.declared.event.Event.TheVariants as event
use Rattle.iofd_words.specs.declared.numbers.FileNo.{FileNo}
use Rattle.iofd_words.specs.declared.numbers.FrameNo.{FrameNo}
use Rattle.iofd_words.specs.declared.numbers.ObjId.{ObjId}
use Rattle.iofd_words.specs.declared.refusal.Cause.{Cause}
use Rattle.iofd_words.specs.declared.reply.Reply.{Reply}
use Rattle.iofd_words.specs.declared.reply.Reply.TheVariants as reply
use Rattle.iofd_words.specs.declared.rows.Area.{Area}
use Rattle.iofd_words.specs.declared.rows.Object.{Object}
use Rattle.iofd_words.specs.declared.rows.ObjectKind.{ObjectKind}
use Rattle.iofd_words.specs.declared.rows.ObjectKind.TheVariants as kind
use Rattle.iofd_words.specs.declared.rows.TableFrame.{TableFrame}
use Rattle.iofd_rows.proofs.Bools.{and_true, both_true, clash, not_false, not_true}
use Rattle.iofd_rows.proofs.Each.{IsIn, in_filter, in_map, of_all, of_each}
use Rattle.iofd_rows.proofs.Found.{find-filter, none_both}
use Rattle.iofd_rows.proofs.ListTests.{alike, any-filter, any_weaker, false_else, filter_nothing}
use Rattle.iofd_runs.proofs.MissingTables.{all_needed, has_needed, is_owned, missing_at, missing_is, needed_places}
use Rattle.iofd_runs.proofs.MissingTables.{none_missing_of}
use Rattle.iofd_runs.proofs.SameTables.{same_tables}
use Rattle.iofd_runs.proofs.StillTabled.{all-flat_map, in_kept}
use Rattle.iofd_laws.proofs.Bound.{AreBound}
use Rattle.iofd_laws.proofs.FilesApart.{filter_filter, filter_filter_of, keeps_others, other_file}
use Rattle.iofd_laws.proofs.FreeFrames.{same_row, some_in}
use Rattle.iofd_laws.proofs.OwnTables.{OwnTables}
use Rattle.iofd_laws.specs.Laws.{FileRows, IsOfAnother, rows_of, tables_of}

-- ---- what the rows of a file tell

-- a test that only rows of a filter pass
any_own : {X : Type 0} (p q : X → Bool) (xs : List X) → ((x : X) → p x ≡ true → q x ≡ true)
    → list_any p (filter q xs) ≡ list_any p xs
any_own p q xs keeps =
    any-filter p q xs
    ∙ alike _ _ (any_weaker (λ x. q x && p x) p xs (λ x both. (and_true (q x) (p x) both).1))
    (any_weaker p (λ x. q x && p x) xs (λ x passes. both_true _ _ (keeps x passes) passes))

both_equal : (a b c : ℕ) → eqb a b ≡ true → eqb b c ≡ true → eqb a c ≡ true
both_equal a b c first second = grind (arith, nat_tests)

-- which kind of object a file has under an id
own_kind : (objects : List Object) (file f : FileNo) (id : ObjId) → eqb f.0 file.0 ≡ true
    → kind_of (objects_of objects file) f id ≡ kind_of objects f id
own_kind objects file f id is =
    ap (λ (o : Option Object). elim o as (λ _. Option ObjectKind) [ Some object ↦ Some object.kind | None ↦ None ])
    (find-filter (is_object f id) (λ (o : Object). eqb o.file.0 file.0) objects
    (none_both (is_object f id) (λ (o : Object). eqb o.file.0 file.0) objects
    (λ o named. both_equal o.file.0 f.0 file.0 (and_true (eqb o.file.0 f.0) (eqb o.id.0 id.0) named).0 is)))

-- the areas of its address spaces
own_areas : (areas : List Area) (file f : FileNo) (ioas : ObjId) → eqb f.0 file.0 ≡ true
    → areas_of (filter (λ (a : Area). eqb a.file.0 file.0) areas) f ioas ≡ areas_of areas f ioas
own_areas areas file f ioas is =
    filter_filter (is_of f ioas) (λ (a : Area). eqb a.file.0 file.0) areas
    (λ a of. both_equal a.file.0 f.0 file.0 (and_true (eqb a.file.0 f.0) (eqb a.ioas.0 ioas.0) of).0 is)

-- and which tables its page tables have
own_table : (tables : List TableFrame) (file f : FileNo) (id : ObjId) (place : TablePlace) → eqb f.0 file.0 ≡ true
    → has_table (filter (λ (t : TableFrame). eqb t.file.0 file.0) tables) f id place ≡ has_table tables f id place
own_table tables file f id place is =
    any_own (λ (t : TableFrame). is_table_of f id t && is_place (place_of t) place)
    (λ (t : TableFrame). eqb t.file.0 file.0) tables
    (λ t both. both_equal t.file.0 f.0 file.0 (and_true (eqb t.file.0 f.0) (eqb t.hwpt.0 id.0)
    (and_true (is_table_of f id t) (is_place (place_of t) place) both).0).0 is)

-- ---- rows in frames

-- they are of the files of the tables that were missing
files_in : (q : FileNo → Bool) (missing : List MissingTable) (frames : List FrameNo)
    → list_all (λ m. q m.file) missing ≡ true
    → list_all (λ (table : TableFrame). q table.file) (in_frames missing frames) ≡ true
files_in q [] frames all = refl
files_in q (m ∷ missing) [] all = refl
files_in q (m ∷ missing) (frame ∷ frames) all =
    let parts = and_true (q m.file) (list_all (λ m. q m.file) missing) all in
    both_true _ _ parts.0 (files_in q missing frames parts.1)

-- from a world to the one that the event of another file has left
module _ {A : Type 0} (w left : World) (e : Event A) (answer : Reply) (taken given : List FrameNo) (file : FileNo)
    (own : OwnTables w) (rows : rows_of file left ≡ rows_of file w) (same_frames : left.table_frames ≡ w.table_frames)
    (another : IsOfAnother w e file) (moves : MovesTables w left e answer taken given) where
  abbrev is_own : TableFrame → Bool
  is_own table = eqb table.file.0 file.0

  abbrev kept : List TableFrame
  kept = kept_tables given left.table_frames

  abbrev missing : List MissingTable
  missing = missing_tables left.objects left.areas kept

  same_objects : objects_of left.objects file ≡ objects_of w.objects file
  same_objects = ap (λ (rs : FileRows). rs.objects) rows

  -- ---- none goes

  same_kind : (f : FileNo) (id : ObjId) → eqb f.0 file.0 ≡ true → kind_of left.objects f id ≡ kind_of w.objects f id
  same_kind f id is =
      sym (own_kind left.objects file f id is) ∙ ap (λ objects. kind_of objects f id) same_objects
      ∙ own_kind w.objects file f id is

  never_goes : (e : Event A) (answer : Reply) (table : TableFrame) → IsOfAnother w e file → is_own table ≡ true
      → may_go left e answer table ≡ false
  never_goes (event.Unmap f request) (reply.Bytes count) table another is =
      elsewhere f.0 table.file.0 _ _ (other_file f file (another f refl)) is
    where
      elsewhere : (f t : ℕ) (a b : Bool) → eqb f file.0 ≡ false → eqb t file.0 ≡ true → ((eqb t f && a) && b) ≡ false
      elsewhere f t a b other is = grind (arith, nat_tests)
  never_goes e answer table another is = refl

  never_orphan : (table : TableFrame) → IsIn w.table_frames table → is_own table ≡ true
      → is_orphan left.objects table ≡ false
  never_orphan table within is =
      ap (λ (o : Option ObjectKind). elim o as (λ _. Bool) [ Some k ↦ not (is_hwpt k) | None ↦ true ])
      (same_kind table.file table.hwpt is)
      ∙ not_true _ (of_each (is_owned w.objects) w.table_frames table own.has.tables.owned within)

  stays : (table : TableFrame) → IsIn w.table_frames table → is_own table ≡ true
      → not (is_among given table.frame) ≡ true
  stays table within is = not_false _ (false_else (is_among given table.frame) gone)
    where
      gone : is_among given table.frame ≡ true → ⊥
      gone among =
          let (frame, back, at) = some_in (λ (f : FrameNo). eqb f.0 table.frame.0) given among in
          let may = of_each (λ (f : FrameNo). list_any (λ (t : TableFrame). eqb t.frame.0 f.0
          && (is_orphan left.objects t || may_go left e answer t)) w.table_frames) given frame moves.may back in
          let (other, there, goes) = some_in (λ (t : TableFrame). eqb t.frame.0 frame.0
          && (is_orphan left.objects t || may_go left e answer t)) w.table_frames may in
          let parts =
          and_true (eqb other.frame.0 frame.0) (is_orphan left.objects other || may_go left e answer other) goes in
          let same : other ≡ table = same_row w.table_frames other table own.alone.differ there within
          (both_equal other.frame.0 frame.0 table.frame.0 parts.0 at) in
          let never : (is_orphan left.objects table || may_go left e answer table) ≡ false =
          rw (never_orphan table within is, never_goes e answer table another is) refl in
          clash _ never (subst (λ t. (is_orphan left.objects t || may_go left e answer t) ≡ true) same parts.1)

  own_kept : filter is_own kept ≡ filter is_own w.table_frames
  own_kept =
      ap (λ tables. filter is_own (kept_tables given tables)) same_frames
      ∙ filter_filter_of is_own (λ table. not (is_own table) || not (is_among given table.frame))
      (λ table. not (is_among given table.frame)) w.table_frames
      (of_all (λ table. not (is_own table) || not (is_among given table.frame)) w.table_frames
      (λ table within. by_file table within (is_own table) refl))
      (λ table is or. second (is_own table) _ is or)
    where
      by_file : (table : TableFrame) → IsIn w.table_frames table → (b : Bool) → is_own table ≡ b
          → (not b || not (is_among given table.frame)) ≡ true
      by_file table within true is = stays table within is
      by_file table within false is = refl

      second : (a b : Bool) → a ≡ true → (not a || b) ≡ true → b ≡ true
      second true b is or = or
      second false b is or = cc

  -- ---- none comes

  same_space : (f : FileNo) (ioas : ObjId) → eqb f.0 file.0 ≡ true
      → areas_of left.areas f ioas ≡ areas_of w.areas f ioas
  same_space f ioas is =
      sym (own_areas left.areas file f ioas is)
      ∙ ap (λ (rs : FileRows). areas_of rs.areas f ioas) rows
      ∙ own_areas w.areas file f ioas is

  same_needed : (f : FileNo) (k : ObjectKind) → eqb f.0 file.0 ≡ true
      → needed_places left.areas f k ≡ needed_places w.areas f k
  same_needed f kind.Ioas is = refl
  same_needed f (kind.Hwpt ioas width automatic) is =
      ap (λ areas. places_of width (live_pages areas)) (same_space f ioas is)
  same_needed f (kind.Device device) is = refl
  same_needed f (kind.Access attached) is = refl

  same_has : (f : FileNo) (id : ObjId) (place : TablePlace) → eqb f.0 file.0 ≡ true
      → has_table kept f id place ≡ has_table w.table_frames f id place
  same_has f id place is =
      sym (own_table kept file f id place is) ∙ ap (λ tables. has_table tables f id place) own_kept
      ∙ own_table w.table_frames file f id place is

  was_object : (o : Object) → IsIn left.objects o → eqb o.file.0 file.0 ≡ true → IsIn w.objects o
  was_object o within is =
      (in_filter (λ (o : Object). eqb o.file.0 file.0) w.objects o
      (subst (λ objects. IsIn objects o) same_objects
      (in_kept (λ (o : Object). eqb o.file.0 file.0) left.objects o within is))).0

  has_its : (o : Object) → IsIn left.objects o → eqb o.file.0 file.0 ≡ true → has_needed left.areas kept o ≡ true
  has_its o within is =
      let before = of_each (has_needed w.areas w.table_frames) w.objects o
      (all_needed w.objects w.areas w.table_frames own.has.tables.needed) (was_object o within is) in
      ap (list_all (has_table kept o.file o.id)) (same_needed o.file o.kind is)
      ∙ of_all (has_table kept o.file o.id) (needed_places w.areas o.file o.kind)
      (λ place needed. same_has o.file o.id place is
      ∙ of_each (has_table w.table_frames o.file o.id) (needed_places w.areas o.file o.kind) place before needed)

  none_missing_here : list_all (λ m. not (eqb m.file.0 file.0)) missing ≡ true
  none_missing_here =
      all-flat_map (λ m. not (eqb m.file.0 file.0)) (missing_of left.areas kept) left.objects
      ∙ of_all (λ o. list_all (λ m. not (eqb m.file.0 file.0)) (missing_of left.areas kept o)) left.objects
      (λ o within. by_file o within (eqb o.file.0 file.0) refl)
    where
      by_file : (o : Object) → IsIn left.objects o → (b : Bool) → eqb o.file.0 file.0 ≡ b
          → list_all (λ m. not (eqb m.file.0 file.0)) (missing_of left.areas kept o) ≡ true
      by_file o within true is =
          ap (list_all (λ (m : MissingTable). not (eqb m.file.0 file.0)))
          (none_missing_of left.areas kept o (has_its o within is))
      by_file o within false is =
          ap (list_all (λ (m : MissingTable). not (eqb m.file.0 file.0))) (missing_is left.areas kept o)
          ∙ of_all (λ (m : MissingTable). not (eqb m.file.0 file.0)) (map (missing_at o.file o.id) _)
          (λ m among. let (place, there, same) = in_map (missing_at o.file o.id) _ m among in
          ap (λ (m : MissingTable). not (eqb m.file.0 file.0)) (sym same) ∙ not_false _ is)

  own_new : filter is_own (in_frames missing taken) ≡ []
  own_new = filter_nothing is_own (in_frames missing taken)
      (files_in (λ f. not (eqb f.0 file.0)) missing taken none_missing_here)

  pub moved_keeps : tables_of file (with_tables taken given left) ≡ tables_of file w
  unfolding with_tables
  moved_keeps =
      filter-append is_own kept (in_frames missing taken) ∙ ap (λ tables. filter is_own kept ++ tables) own_new
      ∙ append-nil (filter is_own kept) ∙ own_kept

pub after_keeps_tables_of : {A : Type 0} (at : ℕ) (w : World) (r : Record A) (file : FileNo) → Lawful at w r
    → OwnTables w → AreBound w → IsOfAnother w r.event file → tables_of file (after at w r) ≡ tables_of file w
unfolding Lawful after
after_keeps_tables_of at w r file lawful own b another = by_refusal (refusal w r.event) refl lawful.1
  where
    by_refusal : (o : Option Cause) → refusal w r.event ≡ o → MovesFrames at w r o
        → tables_of file (after_answer at w r o) ≡ tables_of file w
    by_refusal (Some cause) is moves = refl
    by_refusal None is moves =
        moved_keeps w (changed at w r.event r.reply) r.event r.reply r.taken r.given file own
        (keeps_others at w r.event r.reply file b is another) (same_tables at w r.event r.reply) another moves
