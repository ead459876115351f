-- Whether a record moves just the frames that it may, told over the world that its event has left.
use Rattle.std.proofs.Common.{◌≡◌, ℕ, Bool, true, false, ◌&&◌, ◌||◌, ◌++◌, not, eqb, None, List, [], length, refl}
use Rattle.std.proofs.Common.{sym, ap, subst, ◌∙◌}
use Rattle.std.proofs.lemmas.Bool.{eqb-true, eq-eqb}
use Rattle.std.specs.List.{list_all, list_any}
use Rattle.iofd_rows.proofs.Bools.{and_true, both_true, not_true}
use Rattle.iofd_rows.proofs.Each.{IsIn, of_each}
use Rattle.iofd_runs.proofs.MissingTables.{is_owned}
use Rattle.iofd_runs.proofs.OwnIds.{keeps_own_ids}
use Rattle.iofd_runs.proofs.SameTables.{same_tables}
use Rattle.iofd_runs.proofs.StillTabled.{MakesNone, TakesNone, none_after, none_given, owned_after}
use Rattle.iofd_steps.specs.After.{changed}
use Rattle.iofd_steps.specs.Answers.{Answers}
use Rattle.iofd_refusals.specs.Checks.{refusal}
use Rattle.iofd_words.specs.Frames.{is_free}
use Rattle.iofd_words.specs.Tables.{MovesTables, are_different, are_rising, in_frames, is_among, is_orphan}
use Rattle.iofd_words.specs.Tables.{kept_tables, may_go, missing_tables, tables_after, with_tables}
use Rattle.iofd_words.specs.World.{World}
use Rattle.iofd_words.specs.declared.event.Event.{Event}
use Rattle.iofd_words.specs.declared.event.Event.TheVariants as event
use Rattle.iofd_words.specs.declared.numbers.FrameNo.{FrameNo}
use Rattle.iofd_words.specs.declared.reply.Reply.{Reply}
use Rattle.iofd_words.specs.declared.reply.Reply.TheVariants as reply
use Rattle.iofd_words.specs.declared.rows.Area.{Area}
use Rattle.iofd_words.specs.declared.rows.Object.{Object}
use Rattle.iofd_words.specs.declared.rows.TableFrame.{TableFrame}
use Rattle.journal_audit_events.proofs.TablesGone.{rows_after}
use Rattle.journal_audit_events.specs.Gone.{gone_with, is_gone}
use Rattle.journal_audit_events.specs.declared.gone.Gone.{Gone}
use Rattle.journal_audit_tables.specs.Coming.{coming_with, missing_with}
use Rattle.journal_audit_tables.specs.Moved.{IsLeftBy, are_given, is_enough, is_idle_in, may_give, taken_world}
use Rattle.journal_audit_tables.specs.Moved.{thinned_by, without_given}
use Rattle.journal_audit_tables.specs.declared.coming.Coming.{Coming}
use Rattle.journal_audit_tables.proofs.Leaving.{all_alike_in, any_alike_in}
use Rattle.journal_audit_tables.proofs.MissingLeft.{missing_left}
use Rattle.journal_audit_tables.proofs.Named.{given_passes, none_given_back}
use Rattle.journal_audit_tables.proofs.NeededTables.{none_kept_in}
use Rattle.journal_audit_world.specs.Decides.{Decides}
use Rattle.journal_audit_world.specs.Kept.{IsKept}
use Rattle.journal_audit_world.specs.Unwritten.{unwritten}

-- ---- which rows go

still : {A : Type 0} (at : ℕ) (w : World) (e : Event A) (answer : Reply) → IsKept at w → Answers w e answer
    → TakesNone w e → (t : TableFrame) → IsIn w.table_frames t → is_orphan (changed at w e answer).objects t ≡ false
still at w e answer kept answers takes t within =
    not_true _ (of_each (is_owned (changed at w e answer).objects) w.table_frames t
    (owned_after at w e answer answers takes kept.tabled.owned) within)

orphans : {A : Type 0} (at : ℕ) (w : World) (e : Event A) (answer : Reply) → IsKept at w → Answers w e answer
    → (t : TableFrame) → IsIn w.table_frames t
    → is_orphan (changed at w e answer).objects t ≡ is_gone (gone_with w e) t
orphans at w (event.Map file request) answer kept answers = still at w (event.Map file request) answer kept answers tt
orphans at w (event.Copy file request) answer kept answers = still at w (event.Copy file request) answer kept answers tt
orphans at w (event.Unmap file request) answer kept answers =
    still at w (event.Unmap file request) answer kept answers tt
orphans at w (event.HwptAlloc file request) answer kept answers =
    still at w (event.HwptAlloc file request) answer kept answers tt
orphans at w (event.Attach device pt_id) answer kept answers =
    still at w (event.Attach device pt_id) answer kept answers tt
orphans at w (event.AccessPin file id request) answer kept answers =
    still at w (event.AccessPin file id request) answer kept answers tt
orphans at w e answer kept answers = rows_after at w e answer refl kept answers

may_same : {A : Type 0} (left : World) (e : Event A) (answer : Reply) (t : TableFrame)
    → may_go left e answer t ≡ is_idle_in left.objects left.areas (thinned_by e answer) t
may_same left (event.Unmap file request) (reply.Bytes count) t = refl
may_same left (event.Unmap file request) answer t = refl
may_same left e answer t = refl

-- ---- what is missing once rows have gone

abbrev may_leave : {A : Type 0} → World → Event A → Reply → TableFrame → Bool
may_leave left e answer t = is_orphan left.objects t || may_go left e answer t

abbrev are_let : {A : Type 0} → World → World → Event A → Reply → List FrameNo → Bool
are_let w left e answer given =
    list_all (λ (frame : FrameNo). list_any (λ t. eqb t.frame.0 frame.0 && may_leave left e answer t) w.table_frames)
    given

abbrev MissingSo : {A : Type 0} → ℕ → World → Event A → Reply → List FrameNo → Type 0
MissingSo at w e answer given =
    missing_tables (changed at w e answer).objects (changed at w e answer).areas (kept_tables given w.table_frames)
    ≡ missing_with (coming_with w e answer) (changed at w e answer).objects (changed at w e answer).areas
    (kept_tables given w.table_frames)

-- none goes
none_goes : {A : Type 0} (at : ℕ) (w : World) (e : Event A) (answer : Reply) (given : List FrameNo) → IsKept at w
    → refusal w e ≡ None → Answers w e answer
    → ((t : TableFrame) → IsIn w.table_frames t → may_leave (changed at w e answer) e answer t ≡ false)
    → are_let w (changed at w e answer) e answer given ≡ true → MissingSo at w e answer given
none_goes at w e answer given kept none answers never may =
    let empty : given ≡ [] = none_given_back (may_leave
    (changed at w e answer) e answer) w.table_frames given never may in
    subst (λ (fs : List FrameNo). MissingSo at w e answer fs) (sym empty)
    (subst (λ (rows : List TableFrame).
    missing_tables (changed at w e answer).objects (changed at w e answer).areas rows
    ≡ missing_with (coming_with w e answer) (changed at w e answer).objects (changed at w e answer).areas rows)
    (sym (none_given w.table_frames)) (missing_left at w kept e answer none answers))

-- none comes
none_comes : {A : Type 0} (at : ℕ) (w : World) (e : Event A) (answer : Reply) (given : List FrameNo) → IsKept at w
    → refusal w e ≡ None → Answers w e answer → MakesNone w e
    → are_let w (changed at w e answer) e answer given ≡ true
    → missing_tables (changed at w e answer).objects (changed at w e answer).areas (kept_tables given w.table_frames)
    ≡ []
none_comes at w e answer given kept none answers makes may =
    none_kept_in (changed at w e answer).objects (changed at w e answer).areas (thinned_by e answer) given
    w.table_frames (keeps_own_ids at w e answer none answers kept.own_ids)
    (λ t within among.
    ap (λ b. is_orphan (changed at w e answer).objects t || b) (sym (may_same (changed at w e answer) e answer t))
    ∙ given_passes (may_leave (changed at w e answer) e answer) w.table_frames given kept.differ may t within among)
    (none_after at w e answer makes kept.tabled.needed)

missing_so : {A : Type 0} (at : ℕ) (w : World) (e : Event A) (answer : Reply) (given : List FrameNo) → IsKept at w
    → refusal w e ≡ None → Answers w e answer → are_let w (changed at w e answer) e answer given ≡ true
    → MissingSo at w e answer given
missing_so at w (event.Map file request) answer given kept none answers may =
    none_goes at w (event.Map file request) answer given kept none answers
    (λ t within. ap (λ b. b || false) (orphans at w (event.Map file request) answer kept answers t within)) may
missing_so at w (event.Copy file request) answer given kept none answers may =
    none_goes at w (event.Copy file request) answer given kept none answers
    (λ t within. ap (λ b. b || false) (orphans at w (event.Copy file request) answer kept answers t within)) may
missing_so at w (event.HwptAlloc file request) answer given kept none answers may =
    none_goes at w (event.HwptAlloc file request) answer given kept none answers
    (λ t within. ap (λ b. b || false) (orphans at w (event.HwptAlloc file request) answer kept answers t within)) may
missing_so at w (event.Attach device pt_id) answer given kept none answers may =
    none_goes at w (event.Attach device pt_id) answer given kept none answers
    (λ t within. ap (λ b. b || false) (orphans at w (event.Attach device pt_id) answer kept answers t within)) may
missing_so at w e answer given kept none answers may = none_comes at w e answer given kept none answers tt may

-- ---- the record's frames

module _ {A : Type 0} (at : ℕ) (w left : World) (e : Event A) (answer : Reply) (taken given : List FrameNo)
    (gone : Gone) (what : Coming) (by : IsLeftBy at w left e answer taken gone what) where
  abbrev new : World
  new = changed at w e answer

  abbrev Moves : Type 0
  Moves = MovesTables w new e answer taken given

  abbrev so : Bool
  so = are_given gone (thinned_by e answer) left given

  objects : left.objects ≡ new.objects
  objects = ap (λ (x : World). x.objects) by.changed

  areas : left.areas ≡ new.areas
  areas = ap (λ (x : World). x.areas) by.changed

  rows : left.table_frames ≡ w.table_frames
  rows = ap (λ (x : World). x.table_frames) by.changed ∙ same_tables at w e answer

  goes : (t : TableFrame) → IsIn w.table_frames t → is_orphan new.objects t ≡ is_gone gone t
  goes t within = orphans at w e answer by.kept by.answers t within ∙ ap (λ (g : Gone). is_gone g t) (sym by.goes)

  may : (t : TableFrame) → IsIn w.table_frames t
      → may_leave new e answer t ≡ may_give gone left.objects left.areas (thinned_by e answer) t
  may t within =
      ap (λ b. b || may_go new e answer t) (goes t within)
      ∙ ap (λ b. is_gone gone t || b) (may_same new e answer t
      ∙ ap (λ (os : List Object). is_idle_in os new.areas (thinned_by e answer) t) (sym objects)
      ∙ ap (λ (rs : List Area). is_idle_in left.objects rs (thinned_by e answer) t) (sym areas))

  -- the tests are those of the definitions
  same_gone : list_all (λ t. not (is_orphan new.objects t) || is_among given t.frame) w.table_frames
      ≡ list_all (λ t. not (is_gone gone t) || is_among given t.frame) left.table_frames
  same_gone =
      all_alike_in (λ t. not (is_orphan new.objects t) || is_among given t.frame)
      (λ t. not (is_gone gone t) || is_among given t.frame) w.table_frames
      (λ t within. ap (λ b. not b || is_among given t.frame) (goes t within))
      ∙ ap (list_all (λ t. not (is_gone gone t) || is_among given t.frame)) (sym rows)

  same_may : are_let w new e answer given
      ≡ list_all (λ (frame : FrameNo). list_any (λ t. eqb t.frame.0 frame.0
      && may_give gone left.objects left.areas (thinned_by e answer) t) left.table_frames) given
  same_may =
      all_alike_in (λ (frame : FrameNo). list_any (λ t. eqb t.frame.0 frame.0
      && may_leave new e answer t) w.table_frames)
      (λ (frame : FrameNo). list_any (λ t. eqb t.frame.0 frame.0
      && may_give gone left.objects left.areas (thinned_by e answer) t) left.table_frames) given
      (λ frame held.
      any_alike_in (λ t. eqb t.frame.0 frame.0 && may_leave new e answer t)
      (λ t. eqb t.frame.0 frame.0 && may_give gone left.objects left.areas (thinned_by e answer) t) w.table_frames
      (λ t within. ap (λ b. eqb t.frame.0 frame.0 && b) (may t within))
      ∙ ap (list_any (λ t. eqb t.frame.0 frame.0
      && may_give gone left.objects left.areas (thinned_by e answer) t)) (sym rows))

  -- and so is what is missing
  same_missing : are_let w new e answer given ≡ true
      → missing_tables new.objects new.areas (kept_tables given new.table_frames)
      ≡ missing_with what left.objects left.areas (kept_tables given left.table_frames)
  same_missing let_go =
      ap (λ (ts : List TableFrame). missing_tables new.objects new.areas (kept_tables given ts))
      (same_tables at w e answer)
      ∙ missing_so at w e answer given by.kept by.granted by.answers let_go
      ∙ ap (λ (c : Coming). missing_with c new.objects new.areas (kept_tables given w.table_frames)) (sym by.comes)
      ∙ ap (λ (os : List Object). missing_with what os new.areas (kept_tables given w.table_frames)) (sym objects)
      ∙ ap (λ (rs : List Area). missing_with what left.objects rs (kept_tables given w.table_frames)) (sym areas)
      ∙ ap (λ (ts : List TableFrame). missing_with what left.objects left.areas (kept_tables given ts)) (sym rows)

  let_go : so ≡ true → are_let w new e answer given ≡ true
  let_go is = same_may ∙ (and_true (list_all (λ t. not (is_gone gone t) || is_among given t.frame) left.table_frames) _
      (and_true (are_rising given) _ is).1).1

  moves_so : so ≡ true → is_enough what (without_given given left) taken ≡ true → Moves
  moves_so is enough =
      let rising = and_true (are_rising given) _ is in
      let parts = and_true (list_all (λ t. not
      (is_gone gone t) || is_among given t.frame) left.table_frames) _ rising.1 in
      let free = and_true (list_all (λ (f : FrameNo). is_free w.settings.pool w.user_pages w.pins w.table_frames f.0)
      taken) (are_different taken) by.free in
      record {
        enough = eqb-true (length taken) _ enough ∙ ap length (sym (same_missing (let_go is)));
        free = free.0;
        different = free.1;
        gone = same_gone ∙ parts.0;
        may = same_may ∙ parts.1;
        rising = rising.0;
      }

  so_given : Moves → so ≡ true
  so_given moves =
      both_true _ _ moves.rising (both_true _ _ (sym same_gone ∙ moves.gone) (sym same_may ∙ moves.may))

  so_enough : Moves → is_enough what (without_given given left) taken ≡ true
  so_enough moves = eq-eqb (length taken) _ (moves.enough ∙ ap length (same_missing moves.may))

  pub not_given : so ≡ false → Moves → ⊥
  not_given is moves = let yes = so_given moves in let never = sym is ∙ yes in cc

  pub decided : so ≡ true → (b : Bool) → b ≡ is_enough what (without_given given left) taken → Decides b Moves
  decided is true enough = moves_so is (sym enough)
  decided is false enough = λ moves. let never = enough ∙ so_enough moves in cc

  pub world_moved : so ≡ true → (end : World) → end ≡ taken_world what (without_given given left) taken
      → unwritten end ≡ unwritten (with_tables taken given new)
  unfolding with_tables
  world_moved is end ends =
      ap (λ (x : World). unwritten x) ends
      ∙ ap (λ (ts : List TableFrame). unwritten (record left { table_frames = ts })) after
      ∙ ap (λ (x : World). record x { table_frames = tables_after taken given new }) by.changed
    where
      after : kept_tables given left.table_frames ++ in_frames
          (missing_with what left.objects left.areas (kept_tables given left.table_frames)) taken
          ≡ tables_after taken given new
      after =
          ap (λ ms. kept_tables given left.table_frames ++ in_frames ms taken) (sym (same_missing (let_go is)))
          ∙ ap (λ (ts : List TableFrame). kept_tables given ts
          ++ in_frames (missing_tables new.objects new.areas (kept_tables given new.table_frames)) taken)
          (ap (λ (x : World). x.table_frames) by.changed)
