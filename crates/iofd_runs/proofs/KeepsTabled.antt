-- Each page table has the tables that it needs, and each row is of a page table that is there.
use Rattle.std.proofs.Common.{◌≡◌, ℕ, true, None, List, refl, ◌∙◌}
use Rattle.std.proofs.lemmas.List.Folds.{list_all-append}
use Rattle.iofd_steps.specs.After.{changed}
use Rattle.iofd_steps.specs.Answers.{Answers}
use Rattle.iofd_refusals.specs.Checks.{refusal}
use Rattle.iofd_words.specs.Tables.{MovesTables, in_frames, kept_tables, missing_tables, with_tables}
use Rattle.iofd_words.specs.Settings.{Settings}
use Rattle.iofd_words.specs.World.{World, opening}
use Rattle.iofd_words.specs.declared.event.Event.{Event}
use Rattle.iofd_words.specs.declared.numbers.FrameNo.{FrameNo}
use Rattle.iofd_words.specs.declared.reply.Reply.{Reply}
use Rattle.iofd_words.specs.declared.rows.TableFrame.{TableFrame}
use Rattle.iofd_rows.specs.Ids.{have_own_ids}
use Rattle.iofd_rows.proofs.Bools.{both_true}
use Rattle.iofd_runs.specs.Tabled.{AreTabled}
use Rattle.iofd_runs.proofs.MissingTables.{is_owned, kept_owned, new_owned, tables_come}
use Rattle.iofd_runs.proofs.OwnIds.{keeps_own_ids}
use Rattle.iofd_runs.proofs.SameTables.{same_tables}

-- where the rows move as they may
pub tables_moved : {A : Type 0} (w left : World) (e : Event A) (answer : Reply) (taken given : List FrameNo)
    → left.table_frames ≡ w.table_frames → have_own_ids left.objects ≡ true → MovesTables w left e answer taken given
    → AreTabled (with_tables taken given left)
unfolding with_tables
tables_moved w left e answer taken given same own moves =
    record {
      needed = tables_come left.objects left.areas kept taken moves.enough;
      owned =
          list_all-append (is_owned left.objects) kept new
          ∙ both_true _ _ (kept_owned left.objects given left.table_frames (rw same moves.gone))
          (new_owned left.objects left.areas kept taken own);
    }
  where
    kept : List TableFrame
    kept = kept_tables given left.table_frames

    new : List TableFrame
    new = in_frames (missing_tables left.objects left.areas kept) taken

-- with the ids of objects, of which each is that of one object
pub record HasTables (w : World) : Type 0 where
  pub own_ids : have_own_ids w.objects ≡ true
  pub tables : AreTabled w

pub opening_tables : (settings : Settings) → HasTables (opening settings)
opening_tables settings = record { own_ids = refl; tables = record { needed = refl; owned = refl } }

pub keeps_tables : {A : Type 0} → (at : ℕ) (w : World) (e : Event A) (answer : Reply) (taken given : List FrameNo)
    → refusal w e ≡ None → Answers w e answer → MovesTables w (changed at w e answer) e answer taken given → HasTables w
    → HasTables (with_tables taken given (changed at w e answer))
unfolding with_tables
keeps_tables at w e answer taken given none answers moves has =
    let own = keeps_own_ids at w e answer none answers has.own_ids in
    record {
      own_ids = own;
      tables = tables_moved w (changed at w e answer) e answer taken given
          (same_tables at w e answer) own moves;
    }
