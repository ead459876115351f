-- Events that move no frames of tables: the world after the event is the one that is shown.
use Rattle.std.proofs.Common.{◌≡◌, ℕ, Bool, true, false, not, ◌||◌, Option, None, List, [], ◌∷◌, ◌++◌, refl, ap, ◌∙◌}
use Rattle.std.specs.List.{list_all}
use Rattle.std.proofs.lemmas.List.{append-nil}
use Rattle.iofd_runs.proofs.StillTabled.{MakesNone, TakesNone, none_given, stays_tabled}
use Rattle.iofd_steps.specs.After.{changed}
use Rattle.iofd_steps.specs.Answers.{Answers}
use Rattle.iofd_refusals.specs.Checks.{refusal}
use Rattle.iofd_words.specs.Tables.{MissingTable, MovesTables, in_frames, is_among, kept_tables, may_go, missing_tables, tables_after}
use Rattle.iofd_words.specs.Tables.{with_tables}
use Rattle.iofd_words.specs.World.{World}
use Rattle.iofd_words.specs.declared.event.Event.{Event}
use Rattle.iofd_words.specs.declared.numbers.FrameNo.{FrameNo}
use Rattle.iofd_words.specs.declared.reply.Reply.{Reply}
use Rattle.iofd_words.specs.declared.rows.TableFrame.{TableFrame}
use Rattle.server_state.specs.Choice.{AreFramesChosen, IsChosen}
use Rattle.server_state.specs.Shows.{Shows}
use Rattle.server_state.specs.Step.{ChosenSteps, IsTidy, MovingSteps}
use Rattle.server_state.specs.declared.state.State.{State}

-- no frames are moved, and the tables are as they were
none_in_frames : (missing : List MissingTable) → in_frames missing [] ≡ []
none_in_frames [] = refl
none_in_frames (m ∷ missing) = refl

none_moved : (w : World) → tables_after [] [] w ≡ w.table_frames
none_moved w =
    ap (λ (tables : List TableFrame). kept_tables [] w.table_frames ++ tables)
    (none_in_frames (missing_tables w.objects w.areas (kept_tables [] w.table_frames)))
    ∙ append-nil (kept_tables [] w.table_frames)
    ∙ none_given w.table_frames

pub same_world : (w : World) → with_tables [] [] w ≡ w
unfolding with_tables
same_world w = ap (λ (tables : List TableFrame). record w { table_frames = tables }) (none_moved w)

-- where none may go, each that may does
pub none_go : (may : TableFrame → Bool) (given : List FrameNo) (tables : List TableFrame)
    → ((t : TableFrame) → may t ≡ false) → list_all (λ t. not (may t) || is_among given t.frame) tables ≡ true
none_go may given [] never = refl
none_go may given (t ∷ tables) never = let here = never t in rw here (none_go may given tables never)

module _ {A : Type 0} (at : ℕ) (e : Event A) (via : Option FrameNo) (answer : Reply) (new : State A)
    (never : (left : World) (t : TableFrame) → may_go left e answer t ≡ false) where
  -- from one world
  pub still : (w : World) → IsTidy at w → Answers w e answer → IsChosen w e via answer
      → Shows (changed at w e answer) new → MakesNone w e → TakesNone w e
      → Answers w e answer × IsChosen w e via answer
      × MovesTables w (changed at w e answer) e answer [] []
      × AreFramesChosen w (changed at w e answer) e answer [] []
      × Shows (with_tables [] [] (changed at w e answer)) new
  still w tidy answers chosen shows makes takes = (
    answers,
    chosen,
    stays_tabled at w e answer answers makes takes tidy.tabled,
    record { taken = refl; given = none_go _ [] w.table_frames (never (changed at w e answer)) },
    rw (same_world (changed at w e answer)) shows,
  )

  -- where the event makes no page table and no live area, and where nothing refuses it takes no page table away
  pub chosen_moves : (old : State A) → ChosenSteps at e via old answer new → ((w : World) → MakesNone w e)
      → ((w : World) → IsTidy at w → refusal w e ≡ None → TakesNone w e) → MovingSteps at e via old answer [] [] new
  chosen_moves old steps makes takes w tidy shows none may =
      let (answers, chosen, after) = steps w tidy shows none may in
      still w tidy answers chosen after (makes w) (takes w tidy none)
