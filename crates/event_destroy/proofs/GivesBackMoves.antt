-- An event by which page tables go gives the frames of their tables back, and moves no others.
use Rattle.std.proofs.Common.{◌≡◌, ℕ, Bool, false, not, Option, None, List, [], ap, sym, subst, ◌∙◌}
use Rattle.std.specs.List.{filter}
use Rattle.event_destroy.proofs.TablesGone.{given_rises, given_times}
use Rattle.page_table_set.proofs.Counted.{rows_in_frame}
use Rattle.iofd_rows.proofs.Each.{IsIn}
use Rattle.iofd_runs.proofs.OwnIds.{keeps_own_ids}
use Rattle.iofd_runs.proofs.SameTables.{same_tables}
use Rattle.iofd_runs.proofs.StillTabled.{MakesNone, none_after}
use Rattle.iofd_steps.specs.After.{changed}
use Rattle.iofd_steps.specs.Answers.{Answers}
use Rattle.iofd_refusals.specs.Checks.{refusal}
use Rattle.iofd_words.specs.Tables.{MovesTables, is_orphan, may_go, missing_tables, tables_after, with_tables}
use Rattle.iofd_words.specs.World.{World}
use Rattle.iofd_words.specs.declared.event.Event.{Event}
use Rattle.iofd_words.specs.declared.numbers.FrameNo.{FrameNo}
use Rattle.iofd_words.specs.declared.reply.Reply.{Reply}
use Rattle.iofd_words.specs.declared.rows.TableFrame.{TableFrame}
use Rattle.user_memory_rows.specs.Shown.{tables_in}
use Rattle.server_state.proofs.GivenMoves.{gives, tables_left}
use Rattle.server_state.specs.Choice.{AreFramesChosen, IsChosen}
use Rattle.server_state.specs.Shows.{Shows}
use Rattle.server_state.specs.Step.{IsTidy}
use Rattle.server_state.specs.declared.state.State.{State}
use Rattle.page_table_words.specs.Released.{GivesBack}
use Rattle.page_table_words.specs.Rows.{TableRow}

with_given : (v : World) (given : List FrameNo) (left : List TableFrame) → tables_after [] given v ≡ left
    → with_tables [] given v ≡ record v { table_frames = left }
unfolding with_tables
with_given v given left is = ap (λ (tables : List TableFrame). record v { table_frames = tables }) is

module _ {A : Type 0} (at : ℕ) (w : World) (s new : State A) (e : Event A) (via : Option FrameNo) (answer : Reply)
    (goes : TableFrame → Bool) (rows : List TableRow) (given : List FrameNo)
    (tidy : IsTidy at w) (shows : Shows w s) (none : refusal w e ≡ None)
    (answers : Answers w e answer) (makes : MakesNone w e)
    (never : (left : World) (t : TableFrame) → may_go left e answer t ≡ false)
    (orphans : (t : TableFrame) → IsIn w.table_frames t → is_orphan (changed at w e answer).objects t ≡ goes t)
    (back : GivesBack rows [] given)
    (counted : (f : ℕ) → rows_in_frame rows f ≡ tables_in (filter goes w.table_frames) f) where
  pub gives_back : IsChosen w e via answer
      → Shows (record (changed at w e answer) { table_frames = filter (λ table. not (goes table)) w.table_frames }) new
      → Answers w e answer × IsChosen w e via answer
      × MovesTables w (changed at w e answer) e answer [] given
      × AreFramesChosen w (changed at w e answer) e answer [] given
      × Shows (with_tables [] given (changed at w e answer)) new
  gives_back chosen after =
      let left = changed at w e answer in
      let stay = same_tables at w e answer in
      let same = λ (f : ℕ). given_times rows given back f ∙ counted f in
      let rises = given_rises rows given back in
      let lacks_none : missing_tables left.objects left.areas left.table_frames ≡ [] =
      ap (missing_tables left.objects left.areas) stay ∙ none_after at w e answer makes tidy.tabled.needed in
      let (moves, are_chosen) = gives w left e answer goes given shows.frames.once same rises orphans stay
      (keeps_own_ids at w e answer none answers tidy.ids) lacks_none (never left) in (
        answers,
        chosen,
        moves,
        are_chosen,
        subst (λ (v : World). Shows v new) (sym (with_given left given
            (filter (λ table. not (goes table)) w.table_frames)
            (tables_left w left e answer goes given shows.frames.once same rises orphans stay))) after,
      )
