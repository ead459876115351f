-- The frames of a new page table are those that a step may take for it.
use Rattle.std.proofs.Common.{◌≡◌, ℕ, ◌≤◌, Bool, true, false, not, Option, Some, None, List, [], length, refl, sym, ◌∙◌}
use Rattle.std.proofs.Common.{ap, arith}
use Rattle.std.specs.List.{list_all}
use Rattle.std.proofs.lemmas.Bool.Decides.{nat_tests}
use Rattle.frame_memory.specs.Pool.{free_count}
use Rattle.iofd_runs.proofs.TableCounts.{count_new, no_kind}
use Rattle.iofd_steps.specs.After.{settle}
use Rattle.iofd_words.specs.Areas.{areas_of}
use Rattle.iofd_refusals.specs.Checks.{lacks_new_tables}
use Rattle.iofd_words.specs.Objects.{is_fresh, with_object}
use Rattle.iofd_words.specs.Settings.{DeviceSettings}
use Rattle.iofd_words.specs.TablePlaces.{lacking, live_pages, places_of}
use Rattle.iofd_words.specs.Tables.{MovesTables, is_orphan, may_go, missing_tables}
use Rattle.iofd_words.specs.View.{View, view}
use Rattle.iofd_words.specs.World.{World}
use Rattle.iofd_words.specs.declared.event.Event.{Event}
use Rattle.iofd_words.specs.declared.numbers.FileNo.{FileNo}
use Rattle.iofd_words.specs.declared.numbers.FrameNo.{FrameNo}
use Rattle.iofd_words.specs.declared.numbers.ObjId.{ObjId}
use Rattle.iofd_words.specs.declared.reply.Reply.{Reply}
use Rattle.iofd_words.specs.declared.rows.Area.{Area}
use Rattle.iofd_words.specs.declared.rows.Object.{Object}
use Rattle.iofd_words.specs.declared.rows.TableFrame.{TableFrame}
use Rattle.iofd_words.specs.declared.width.Width.{Width}
use Rattle.server_state.proofs.FreeFrames.{least_frames_free, takes}
use Rattle.server_state.proofs.ViewShown.{same_count}
use Rattle.server_state.specs.Choice.{AreFramesChosen, least_free}
use Rattle.server_state.specs.Shows.{Shows}
use Rattle.server_state.specs.Step.{IsTidy}
use Rattle.server_state.specs.declared.state.State.{State}
use Rattle.hwpt_device.specs.Making.{IsRoomy, lacks_tables, made_object, missing_with, with_table}

-- ---- by a device's width

pub few_by_width : (v : View) (file : FileNo) (ioas : ObjId) (width : Width) (o : Option DeviceSettings)
    → elim o as (λ _. Option Width) [ Some d ↦ Some d.width | None ↦ None ] ≡ Some width
    → lacks_new_tables v file ioas o ≡ false → lacks_tables v file ioas width ≡ false
few_by_width v file ioas width None wide none = cc
few_by_width v file ioas width (Some d) wide none =
    let same : d.width ≡ width = cc in ap (lacks_tables v file ioas) (sym same) ∙ none

-- ---- the world with it

pub objects_with : (w : World) (object : Object) → (with_table w object).objects ≡ with_object object w.objects
unfolding settle
objects_with w object = refl

pub areas_with : (w : World) (object : Object) → (with_table w object).areas ≡ w.areas
unfolding settle
areas_with w object = refl

pub frames_with : (w : World) (object : Object) → (with_table w object).table_frames ≡ w.table_frames
unfolding settle
frames_with w object = refl

-- ---- what the step takes

module _ {A : Type 0} (at : ℕ) (w : World) (s : State A) (tidy : IsTidy at w) (shows : Shows w s) (file : FileNo)
    (ioas id : ObjId) (width : Width) (automatic : Bool) (roomy : IsRoomy (view w) file ioas width)
    (fresh : is_fresh w.objects file id ≡ true) (taken : List FrameNo) (chosen : taken ≡ least_free w (length taken))
    (many : length taken ≡ length (missing_with w (made_object file ioas id width automatic))) where
  -- no more than are free
  enough : length taken ≤ free_count s.pool.holds
  enough =
      let all = count_new w.objects w.areas w.table_frames file id ioas width automatic tidy.tabled.owned
      (no_kind w.objects file id fresh) tidy.tabled.needed in
      let same = same_count w s shows in
      let few : length (lacking (λ place. false) (places_of width (live_pages (areas_of w.areas file ioas))))
      ≤ free_count s.pool.holds = rw same (let lacks = roomy.frames in search (lacks, arith, nat_tests)) in
      omega (arith, many, all, few)

  pub moves_made : {E : Type 0} (left : World) (e : Event E) (answer : Reply)
      → left.objects ≡ with_object (made_object file ioas id width automatic) w.objects → left.areas ≡ w.areas
      → left.table_frames ≡ w.table_frames
      → list_all (λ table. not (is_orphan left.objects table)) w.table_frames ≡ true
      → ((t : TableFrame) → may_go left e answer t ≡ false)
      → MovesTables w left e answer taken [] × AreFramesChosen w left e answer taken []
  moves_made left e answer objects areas frames owned never =
      let missing : length (missing_tables left.objects left.areas left.table_frames) ≡ length
      (missing_with w (made_object file ioas id width automatic)) =
      ap (λ (os : List Object). length (missing_tables os left.areas left.table_frames)) objects
      ∙ ap (λ (l : List Area). length (missing_tables (with_object (made_object file ioas id width automatic) w.objects)
      l left.table_frames)) areas
      ∙ ap (λ (l : List TableFrame). length (missing_tables
      (with_object (made_object file ioas id width automatic) w.objects) w.areas l)) frames in
      takes w s shows left e answer taken (length taken) (many ∙ sym missing) enough (chosen
      ∙ sym (least_frames_free w s shows (length taken))) frames owned never
