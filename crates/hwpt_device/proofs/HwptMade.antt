-- What is kept after a HWPT_ALLOC shows the world after it.
use Rattle.std.proofs.Common.{◌≡◌, ℕ, true, false, ◌&&◌, is_none, is_some, Option, Some, None, List, [], length, refl}
use Rattle.std.proofs.Common.{sym, ◌∙◌, ap, subst}
use Rattle.std.specs.List.{find}
use Rattle.std.specs.Prelude.{IsTrue}
use Rattle.iofd_steps.specs.After.{changed, hwpt_changes}
use Rattle.iofd_steps.specs.Answers.{Answers}
use Rattle.iofd_refusals.specs.Checks.{hwpt_alloc_checks}
use Rattle.iofd_words.specs.Files.{device_of, is_open}
use Rattle.iofd_words.specs.FirstTrue.{first_true}
use Rattle.iofd_words.specs.Objects.{device_in, device_under, is_fresh, is_object, settings_under}
use Rattle.iofd_words.specs.Settings.{DeviceSettings}
use Rattle.iofd_words.specs.View.{view}
use Rattle.iofd_words.specs.World.{World}
use Rattle.iofd_words.specs.declared.event.Event.TheVariants as event
use Rattle.iofd_words.specs.declared.event.HwptRequest.{HwptRequest}
use Rattle.iofd_words.specs.declared.numbers.DeviceNo.{DeviceNo}
use Rattle.iofd_words.specs.declared.numbers.FileNo.{FileNo}
use Rattle.iofd_words.specs.declared.numbers.ObjId.{ObjId}
use Rattle.iofd_words.specs.declared.reply.Reply.TheVariants as reply
use Rattle.iofd_words.specs.declared.rows.Object.{Object}
use Rattle.iofd_words.specs.declared.rows.ObjectKind.{ObjectKind}
use Rattle.iofd_words.specs.declared.rows.ObjectKind.TheVariants as kind
use Rattle.iofd_words.specs.declared.width.Width.{Width}
use Rattle.iofd_rows.proofs.Bools.{and_true}
use Rattle.iofd_rows.proofs.Found.{found_passes}
use Rattle.iofd_runs.specs.Fits.{is_known_device}
use Rattle.iofd_runs.proofs.NotRefused.{hwpt_passed}
use Rattle.hwpt_device.specs.Making.{IsRoomy, MayCome, made_object, missing_with, width_of, with_table}
use Rattle.iofd_runs.proofs.StillTabled.{owned_after}
use Rattle.iofd_words.specs.Tables.{MovesTables, with_tables}
use Rattle.iofd_words.specs.declared.numbers.FrameNo.{FrameNo}
use Rattle.hwpt_device.proofs.MovesMade.{areas_with, few_by_width, frames_with, moves_made, objects_with}
use Rattle.hwpt_device.proofs.Narrowed.{wide_by_width}
use Rattle.server_state.specs.Choice.{AreFramesChosen, IsChosen, least_free}
use Rattle.server_state.specs.Held.{objects_in}
use Rattle.server_state.specs.Shows.{Shows}
use Rattle.server_state.specs.Step.{IsGrantedAt, IsTidy}
use Rattle.server_state.specs.declared.state.State.{State}

-- it is refused where no page table may come
pub alloc_roomy : (w : World) (file : FileNo) (request : HwptRequest) (width : Width)
    → elim (settings_under w.settings w.objects file request.device) as (λ _. Option Width) [
      | Some d ↦ Some d.width
      | None ↦ None
    ] ≡ Some width
    → first_true (hwpt_alloc_checks (view w) file request) ≡ None → IsRoomy (view w) file request.ioas width
alloc_roomy w file request width wide none =
    let passed = hwpt_passed (view w) file request none in
    record {
      opened = passed.opened;
      space = passed.space;
      wide = wide_by_width (view w) file request.ioas width
          (settings_under w.settings w.objects file request.device) wide passed.wide;
      roomy = passed.roomy;
      present = passed.present;
      within_limit = passed.within_limit;
      frames = few_by_width (view w) file request.ioas width
          (settings_under w.settings w.objects file request.device) wide passed.frames;
    }

width_found : (o : Option DeviceSettings) (width : Width) → elim o [ Some d ↦ Some d.width | None ↦ None ] ≡ Some width
    → (d : DeviceSettings) × (o ≡ Some d) × (d.width ≡ width)
width_found None width is = cc
width_found (Some d) width is = (d, refl, cc)

module _ {A : Type 0} where
  -- the settings of the device under the id have the width
  pub width_under : (w : World) (s : State A) (file : FileNo) (id : ObjId) (device : DeviceNo) (width : Width)
      → Shows w s → device_under (objects_in s.objects) file id ≡ Some device → width_of s.config device ≡ Some width
      → elim (settings_under w.settings w.objects file id) as (λ _. Option Width) [
        | Some d ↦ Some d.width
        | None ↦ None
      ] ≡ Some width
  width_under w s file id device width shows under wide =
      let under_w : device_under w.objects file id ≡ Some device =
      ap (λ (objects : List Object). device_under objects file id) shows.objects.rows ∙ under in
      ap (λ (o : Option DeviceNo). elim (elim o as (λ _. Option DeviceSettings)
      [ Some device ↦ device_of w.settings device | None ↦ None ]) as (λ _. Option Width) [
        | Some d ↦ Some
            d.width
        | None ↦ None
      ]) under_w
      ∙ ap (λ settings. width_of settings device) shows.settings ∙ wide

  pub alloc_may_come : (at : ℕ) (s : State A) (file : FileNo) (request : HwptRequest) (device : DeviceNo)
      (width : Width) → IsGrantedAt at (event.HwptAlloc file request) s
      → device_under (objects_in s.objects) file request.device ≡ Some device → width_of s.config device ≡ Some width
      → MayCome file request.ioas width s
  alloc_may_come at s file request device width granted under wide = record {
    at = at;
    world = granted.world;
    tidy = granted.tidy;
    shows = granted.shows;
    may = alloc_roomy granted.world file request width
        (width_under granted.world s file request.device device width granted.shows under wide) granted.none;
  }

  -- a device that the file doesn't have was refused
  pub never_missing : {X : Type 0} (w : World) (s : State A) (file : FileNo) (request : HwptRequest) → Shows w s
      → first_true (hwpt_alloc_checks (view w) file request) ≡ None
      → device_under (objects_in s.objects) file request.device ≡ None → X
  never_missing w s file request shows none is =
      absurd (clash (device_under w.objects file request.device)
      (ap (λ (objects : List Object). device_under objects file request.device) shows.objects.rows ∙ is)
      (hwpt_passed (view w) file request none).device)
    where
      clash : (o : Option DeviceNo) → o ≡ None → is_none o ≡ false → ⊥
      clash None is there = cc
      clash (Some d) is there = cc

  -- a bound device has settings, and so a width
  pub never_widthless : (at : ℕ) (w : World) (s : State A) (file : FileNo) (id : ObjId) (device : DeviceNo)
      → IsTidy at w → Shows w s → device_under (objects_in s.objects) file id ≡ Some device
      → width_of s.config device ≡ None → ⊥
  never_widthless at w s file id device tidy shows under unset =
      by_object (find (is_object file id) w.objects) refl
      (ap (λ (objects : List Object). device_under objects file id) shows.objects.rows ∙ under)
    where
      by_settings : (o : Option DeviceSettings) → is_some o ≡ true
          → elim o as (λ _. Option Width) [ Some d ↦ Some d.width | None ↦ None ] ≡ None → ⊥
      by_settings None known unset = cc
      by_settings (Some d) known unset = cc

      by_kind : (k : ObjectKind) → is_known_device w.settings k ≡ true → device_in k ≡ Some device → ⊥
      by_kind kind.Ioas known is = cc
      by_kind (kind.Hwpt ioas width automatic) known is = cc
      by_kind (kind.Access attached) known is = cc
      by_kind (kind.Device bound) known is =
          let same : bound ≡ device = cc in
          by_settings (device_of w.settings device) (rw same at known)
          (ap (λ settings. width_of settings device) shows.settings ∙ unset)

      by_object : (o : Option Object) → find (is_object file id) w.objects ≡ o
          → elim (elim o as (λ _. Option ObjectKind) [ Some x ↦ Some x.kind | None ↦ None ]) as (λ _. Option DeviceNo)
          [ Some k ↦ device_in k | None ↦ None ] ≡ Some device → ⊥
      by_object None found is = cc
      by_object (Some x) found is =
          let passes = found_passes (λ (object : Object). is_open w.settings w.closed object.file
          && is_known_device w.settings object.kind) (is_object file id) w.objects x tidy.fit.known found in
          by_kind x.kind (and_true (is_open w.settings w.closed x.file) (is_known_device w.settings x.kind) passes.0).1
          is

  pub shows_allocated : (at : ℕ) (w : World) (s new : State A) (file : FileNo) (request : HwptRequest) (id : ObjId)
      (device : DeviceNo) (width : Width) (via : Option FrameNo) (taken : List FrameNo) → IsTidy at w → Shows w s
      → IsRoomy (view w) file request.ioas width
      → device_under (objects_in s.objects) file request.device ≡ Some device → width_of s.config device ≡ Some width
      → IsTrue (is_fresh w.objects file id) × (taken ≡ least_free w (length taken))
      × (length taken ≡ length (missing_with w (made_object file request.ioas id width false)))
      × Shows (with_tables taken [] (with_table w (made_object file request.ioas id width false))) new
      → Answers {A = A} w (event.HwptAlloc file request) (reply.Id id)
      × IsChosen {A = A} w (event.HwptAlloc file request) via (reply.Id id)
      × MovesTables {A = A} w (changed {A = A} at w (event.HwptAlloc file request) (reply.Id id))
      (event.HwptAlloc file request) (reply.Id id) taken []
      × AreFramesChosen {A = A} w (changed {A = A} at w (event.HwptAlloc file request) (reply.Id id))
      (event.HwptAlloc file request) (reply.Id id) taken []
      × Shows (with_tables taken [] (changed {A = A} at w (event.HwptAlloc file request) (reply.Id id))) new
  unfolding changed Answers
  shows_allocated at w s new file request id device width via taken tidy shows roomy under wide
      (fresh, chosen, many, with) =
      let under_w : device_under w.objects file request.device ≡ Some device =
      ap (λ (objects : List Object). device_under objects file request.device) shows.objects.rows ∙ under in
      let (d, known, same) = width_found (device_of w.settings device) width
      (ap (λ settings. width_of settings device) shows.settings ∙ wide) in
      let set : settings_under w.settings w.objects file request.device ≡ Some d =
      ap (λ (o : Option DeviceNo). elim o as (λ _. Option DeviceSettings)
      [ Some device ↦ device_of w.settings device | None ↦ None ]) under_w ∙ known in
      let is : hwpt_changes w file request.ioas id (settings_under w.settings w.objects file request.device)
      ≡ with_table w (made_object file request.ioas id width false) =
      ap (hwpt_changes w file request.ioas id) set
      ∙ ap (λ (v : Width). with_table w (made_object file request.ioas id v false)) same in
      let owned = owned_after {A = A} at w (event.HwptAlloc file request) (reply.Id id) fresh tt tidy.tabled.owned in
      let moves = moves_made {A = A} at w s tidy shows file request.ioas id width false roomy fresh taken chosen many
      (hwpt_changes w file request.ioas id (settings_under w.settings w.objects file request.device))
      (event.HwptAlloc file request) (reply.Id id)
      (ap (λ (v : World). v.objects) is ∙ objects_with w (made_object file request.ioas id width false))
      (ap (λ (v : World). v.areas) is ∙ areas_with w (made_object file request.ioas id width false))
      (ap (λ (v : World). v.table_frames) is ∙ frames_with w (made_object file request.ioas id width false))
      owned (λ t. refl) in
      (fresh, tt, moves.0, moves.1, subst (λ v. Shows (with_tables taken [] v) new) (sym is) with)
