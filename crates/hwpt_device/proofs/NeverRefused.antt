-- Where nothing refuses an event, the file takes one more object, and a bound device has settings.
use Rattle.std.proofs.Common.{◌≡◌, ℕ, true, is_some, Option, Some, None, Result, Ok, Err, refl, ◌∙◌, ap, Bool, ◌&&◌}
use Rattle.std.specs.List.{find}
use Rattle.std.specs.Result.{IsErr, OnOk}
use Rattle.iofd_words.specs.Files as files
use Rattle.iofd_words.specs.Files.{device_of}
use Rattle.iofd_words.specs.Objects.{binding_of, is_bound_as}
use Rattle.iofd_words.specs.Settings.{DeviceSettings}
use Rattle.iofd_words.specs.View.{view}
use Rattle.iofd_words.specs.World.{World}
use Rattle.iofd_words.specs.declared.numbers.DeviceNo.{DeviceNo}
use Rattle.iofd_words.specs.declared.numbers.FileNo.{FileNo}
use Rattle.iofd_words.specs.declared.numbers.ObjId.{ObjId}
use Rattle.iofd_words.specs.declared.refusal.Refusal.{Refusal}
use Rattle.iofd_words.specs.declared.rows.Object.{Object}
use Rattle.iofd_words.specs.declared.width.Width.{Width}
use Rattle.iofd_runs.proofs.Known.{bound_known}
use Rattle.hwpt_device.specs.Making.{IsRoomy, width_of}
use Rattle.server_state.specs.Shows.{Shows}
use Rattle.server_state.specs.Step.{IsTidy}
use Rattle.server_state.specs.declared.state.State.{State}
use Rattle.object_table.specs.Table.{IsWhy, insert_refusal}
use Rattle.iofd_words.specs.declared.call_error.CallError.{CallError}
use Rattle.iofd_words.specs.declared.call_error.CallError.TheVariants.{Refused}
use Rattle.server_state.proofs.NeverFull.{takes_object}

module _ {A : Type 0} where
  -- the file takes one more object
  pub never_full : (w : World) (s : State A) (file : FileNo) (ioas : ObjId) (width : Width) (error : CallError)
      (r : Refusal) → Shows w s → IsRoomy (view w) file ioas width → error ≡ Refused r
      → IsWhy (insert_refusal s.objects file) error → ⊥
  never_full w s file ioas width error r shows roomy = takes_object w s file error r shows roomy.opened roomy.roomy

  -- a bound device has a width
  pub never_unset : (at : ℕ) (w : World) (s : State A) (device : DeviceNo) (bound : Object) → IsTidy at w → Shows w s
      → find (λ object. is_bound_as device object.kind) s.bindings.items ≡ Some bound → width_of s.config device ≡ None
      → ⊥
  never_unset at w s device bound tidy shows binding unset =
      let binding_w : binding_of w.objects device ≡ Some bound = shows.devices.bindings device ∙ binding in
      let unset_w : width_of w.settings device ≡ None =
      ap (λ settings. width_of settings device) shows.settings ∙ unset in
      by_device (device_of w.settings device) unset_w
      (bound_known w.settings w.closed w.objects device bound tidy.fit.known binding_w).1
    where
      by_device : (o : Option DeviceSettings) → elim o as (λ _. Option Width) [
        | Some d ↦ Some d.width
        | None ↦ None
      ] ≡ None → is_some o ≡ true → ⊥
      by_device None unset there = cc
      by_device (Some d) unset there = cc

  -- and it has a user
  pub never_userless : (w : World) (s : State A) (file : FileNo) (ioas : ObjId) (width : Width) → Shows w s
      → IsRoomy (view w) file ioas width → files.user_of s.config file ≡ None → ⊥
  never_userless w s file ioas width shows roomy lacks =
      let lacks_w : files.user_of w.settings file ≡ None =
      ap (λ settings. files.user_of settings file) shows.settings ∙ lacks in
      by_user (files.user_of w.settings file) lacks_w (opened_user (files.user_of w.settings file) _ roomy.opened)
    where
      opened_user : {X : Type 0} (o : Option X) (b : Bool) → (is_some o && b) ≡ true → is_some o ≡ true
      opened_user None b is = cc
      opened_user (Some x) b is = refl

      by_user : {X : Type 0} (o : Option X) → o ≡ None → is_some o ≡ true → ⊥
      by_user None is there = cc
      by_user (Some x) is there = cc

-- an error is no success, of which anything would be said
pub on_ok_err : {X E : Type 0} (r : Result X E) (P : Type 0) → IsErr r → OnOk r P
on_ok_err (Ok x) P is = absurd cc
on_ok_err (Err e) P is = tt
