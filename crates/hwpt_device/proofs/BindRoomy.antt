-- Where nothing refuses a Bind, the file takes one more object.
use Rattle.std.proofs.Common.{◌≡◌, None}
use Rattle.iofd_refusals.specs.Checks.{bind_checks}
use Rattle.iofd_words.specs.FirstTrue.{first_true}
use Rattle.iofd_words.specs.View.{view}
use Rattle.iofd_words.specs.World.{World}
use Rattle.iofd_words.specs.declared.numbers.DeviceNo.{DeviceNo}
use Rattle.iofd_words.specs.declared.numbers.FileNo.{FileNo}
use Rattle.iofd_words.specs.declared.refusal.Refusal.{Refusal}
use Rattle.iofd_runs.proofs.Known.{bind_open}
use Rattle.iofd_runs.proofs.NotRefused.{bind_passed}
use Rattle.server_state.specs.Shows.{Shows}
use Rattle.server_state.specs.declared.state.State.{State}
use Rattle.object_table.specs.Table.{IsWhy, insert_refusal}
use Rattle.iofd_words.specs.declared.call_error.CallError.{CallError}
use Rattle.iofd_words.specs.declared.call_error.CallError.TheVariants.{Refused}
use Rattle.server_state.proofs.NeverFull.{takes_object}

module _ {A : Type 0} where
  pub bind_taken : (w : World) (s : State A) (file : FileNo) (device : DeviceNo) (error : CallError) (r : Refusal)
      → Shows w s → first_true (bind_checks (view w) file device) ≡ None → error ≡ Refused r
      → IsWhy (insert_refusal s.objects file) error → ⊥
  bind_taken w s file device error r shows none =
      takes_object w s file error r shows (bind_open w file device none) (bind_passed (view w) file device none).roomy
