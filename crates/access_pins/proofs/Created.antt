-- A file takes one more object, where nothing refuses the access object.
use Rattle.std.proofs.Common.{◌≡◌, None}
use Rattle.iofd_runs.proofs.NotRefused.{access_create_passed}
use Rattle.iofd_refusals.specs.Checks.{access_create_checks}
use Rattle.iofd_words.specs.FirstTrue.{first_true}
use Rattle.iofd_words.specs.View.{view}
use Rattle.iofd_words.specs.World.{World}
use Rattle.iofd_words.specs.declared.call_error.CallError.{CallError}
use Rattle.iofd_words.specs.declared.call_error.CallError.TheVariants.{Refused}
use Rattle.iofd_words.specs.declared.numbers.FileNo.{FileNo}
use Rattle.iofd_words.specs.declared.refusal.Refusal.{Refusal}
use Rattle.object_table.specs.Table.{IsWhy, insert_refusal}
use Rattle.server_state.proofs.NeverFull.{takes_object}
use Rattle.server_state.specs.Shows.{Shows}
use Rattle.server_state.specs.declared.state.State.{State}

module _ {A : Type 0} where
  pub create_taken : (w : World) (s : State A) (file : FileNo) (error : CallError) (r : Refusal) → Shows w s
      → first_true (access_create_checks (view w) file) ≡ None → error ≡ Refused r
      → IsWhy (insert_refusal s.objects file) error → ⊥
  create_taken w s file error r shows none =
      let passed = access_create_passed (view w) file none in
      takes_object w s file error r shows passed.opened passed.roomy
