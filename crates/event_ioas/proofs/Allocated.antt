-- Where nothing refuses it, a file takes one more address space.
use Rattle.std.proofs.Common.{◌≡◌, None}
use Rattle.iofd_refusals.specs.Checks.{ioas_alloc_checks}
use Rattle.iofd_words.specs.FirstTrue.{first_true}
use Rattle.iofd_words.specs.View.{view}
use Rattle.iofd_words.specs.World.{World}
use Rattle.iofd_words.specs.declared.numbers.FileNo.{FileNo}
use Rattle.iofd_words.specs.declared.refusal.Refusal.{Refusal}
use Rattle.iofd_runs.proofs.Known.{alloc_open}
use Rattle.iofd_runs.proofs.NotRefused.{alloc_passed}
use Rattle.server_state.specs.Shows.{Shows}
use Rattle.server_state.specs.declared.state.State.{State}
use Rattle.object_table.specs.Table.{IsWhy, insert_refusal}
use Rattle.iofd_words.specs.declared.call_error.CallError.{CallError}
use Rattle.iofd_words.specs.declared.call_error.CallError.TheVariants.{Refused}
use Rattle.server_state.proofs.NeverFull.{takes_object}

module _ {A : Type 0} where
  pub alloc_taken : (w : World) (s : State A) (file : FileNo) (error : CallError) (r : Refusal) → Shows w s
      → first_true (ioas_alloc_checks (view w) file) ≡ None → error ≡ Refused r
      → IsWhy (insert_refusal s.objects file) error → ⊥
  alloc_taken w s file error r shows none =
      takes_object w s file error r shows (alloc_open w file none) (alloc_passed (view w) file none).roomy
