-- Where a file is open and not full, nothing refuses it one more object.
use Rattle.std.proofs.Common.{◌≡◌, true, false, leb, Some, None, List, length, refl, sym, ◌∙◌, ap}
use Rattle.std.specs.List.{filter}
use Rattle.iofd_words.specs.Files as files
use Rattle.iofd_words.specs.Objects.{is_full}
use Rattle.iofd_words.specs.World.{World}
use Rattle.iofd_words.specs.declared.numbers.FileNo.{FileNo}
use Rattle.iofd_words.specs.declared.refusal.Refusal.{Refusal}
use Rattle.iofd_words.specs.declared.rows.Object.{Object}
use Rattle.server_state.specs.Shows.{Shows}
use Rattle.server_state.specs.declared.state.State.{State}
use Rattle.server_state.proofs.Objects.{fullness}
use Rattle.object_table.specs.Table.{IsWhy, insert_refusal, is_of_file, is_open}
use Rattle.iofd_words.specs.declared.call_error.CallError.{CallError}
use Rattle.iofd_words.specs.declared.call_error.CallError.TheVariants.{Refused}

module _ {A : Type 0} where
  -- an open file that isn't full takes one more object
  pub takes_object : (w : World) (s : State A) (file : FileNo) (error : CallError) (r : Refusal) → Shows w s
      → files.is_open w.settings w.closed file ≡ true → is_full w.objects file ≡ false → error ≡ Refused r
      → IsWhy (insert_refusal s.objects file) error → ⊥
  takes_object w s file error r shows still roomy refused why =
      let open_s : is_open s.objects file ≡ true = shows.objects.files file ∙ still in
      let roomy_s : leb 65535 (length (filter (is_of_file file) s.objects.rows)) ≡ false =
      sym (fullness s.objects.rows file) ∙ ap (λ (objects : List Object). is_full objects file)
      (sym shows.objects.rows) ∙ roomy in
      let none : insert_refusal s.objects file ≡ None = rw (open_s, roomy_s) refl in
      let some : insert_refusal s.objects file ≡ Some r.cause = rw refused at why in
      cc
