use Rattle.iofd_promises.proofs.dirty.Clearing.{turned_clear}
use Rattle.iofd_promises.proofs.dirty.turning_on_clears.Goals as goal

pub returns : goal.returns
returns g c = λ settings before r file hwpt on page run asked done mark.
    turned_clear settings before r file hwpt on page run asked done mark
