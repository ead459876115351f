use Rattle.std.proofs.Common.{arith}
use Rattle.std.proofs.lemmas.Bool.Decides.{nat_tests}
use Rattle.iofd_steps.specs.Run.{world_of}
use Rattle.iofd_rows.proofs.Each.{of_each}
use Rattle.iofd_promises.proofs.PageRows.{is_low, pages_low}
use Rattle.iofd_promises.proofs.Rows.{within}
use Rattle.iofd_promises.proofs.limits.user_pages_lie_below_2_to_the_36.Goals as goal

pub returns : goal.returns
returns g c = λ settings records page run has.
    let w = world_of settings records in
    let low = of_each is_low w.user_pages page (pages_low settings records run) (within w.user_pages page has) in
    search (low, arith, nat_tests)
