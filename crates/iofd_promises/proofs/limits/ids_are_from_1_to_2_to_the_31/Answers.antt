use Rattle.std.proofs.Common.{leb, arith}
use Rattle.std.proofs.lemmas.Bool.Decides.{nat_tests}
use Rattle.iofd_steps.specs.Run.{world_of}
use Rattle.iofd_rows.proofs.Bools.{and_true}
use Rattle.iofd_rows.proofs.Each.{of_each}
use Rattle.iofd_promises.proofs.Counted.{good_ids, has_good_id}
use Rattle.iofd_promises.proofs.Rows.{within}
use Rattle.iofd_promises.proofs.limits.ids_are_from_1_to_2_to_the_31.Goals as goal

pub returns : goal.returns
returns g c = λ settings records object run has.
    let w = world_of settings records in
    let parts = and_true (leb 1 object.id.0) (leb object.id.0 0x7fff_ffff)
    (of_each has_good_id w.objects object (good_ids settings records run) (within w.objects object has)) in
    (search (parts.0, arith, nat_tests), search (parts.1, arith, nat_tests))
