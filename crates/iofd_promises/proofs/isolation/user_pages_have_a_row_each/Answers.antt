use Rattle.std.proofs.Common.{◌≡◌, true, eqb, arith}
use Rattle.std.proofs.lemmas.Bool.Decides.{nat_tests}
use Rattle.iofd_steps.specs.Run.{world_of}
use Rattle.iofd_rows.proofs.Bools.{both_true}
use Rattle.iofd_promises.proofs.Lists.{one_place}
use Rattle.iofd_promises.proofs.PageRows.{frames_apart, pages_apart, same_frame, same_page}
use Rattle.iofd_promises.proofs.isolation.user_pages_have_a_row_each.Goals as goal

pub returns-clause-pages : goal.returns-clause-pages
returns-clause-pages g c = λ settings records i j page other run first second users pages.
    let user : eqb page.user.0 other.user.0 ≡ true = search (users, arith, nat_tests) in
    let user_back : eqb other.user.0 page.user.0 ≡ true = search (users, arith, nat_tests) in
    let number : eqb page.page other.page ≡ true = search (pages, arith, nat_tests) in
    let number_back : eqb other.page page.page ≡ true = search (pages, arith, nat_tests) in
    one_place same_page (world_of settings records).user_pages i j page other (pages_apart settings records run) first
    second (both_true _ _ user number) (both_true _ _ user_back number_back)

pub returns-clause-frames : goal.returns-clause-frames
returns-clause-frames g c = λ settings records i j page other run first second frames.
    let same : eqb page.frame.0 other.frame.0 ≡ true = search (frames, arith, nat_tests) in
    let back : eqb other.frame.0 page.frame.0 ≡ true = search (frames, arith, nat_tests) in
    one_place same_frame (world_of settings records).user_pages i j page other
    (frames_apart settings records run) first second same back
