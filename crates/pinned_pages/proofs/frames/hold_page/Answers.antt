use Rattle.std.proofs.Common.{◌+◌, [], sym, ◌∙◌}
use Rattle.iofd_words.specs.Pages.{page_of}
use Rattle.pinned_pages.proofs.HoldsMove.{no_more, one_held}
use Rattle.pinned_pages.proofs.Runs.{none_is}
use Rattle.pinned_pages.proofs.UsersPages.{within_pool}
use Rattle.pinned_pages.proofs.frames.hold_page.Goals as goal

pub hold-requires-clause-frame : goal.hold-requires-clause-frame
hold-requires-clause-frame g c =
    within_pool c.args.pool.now.holds c.args.users.now.pages c.args.user (page_of c.args.va + c.args.index)
    c.in_ok-frame.frame c.requires.within (sym c.frame_now.ensures ∙ c.in_ok-frame.was)

pub returns-clause-pool : goal.returns-clause-pool
returns-clause-pool g c =
    let frame = c.in_ok-frame.frame in
    let is = sym c.frame_now.ensures ∙ c.in_ok-frame.was in
    let none = none_is c.args.pinned (sym c.if-is_some.ensures) in
    let within = within_pool c.args.pool.now.holds c.args.users.now.pages c.args.user
    (page_of c.args.va + c.args.index) frame c.requires.within is in
    rw (none, is, c.hold.ensures) (one_held c.args.pool.now c.args.pool.now [] frame within (no_more c.args.pool.now))
