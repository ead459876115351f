use Rattle.std.proofs.Common.{◌≡◌, ◌∙◌, None, ap, subst, sym}
use Rattle.mem_account.specs.Accounts.{has_room}
use Rattle.pinned_pages.specs.Accesses.{access_refusal}
use Rattle.pinned_pages.specs.Pages.{MemoryPages, ObjectPages}
use Rattle.pinned_pages.proofs.FirstPin.{run_fits}
use Rattle.pinned_pages.proofs.pages.Pages.pin_by_access.Goals as goal

pub pin_run_reserved-requires-clause-granted : goal.pin_run_reserved-requires-clause-granted
pin_run_reserved-requires-clause-granted g c =
    let now = c.args.self.now.pages in
    let accounts = c.args.accounts.now in
    let G : ObjectPages → Type 0 = λ p. access_refusal p c.args.users.now.pages accounts c.args.first c.args.count
    ≡ None in
    let room = ap (has_room accounts now.user.0) (sym c.new_in_run-new.ensures.value)
    ∙ sym (ap (λ (v : MemoryPages). has_room accounts v.pages.user.0 c.new_in_run-new.result) c.self.view_is)
    ∙ sym c.if-not-has_room.ensures in
    subst G (sym c.reserve_for_access.ensures.pages) (run_fits now c.args.users.now.pages accounts c.args.first
    c.args.count (sym c.if-not-has_run.ensures) room)
