use Rattle.std.proofs.Common.{◌≡◌, ◌∙◌, ◌≤◌, Bool, true, None, ap, arith, refl, subst, sym}
use Rattle.frame_memory.specs.Pool.{may_hold}
use Rattle.mem_account.specs.Accounts.{charged, has_room, is_user}
use Rattle.pinned_pages.specs.Pages.{ObjectPages, charged_first, needed, new_count, pin_refusal, pinned, unpinned}
use Rattle.pinned_pages.proofs.FirstPin.{none_refuses}
use Rattle.pinned_pages.proofs.PinnedPage.{none_accessed}
use Rattle.user_memory.specs.Adding.{charged_for, pages_for}
use Rattle.user_memory.proofs.adding.object_pages.Goals as goal

pub new-pages-requires-clause-start : goal.new-pages-requires-clause-start
new-pages-requires-clause-start g c = c.requires.start

pub new-pages-requires-clause-end : goal.new-pages-requires-clause-end
new-pages-requires-clause-end g c = c.requires.end

pub returns-then-not-pinned-clause-pages : goal.returns-then-not-pinned-clause-pages
returns-then-not-pinned-clause-pages g c =
    let P : Bool → Type 0 = λ b. c.new-pages.result.pages ≡ pages_for c.args.users.now.pages c.args.row b in
    subst P (sym c.if-not-pinned.true) c.new-pages.ensures.pages

pub returns-then-not-pinned-clause-pool : goal.returns-then-not-pinned-clause-pool
returns-then-not-pinned-clause-pool g c =
    rw c.if-not-pinned.true (record { count = refl; holds = λ frame. omega arith; bytes = refl })

pub returns-then-not-pinned-clause-accounts : goal.returns-then-not-pinned-clause-accounts
returns-then-not-pinned-clause-accounts g c = rw c.if-not-pinned.true refl

pub returns-then-not-pinned-clause-pool_err : goal.returns-then-not-pinned-clause-pool_err
returns-then-not-pinned-clause-pool_err g c = tt

pub returns-then-not-pinned-clause-accounts_err : goal.returns-then-not-pinned-clause-accounts_err
returns-then-not-pinned-clause-accounts_err g c = tt

pub pin_reserved-requires-clause-user : goal.pin_reserved-requires-clause-user
pin_reserved-requires-clause-user g c =
    let made = c.reserve.ensures.pages ∙ c.new-pages.ensures.pages in
    let P : ObjectPages → Type 0 = λ p. is_user c.args.accounts.now p.user.0 ≡ true in
    subst P (sym made) (c.requires.may c.if-not-pinned.false).user

pub pin_reserved-requires-clause-pins : goal.pin_reserved-requires-clause-pins
pin_reserved-requires-clause-pins g c =
    let made = c.reserve.ensures.pages ∙ c.new-pages.ensures.pages in
    omega (arith, ap (λ (p : ObjectPages). p.table_pins) made)

pub pin_reserved-requires-clause-within : goal.pin_reserved-requires-clause-within
pin_reserved-requires-clause-within g c none = (c.requires.may c.if-not-pinned.false).within

pub pin_reserved-requires-clause-holds : goal.pin_reserved-requires-clause-holds
pin_reserved-requires-clause-holds g c none =
    let made = c.reserve.ensures.pages ∙ c.new-pages.ensures.pages in
    let all = none_accessed c.args.row.user c.args.row.va c.args.row.count c.args.row.writable in
    let P : ObjectPages → Type 0 = λ p. may_hold c.args.pool.now.holds (new_count p) ≡ true in
    subst P (sym made) (ap (may_hold c.args.pool.now.holds) all ∙ (c.requires.may c.if-not-pinned.false).holds)

pub pin_reserved-requires-clause-granted : goal.pin_reserved-requires-clause-granted
pin_reserved-requires-clause-granted g c =
    let made = c.reserve.ensures.pages ∙ c.new-pages.ensures.pages in
    let may = c.requires.may c.if-not-pinned.false in
    let P : ObjectPages → Type 0 = λ p. pin_refusal p c.args.users.now.pages c.args.accounts.now ≡ None in
    let all = none_accessed c.args.row.user c.args.row.va c.args.row.count c.args.row.writable in
    let room = ap (has_room c.args.accounts.now c.args.row.user.0) all ∙ may.room in
    subst P (sym made) (none_refuses (unpinned c.args.row.user c.args.row.va c.args.row.count c.args.row.writable)
    c.args.users.now.pages c.args.accounts.now may.present (λ first. room))

pub pin_reserved-requires-clause-memory : goal.pin_reserved-requires-clause-memory
pin_reserved-requires-clause-memory g c =
    let N : ObjectPages → Type 0 = λ p. needed p ≤ c.reserve.new.self.capacity in
    subst N (sym c.reserve.ensures.pages) c.in_ok-reserve.ensures.ok

pub returns-clause-pages : goal.returns-clause-pages
returns-clause-pages g c =
    let made = c.reserve.ensures.pages ∙ c.new-pages.ensures.pages in
    let rows = c.args.users.now.pages in
    let P : Bool → Type 0 = λ b. c.pin_reserved.new.self.pages ≡ pages_for rows c.args.row b in
    subst P (sym c.if-not-pinned.false)
    (c.pin_reserved.ensures.pages ∙ ap (λ (p : ObjectPages). pinned p rows) made)

pub returns-clause-accounts : goal.returns-clause-accounts
returns-clause-accounts g c =
    let made = c.reserve.ensures.pages ∙ c.new-pages.ensures.pages in
    let all = none_accessed c.args.row.user c.args.row.va c.args.row.count c.args.row.writable in
    let A : Bool → Type 0 = λ b. c.pin_reserved.new.accounts ≡ charged_for c.args.accounts.now c.args.row b in
    subst A (sym c.if-not-pinned.false) (c.pin_reserved.ensures.accounts
    ∙ ap (λ (p : ObjectPages). charged_first p c.args.accounts.now) made
    ∙ ap (charged c.args.accounts.now c.args.row.user.0) all)

pub returns-clause-pool_err : goal.returns-clause-pool_err
returns-clause-pool_err g c = tt

pub returns-clause-accounts_err : goal.returns-clause-accounts_err
returns-clause-accounts_err g c = tt
