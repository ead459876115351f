use Rattle.std.proofs.Common.{◌≡◌, ◌∙◌, true, ap, arith, le_refl, refl, subst, sym}
use Rattle.iofd_words.specs.declared.refusal.Cause.TheVariants as cause
use Rattle.mem_account.specs.Accounts.{has_room, is_user}
use Rattle.pinned_pages.specs.Holds.{HasMoreHolds}
use Rattle.pinned_pages.specs.Pages.{MemoryPages, ObjectPages, new_frames, pinned}
use Rattle.frame_memory.proofs.Refusals.{none_there, not_memory, not_taken, refusal_told, taken}
use Rattle.pinned_pages.proofs.FirstPin.{IsReady, absent_refused, account_refused, new_first, ready_first, ready_later}
use Rattle.pinned_pages.proofs.pages.Pages.pin_by_table.Given.{Over}
use Rattle.pinned_pages.proofs.pages.Pages.pin_by_table.Goals as goal
use Rattle.pinned_pages.proofs.pages.Pages.pin_by_table.Goals.{else-self-eq0}
use Rattle.pinned_pages.proofs.pages.Pages.pin_by_table.Goals.{
  then-self-eq0+else-not-are_present+else-not-has_room+in_ok-reserve,
}

pub refused-requires : goal.refused-requires
refused-requires g c = tt

pub returns-then-not-are_present-clause-refused : goal.returns-then-not-are_present-clause-refused
returns-then-not-are_present-clause-refused g c =
    let none = sym (ap (λ (v : MemoryPages). v.pages.table_pins) c.self.view_is) ∙ c.if-self-eq0.true in
    let refusal = absent_refused c.args.self.now.pages c.args.users.now.pages c.args.accounts.now none
    (sym c.if-not-are_present.ensures) in
    refusal_told (Unit {0}) _ cause.Absent c.refused.result refusal c.refused.ensures

pub returns-then-not-are_present-clause-taken : goal.returns-then-not-are_present-clause-taken
returns-then-not-are_present-clause-taken g c =
    let none = sym (ap (λ (v : MemoryPages). v.pages.table_pins) c.self.view_is) ∙ c.if-self-eq0.true in
    let refusal = absent_refused c.args.self.now.pages c.args.users.now.pages c.args.accounts.now none
    (sym c.if-not-are_present.ensures) in
    not_taken _ _ cause.Absent refusal

pub returns-then-not-are_present-clause-memory : goal.returns-then-not-are_present-clause-memory
returns-then-not-are_present-clause-memory g c memory =
    absurd (not_memory (Unit {0}) c.refused.result cause.Absent c.refused.ensures memory)

pub returns-then-not-are_present-clause-pages : goal.returns-then-not-are_present-clause-pages
returns-then-not-are_present-clause-pages g c = tt

pub returns-then-not-are_present-clause-pool : goal.returns-then-not-are_present-clause-pool
returns-then-not-are_present-clause-pool g c = tt

pub returns-then-not-are_present-clause-accounts : goal.returns-then-not-are_present-clause-accounts
returns-then-not-are_present-clause-accounts g c = tt

pub returns-then-not-are_present-clause-capacity : goal.returns-then-not-are_present-clause-capacity
returns-then-not-are_present-clause-capacity g c = le_refl _

pub returns-then-not-are_present-clause-enough : goal.returns-then-not-are_present-clause-enough
returns-then-not-are_present-clause-enough g c enough = refl

pub returns-then-not-are_present-clause-err : goal.returns-then-not-are_present-clause-err
returns-then-not-are_present-clause-err g c = refl

pub returns-then-not-are_present-clause-pool_err : goal.returns-then-not-are_present-clause-pool_err
returns-then-not-are_present-clause-pool_err g c = refl

pub returns-then-not-are_present-clause-accounts_err : goal.returns-then-not-are_present-clause-accounts_err
returns-then-not-are_present-clause-accounts_err g c = refl

pub has_room-requires : goal.has_room-requires
has_room-requires g c =
    let P : MemoryPages → Type 0 = λ v. is_user c.args.accounts.now v.pages.user.0 ≡ true in
    subst P (sym c.self.view_is) c.requires.user

pub refused-requires-then-not-has_room : goal.refused-requires-then-not-has_room
refused-requires-then-not-has_room g c = tt

pub returns-then-not-has_room-clause-refused : goal.returns-then-not-has_room-clause-refused
returns-then-not-has_room-clause-refused g c =
    let none = sym (ap (λ (v : MemoryPages). v.pages.table_pins) c.self.view_is) ∙ c.if-self-eq0.true in
    let room = ap (has_room c.args.accounts.now c.args.self.now.pages.user.0)
    (sym (new_first c.args.self.now.pages none) ∙ sym c.new_count.ensures.value)
    ∙ sym (ap (λ (v : MemoryPages). has_room c.args.accounts.now v.pages.user.0 c.new_count.result) c.self.view_is)
    ∙ sym c.if-not-has_room.ensures in
    let refusal = account_refused c.args.self.now.pages c.args.users.now.pages c.args.accounts.now none
    (sym c.if-not-are_present.ensures) room in
    refusal_told (Unit {0}) _ cause.Account c.refused-then-not-has_room.result refusal
    c.refused-then-not-has_room.ensures

pub returns-then-not-has_room-clause-taken : goal.returns-then-not-has_room-clause-taken
returns-then-not-has_room-clause-taken g c =
    let none = sym (ap (λ (v : MemoryPages). v.pages.table_pins) c.self.view_is) ∙ c.if-self-eq0.true in
    let room = ap (has_room c.args.accounts.now c.args.self.now.pages.user.0)
    (sym (new_first c.args.self.now.pages none) ∙ sym c.new_count.ensures.value)
    ∙ sym (ap (λ (v : MemoryPages). has_room c.args.accounts.now v.pages.user.0 c.new_count.result) c.self.view_is)
    ∙ sym c.if-not-has_room.ensures in
    let refusal = account_refused c.args.self.now.pages c.args.users.now.pages c.args.accounts.now none
    (sym c.if-not-are_present.ensures) room in
    not_taken _ _ cause.Account refusal

pub returns-then-not-has_room-clause-memory : goal.returns-then-not-has_room-clause-memory
returns-then-not-has_room-clause-memory g c memory =
    absurd (not_memory (Unit {0}) c.refused-then-not-has_room.result cause.Account
    c.refused-then-not-has_room.ensures memory)

pub returns-then-not-has_room-clause-pages : goal.returns-then-not-has_room-clause-pages
returns-then-not-has_room-clause-pages g c = tt

pub returns-then-not-has_room-clause-pool : goal.returns-then-not-has_room-clause-pool
returns-then-not-has_room-clause-pool g c = tt

pub returns-then-not-has_room-clause-accounts : goal.returns-then-not-has_room-clause-accounts
returns-then-not-has_room-clause-accounts g c = tt

pub returns-then-not-has_room-clause-capacity : goal.returns-then-not-has_room-clause-capacity
returns-then-not-has_room-clause-capacity g c = le_refl _

pub returns-then-not-has_room-clause-enough : goal.returns-then-not-has_room-clause-enough
returns-then-not-has_room-clause-enough g c enough = refl

pub returns-then-not-has_room-clause-err : goal.returns-then-not-has_room-clause-err
returns-then-not-has_room-clause-err g c = refl

pub returns-then-not-has_room-clause-pool_err : goal.returns-then-not-has_room-clause-pool_err
returns-then-not-has_room-clause-pool_err g c = refl

pub returns-then-not-has_room-clause-accounts_err : goal.returns-then-not-has_room-clause-accounts_err
returns-then-not-has_room-clause-accounts_err g c = refl

pub returns-clause-err : goal.returns-clause-err
returns-clause-err g c = tt

pub returns-clause-pool_err : goal.returns-clause-pool_err
returns-clause-pool_err g c = tt

pub returns-clause-accounts_err : goal.returns-clause-accounts_err
returns-clause-accounts_err g c = tt

ready : (g : Over) (c : goal.After-pin_reserved g) → IsReady c.args.self.now c.if-self-eq0.self c.args.users.now.pages
    c.args.accounts.now
ready g c =
    elim c.if-self-eq0.branch [
      | then-self-eq0+else-not-are_present+else-not-has_room+in_ok-reserve w ↦
          let none = sym (ap (λ (v : MemoryPages). v.pages.table_pins) c.self.view_is) ∙ w.if-self-eq0.true in
          let room = ap (has_room c.args.accounts.now c.args.self.now.pages.user.0)
          (sym (new_first c.args.self.now.pages none) ∙ sym w.new_count.ensures.value)
          ∙ sym (ap (λ (v : MemoryPages). has_room c.args.accounts.now v.pages.user.0 w.new_count.result)
          c.self.view_is)
          ∙ sym w.if-not-has_room.ensures in
          rw w.self-is (ready_first c.args.self.now w.reserve.new.self c.args.users.now.pages c.args.accounts.now
          (sym w.if-not-are_present.ensures) room w.reserve.ensures.pages w.reserve.ensures.capacity
          w.reserve.ensures.room w.reserve.ensures.enough)
      | else-self-eq0 w ↦
          ready_later c.args.self.now c.if-self-eq0.self c.args.users.now.pages c.args.accounts.now
          (λ first. w.if-self-eq0.false (ap (λ (v : MemoryPages). v.pages.table_pins) c.self.view_is ∙ first)) w.self-is
    ]

pub returns-clause-refused : goal.returns-clause-refused
returns-clause-refused g c = none_there _ _ (ready g c).granted

pub returns-clause-taken : goal.returns-clause-taken
returns-clause-taken g c = taken _ _ tt

pub returns-clause-pages : goal.returns-clause-pages
returns-clause-pages g c =
    c.pin_reserved.ensures.pages ∙ ap (λ (p : ObjectPages). pinned p c.args.users.now.pages) (ready g c).pages

pub returns-clause-pool : goal.returns-clause-pool
returns-clause-pool g c =
    let H : ObjectPages → Type 0 = λ p. HasMoreHolds c.args.pool.now c.pin_reserved.new.pool
    (new_frames p c.args.users.now.pages) in
    subst H (ready g c).pages c.pin_reserved.ensures.pool

pub returns-clause-accounts : goal.returns-clause-accounts
returns-clause-accounts g c = rw (ready g c).pages at c.pin_reserved.ensures.accounts

pub returns-clause-capacity : goal.returns-clause-capacity
returns-clause-capacity g c = omega (arith, c.pin_reserved.ensures.capacity, (ready g c).capacity)

pub returns-clause-enough : goal.returns-clause-enough
returns-clause-enough g c some = c.pin_reserved.ensures.capacity ∙ (ready g c).enough some

pub returns-clause-room : goal.returns-clause-room
returns-clause-room g c = c.pin_reserved.ensures.room ∙ (ready g c).room
