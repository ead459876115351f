use Rattle.std.proofs.Common.{◌≡◌, ◌∙◌, ℕ, ◌+◌, ◌&&◌, true, false, leb, ap, arith, sym, ⊎_elim}
use Rattle.std.proofs.lemmas.Bool.{cases_Bool, le-leb, leb-false, leb-true, lt-leb, true≢false}
use Rattle.mem_account.specs.Accounts.{has_room, held_by, limit_of}
use Rattle.memory_objects.specs.Objects.{new_pages, standing}
use Rattle.memory_objects.proofs.questions.fit.Goals as goal

room_told : (n room held limit : ℕ) → held + room ≡ limit → leb n room ≡ leb (held + n) limit
room_told n room held limit is =
    ⊎_elim (λ (few : leb n room ≡ true). few ∙ sym (le-leb (held + n) limit (omega (arith, leb-true n room few, is))))
    (λ (many : leb n room ≡ false). many ∙ sym (lt-leb (held + n) limit (omega (arith, leb-false n room many, is))))
    (cases_Bool (leb n room))

pub are_of-requires : goal.are_of-requires
are_of-requires g c = c.requires.rising

pub new_pages-requires-clause-rising : goal.new_pages-requires-clause-rising
new_pages-requires-clause-rising g c = c.requires.rising

pub new_pages-requires-clause-sorted : goal.new_pages-requires-clause-sorted
new_pages-requires-clause-sorted g c = c.requires.sorted

pub room-requires : goal.room-requires
room-requires g c = c.requires.user

pub returns-then-are_of-clause-value : goal.returns-then-are_of-clause-value
returns-then-are_of-clause-value g c =
    let pages = new_pages (standing c.args.entries.now) c.args.numbers.now in
    let accounts = c.args.accounts.now in
    let user = c.args.user.0 in
    let held = held_by accounts user in
    ap (λ n. leb n c.from.result) c.new_pages.ensures ∙ ap (λ n. leb pages n) c.from.ensures
    ∙ room_told pages c.room.result held (limit_of accounts user) c.room.ensures
    ∙ ap (λ b. b && has_room accounts user pages) c.if-are_of.ensures

pub returns-then-are_of-clause-fits : goal.returns-then-are_of-clause-fits
returns-then-are_of-clause-fits g c is =
    let pages = new_pages (standing c.args.entries.now) c.args.numbers.now in
    let accounts = c.args.accounts.now in
    let user = c.args.user.0 in
    let held = held_by accounts user in
    record {
      user = user;
      known = c.requires.user;
      own = sym c.if-are_of.ensures;
      room = sym (ap (λ n. leb n c.from.result) c.new_pages.ensures ∙ ap (λ n. leb pages n) c.from.ensures
          ∙ room_told pages c.room.result held (limit_of accounts user) c.room.ensures) ∙ is;
    }

pub returns-else-are_of-clause-value : goal.returns-else-are_of-clause-value
returns-else-are_of-clause-value g c =
    let pages = new_pages (standing c.args.entries.now) c.args.numbers.now in
    c.if-are_of.false ∙ ap (λ b. b && has_room c.args.accounts.now c.args.user.0 pages)
    (sym c.if-are_of.false ∙ c.are_of.ensures)

pub returns-else-are_of-clause-fits : goal.returns-else-are_of-clause-fits
returns-else-are_of-clause-fits g c is = absurd (true≢false (sym is ∙ c.if-are_of.false))
