use Rattle.std.proofs.Common.{◌≡◌, ◌<◌, ◌+◌, ◌^◌, ◌∙◌, [], ◌∷◌, IfSome, eqb, length, true, false, subst, sym, arith}
use Rattle.std.specs.Prelude.{is_none}
use Rattle.std.specs.List.{find, list_any}
use Rattle.iofd_words.specs.Pins.{ObjectPage}
use Rattle.iofd_words.specs.declared.rows.MemoryObject.{MemoryObject}
use Rattle.memory_objects.specs.Runs.{covers}
use Rattle.memory_objects.proofs.Reserved.{after_error}
use Rattle.user_memory.specs.Changes.{HasRunPinned, SameObjects, Settles}
use Rattle.user_memory.specs.Memory as memory
use Rattle.user_memory.specs.Memory.{IsBacked, Memory, access_pins, frame_now, new_in_runs, rows_of, run_lies}
use Rattle.user_memory.proofs.Moves.{accounts_moved}
use Rattle.user_memory.proofs.Rooms.{backed_without, run_pinned_with, same_with, settles_with, with_room}
use Rattle.user_memory.proofs.RunAsked.{run_allowed, run_lacked}
use Rattle.user_memory.proofs.RunPages.{lies_told}
use Rattle.user_memory.proofs.RunPins.{grown_moved, pinned_but, run_areas, run_grown_same, run_grown_tell}
use Rattle.user_memory.proofs.RunPins.{run_pin_steps, run_tables, run_told, run_users}
use Rattle.user_memory.proofs.Settled.{memory_of, settle}
use Rattle.user_memory.proofs.Users.{limits_of, limits_stay}
use Rattle.user_memory.proofs.memory.UserMemory.pin_by_access.Goals as goal

pub invariant_of-self : goal.invariant_of-self
invariant_of-self g c =
    let told = c.reserve_for_access.ensures in
    run_grown_tell c.self.inside.users.pages (limits_of c.self.inside.accounts) c.args.run.number
    c.self.inside.objects.objects c.reserve_for_access.new.self.objects told.objects told.pins told.invariant
    c.self.inside.accounts c.self.invariant

pub returns-in_err-reserve_for_access-clause-err : goal.returns-in_err-reserve_for_access-clause-err
returns-in_err-reserve_for_access-clause-err g c =
    let told = c.reserve_for_access.ensures in
    let rows = c.self.inside.users.pages in
    let limits = limits_of c.self.inside.accounts in
    let old = c.self.inside.objects.objects in
    let grown = c.reserve_for_access.new.self.objects in
    let room = c.self.inside.users.room in
    let after = memory_of rows limits grown in
    let V : Memory → Type 0 = λ m. SameObjects m (with_room room after) in
    after_error c.from_residual.result (SameObjects c.args.self.now (with_room room after))
    (subst V c.self.view_is (same_with room room (memory_of rows limits old) after
    (run_grown_same rows limits c.args.run.number old grown told.objects told.pins told.invariant told.rows)))

pub returns-in_err-reserve_for_access-clause-memory : goal.returns-in_err-reserve_for_access-clause-memory
returns-in_err-reserve_for_access-clause-memory g c =
    let run = c.args.run in
    let m = memory_of c.self.inside.users.pages (limits_of c.self.inside.accounts) c.self.inside.objects.objects in
    let V : Memory → Type 0 = λ m. (page : ObjectPage) × (covers run page.memory page.index ≡ true)
    × (access_pins m page ≡ 0) in
    after_error c.from_residual.result (V c.args.self.now)
    (subst V c.self.view_is (run_lacked m run c.in_err-reserve_for_access.ensures.err))

pub reserve_for_access-requires : goal.reserve_for_access-requires
reserve_for_access-requires g c =
    let L : Memory → Type 0 = λ m. run_lies m c.args.run ≡ true in
    sym (lies_told c.args.run c.self.inside.objects.objects c.self.invariant.told.memory.rising)
    ∙ subst L (sym c.self.view_is) c.requires.lies

pub pin_by_access-requires : goal.pin_by_access-requires
pin_by_access-requires g c =
    let told = c.reserve_for_access.ensures in
    let rows = c.self.inside.users.pages in
    let accounts = c.self.inside.accounts in
    let old = c.self.inside.objects.objects in
    let run = c.args.run in
    let holds = c.args.pool.now.holds in
    let is = sym c.self.view_is in
    let Lies : Memory → Type 0 = λ m. run_lies m run ≡ true in
    let Present : Memory → Type 0 =
    λ m. list_any (λ page. is_none (frame_now m page)) (new_in_runs m (run ∷ [])) ≡ false in
    let Room : Memory → Type 0 = λ m. IfSome (find (λ (row : MemoryObject). eqb row.number run.number) (rows_of m))
    (λ row. memory.has_room m row.user (length (new_in_runs m (run ∷ []))) ≡ true) in
    let Few : Memory → Type 0 =
    λ m. (page : ObjectPage) → covers run page.memory page.index ≡ true → access_pins m page + 1 < 2 ^ 64 in
    let Backed : Memory → Type 0 = λ m. IsBacked m holds in
    run_allowed rows accounts old c.self.invariant run (subst Lies is c.requires.lies)
    c.reserve_for_access.new.self.objects holds told.objects told.pins told.invariant told.rows
    c.in_ok-reserve_for_access.ensures.ok (subst Present is c.requires.present) (subst Room is c.requires.room)
    (subst Few is c.requires.few)
    (backed_without c.self.inside.users.room (memory_of rows (limits_of accounts) old) holds
    (subst Backed is c.requires.backed))
    c.facts.ensures c.facts-2.ensures

pub invariant_of-self-2 : goal.invariant_of-self-2
invariant_of-self-2 g c =
    let told = c.reserve_for_access.ensures in
    let rows = c.self.inside.users.pages in
    let accounts = c.self.inside.accounts in
    let grown = c.reserve_for_access.new.self.objects in
    let new = c.pin_by_access.new.self.objects in
    let run = c.args.run in
    let moved = c.pin_by_access.ensures.objects in
    let but = pinned_but run rows grown new moved in
    let tell = run_grown_tell rows (limits_of accounts) run.number c.self.inside.objects.objects grown told.objects
    told.pins told.invariant accounts c.self.invariant in
    accounts_moved accounts c.pin_by_access.new.accounts grown new tell c.pin_by_access.ensures.accounts
    (run_users grown new run.number moved.pages moved.objects but accounts tell.told.memory.rising tell.users)
    (run_told grown new run.number moved.pages moved.objects but tell.told c.pin_by_access.ensures.invariant)

pub returns-clause-limits : goal.returns-clause-limits
returns-clause-limits g c =
    let L : Memory → Type 0 = λ m. limits_of c.pin_by_access.new.accounts ≡ m.limits in
    subst L c.self.view_is (limits_stay c.self.inside.accounts c.pin_by_access.new.accounts
    c.pin_by_access.ensures.accounts.count c.pin_by_access.ensures.accounts.limits)

pub returns-clause-more : goal.returns-clause-more
returns-clause-more g c =
    let told = c.reserve_for_access.ensures in
    let rows = c.self.inside.users.pages in
    let old = c.self.inside.objects.objects in
    let grown = c.reserve_for_access.new.self.objects in
    let new = c.pin_by_access.new.self.objects in
    let run = c.args.run in
    let moved = grown_moved run rows old grown new told.objects c.pin_by_access.ensures.objects in
    let but = pinned_but run rows old new moved in
    let room = c.self.inside.users.room in
    let before = memory_of rows (limits_of c.self.inside.accounts) old in
    let made = memory_of rows (limits_of c.pin_by_access.new.accounts) new in
    let V : Memory → Type 0 = λ m. HasRunPinned run m (with_room room made) in
    subst V c.self.view_is (run_pinned_with room room before made run (record {
      rows = c.pin_by_access.ensures.rows ∙ told.rows;
      areas = run_areas old new run.number moved.pages moved.objects but;
      pins = run_tables old new run.number moved.pages moved.objects but;
      access = λ page.
          let more = c.pin_by_access.ensures.pins page.memory page.index in
          let same = told.pins.access page.memory page.index in
          omega (arith, more, same);
    }))

pub returns-clause-settles : goal.returns-clause-settles
returns-clause-settles g c =
    let told = c.reserve_for_access.ensures in
    let rows = c.self.inside.users.pages in
    let before = limits_of c.self.inside.accounts in
    let after = limits_of c.pin_by_access.new.accounts in
    let old = c.self.inside.objects.objects in
    let grown = c.reserve_for_access.new.self.objects in
    let new = c.pin_by_access.new.self.objects in
    let run = c.args.run in
    let moved = grown_moved run rows old grown new told.objects c.pin_by_access.ensures.objects in
    let but = pinned_but run rows old new moved in
    let moves = c.pin_by_access.ensures.accounts in
    let holds = c.pin_by_access.ensures.pool in
    let kept = c.pin_by_access.ensures.invariant in
    let told_now = run_told old new run.number moved.pages moved.objects but c.self.invariant.told kept in
    let room = c.self.inside.users.room in
    let made = memory_of rows after new in
    let V : Memory → Type 0 = λ m. Settles m (with_room room made) c.args.pool.now c.pin_by_access.new.pool in
    subst V c.self.view_is
    (settles_with room room (memory_of rows before old) made c.args.pool.now c.pin_by_access.new.pool (settle rows
    before after old new c.args.pool.now c.pin_by_access.new.pool
    (limits_stay c.self.inside.accounts c.pin_by_access.new.accounts moves.count moves.limits)
    c.self.invariant.told.memory.rising
    (run_pin_steps rows run old new c.self.invariant.told told_now moved but) holds.count
    (λ frame. let each = holds.holds frame in let same = told.pins.pins frame in omega (arith, each, same))
    holds.bytes kept))
