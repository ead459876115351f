use Rattle.std.proofs.Common.{◌≡◌, ◌≤◌, ◌∙◌, true, subst, sym}
use Rattle.iofd_words.specs.Pins.{ObjectPage}
use Rattle.memory_objects.specs.Runs.{covers}
use Rattle.user_memory.specs.Changes.{HasRunReleased, Settles}
use Rattle.user_memory.specs.Memory.{Memory, access_pins, run_lies}
use Rattle.user_memory.proofs.Moves.{accounts_moved}
use Rattle.user_memory.proofs.Rooms.{run_released_with, settles_with, with_room}
use Rattle.user_memory.proofs.RunPages.{covered, lies_told}
use Rattle.user_memory.proofs.RunPins.{released_but, run_areas, run_tables, run_told, run_unpin_steps, run_users}
use Rattle.user_memory.proofs.Settled.{memory_of, settle}
use Rattle.user_memory.proofs.Users.{limits_of, limits_stay}
use Rattle.user_memory.proofs.memory.UserMemory.unpin_by_access.Goals as goal

pub unpin_by_access-requires-clause-run : goal.unpin_by_access-requires-clause-run
unpin_by_access-requires-clause-run g c =
    let run = c.args.run in
    let L : Memory → Type 0 = λ m. run_lies m run ≡ true in
    let P : Memory → Type 0 =
    λ m. (page : ObjectPage) → covers run page.memory page.index ≡ true → 1 ≤ access_pins m page in
    record {
      lies = sym (lies_told run c.self.inside.objects.objects c.self.invariant.told.memory.rising)
          ∙ subst L (sym c.self.view_is) c.requires.lies;
      pins = λ index within. subst P (sym c.self.view_is) c.requires.pins (record {
        memory = run.number;
        index = index;
      }) (covered run index within);
    }

pub invariant_of-self : goal.invariant_of-self
invariant_of-self g c =
    let old = c.self.inside.objects.objects in
    let new = c.unpin_by_access.new.self.objects in
    let n = c.args.run.number in
    let moved = c.unpin_by_access.ensures.objects in
    let but = released_but c.args.run old new moved in
    accounts_moved c.self.inside.accounts c.unpin_by_access.new.accounts old new c.self.invariant
    c.unpin_by_access.ensures.accounts
    (run_users old new n moved.pages moved.objects but c.self.inside.accounts c.self.invariant.told.memory.rising
    c.self.invariant.users)
    (run_told old new n moved.pages moved.objects but c.self.invariant.told c.unpin_by_access.ensures.invariant)

pub returns-clause-less : goal.returns-clause-less
returns-clause-less g c =
    let old = c.self.inside.objects.objects in
    let new = c.unpin_by_access.new.self.objects in
    let rows = c.self.inside.users.pages in
    let run = c.args.run in
    let moved = c.unpin_by_access.ensures.objects in
    let but = released_but run old new moved in
    let room = c.self.inside.users.room in
    let before = memory_of rows (limits_of c.self.inside.accounts) old in
    let made = memory_of rows (limits_of c.unpin_by_access.new.accounts) new in
    let V : Memory → Type 0 = λ m. HasRunReleased run m (with_room room made) in
    subst V c.self.view_is (run_released_with room room before made run (record {
      rows = c.unpin_by_access.ensures.rows;
      areas = run_areas old new run.number moved.pages moved.objects but;
      pins = run_tables old new run.number moved.pages moved.objects but;
      access = λ page. c.unpin_by_access.ensures.pins page.memory page.index;
    }))

pub returns-clause-settles : goal.returns-clause-settles
returns-clause-settles g c =
    let old = c.self.inside.objects.objects in
    let new = c.unpin_by_access.new.self.objects in
    let rows = c.self.inside.users.pages in
    let before = limits_of c.self.inside.accounts in
    let after = limits_of c.unpin_by_access.new.accounts in
    let run = c.args.run in
    let moved = c.unpin_by_access.ensures.objects in
    let but = released_but run old new moved in
    let moves = c.unpin_by_access.ensures.accounts in
    let holds = c.unpin_by_access.ensures.pool in
    let kept = c.unpin_by_access.ensures.invariant in
    let told = run_told old new run.number moved.pages moved.objects but c.self.invariant.told kept in
    let room = c.self.inside.users.room in
    let made = memory_of rows after new in
    let V : Memory → Type 0 = λ m. Settles m (with_room room made) c.args.pool.now c.unpin_by_access.new.pool in
    subst V c.self.view_is
    (settles_with room room (memory_of rows before old) made c.args.pool.now c.unpin_by_access.new.pool (settle rows
    before after old new c.args.pool.now c.unpin_by_access.new.pool
    (limits_stay c.self.inside.accounts c.unpin_by_access.new.accounts moves.count moves.limits)
    c.self.invariant.told.memory.rising
    (run_unpin_steps rows run old new c.self.invariant.told told moved but) holds.count holds.holds holds.bytes kept))
