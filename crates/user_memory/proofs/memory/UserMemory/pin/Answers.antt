use Rattle.std.proofs.Common.{◌≡◌, ◌≤◌, ◌+◌, ℕ, List, true, false, subst, sym}
use Rattle.std.specs.List.{list_all, list_any}
use Rattle.memory_objects.specs.Backed.{HoldsMove}
use Rattle.memory_objects.specs.Invariant.{MemoryInvariant}
use Rattle.memory_objects.specs.Objects.{MemoryEntry, can_pin, times_of}
use Rattle.memory_objects.proofs.Reserved.{after_error}
use Rattle.user_memory.specs.Changes.{HasPins, SameObjects, Settles}
use Rattle.user_memory.specs.Invariant.{is_kept}
use Rattle.user_memory.specs.Memory as memory
use Rattle.user_memory.specs.Memory.{IsBacked, Memory, are_of, areas_over, lacks_page, newly_pinned, rows_at}
use Rattle.user_memory.specs.Memory.{table_pins}
use Rattle.user_memory.proofs.Moves.{accounts_moved, all_mapped, has_user}
use Rattle.user_memory.proofs.Pinned.{grown_pass, grown_same, grown_tell, grown_told, pin_allowed, pin_kept, pin_more}
use Rattle.user_memory.proofs.Pinned.{pin_more_pins, pin_settles, pinnable, ready_old}
use Rattle.user_memory.proofs.Settled.{memory_of}
use Rattle.user_memory.proofs.Users.{limits_of, limits_stay}
use Rattle.user_memory.proofs.Rooms.{backed_without, pins_with, same_with, settles_with, with_room}
use Rattle.user_memory.proofs.memory.UserMemory.pin.Goals as goal

pub invariant_of-self : goal.invariant_of-self
invariant_of-self g c =
    grown_tell c.self.inside.users.pages (limits_of c.self.inside.accounts) c.self.inside.objects.objects
    c.reserve_frames.new.self.objects c.reserve_frames.ensures.objects c.self.inside.accounts c.self.invariant
    c.reserve_frames.ensures.pins c.reserve_frames.ensures.invariant

pub returns-in_err-reserve_frames-clause-err : goal.returns-in_err-reserve_frames-clause-err
returns-in_err-reserve_frames-clause-err g c =
    let rows = c.self.inside.users.pages in
    let limits = limits_of c.self.inside.accounts in
    let grown = c.reserve_frames.new.self.objects in
    let room = c.self.inside.users.room in
    let after = memory_of rows limits grown in
    let V : Memory → Type 0 = λ m. SameObjects m (with_room room after) in
    after_error c.from_residual.result (SameObjects c.args.self.now (with_room room after))
    (subst V c.self.view_is (same_with room room (memory_of rows limits c.self.inside.objects.objects) after
    (grown_same rows limits c.self.inside.objects.objects grown c.reserve_frames.ensures.objects
    c.reserve_frames.ensures.rows c.reserve_frames.ensures.pins c.reserve_frames.ensures.invariant)))

pub pin_by_table-requires : goal.pin_by_table-requires
pin_by_table-requires g c =
    let accounts = c.self.inside.accounts in
    let user = c.args.user in
    let ns = c.args.numbers.now in
    let Own : Memory → Type 0 = λ m. are_of user (rows_at m ns) ≡ true in
    let Present : Memory → Type 0 = λ m. list_any (lacks_page m) ns ≡ false in
    let Room : Memory → Type 0 = λ m. memory.has_room m user (newly_pinned m ns) ≡ true in
    let Areas : Memory → Type 0 = λ m. (k : ℕ) → table_pins m k + times_of k ns ≤ areas_over m k in
    let Backed : Memory → Type 0 = λ m. IsBacked m c.args.pool.now.holds in
    let is = sym c.self.view_is in
    let may = pinnable c.self.inside.users.pages accounts c.self.inside.objects.objects c.self.invariant ns
    c.reserve_frames.new.self.objects user c.args.pool.now.holds
    c.reserve_frames.ensures.objects c.reserve_frames.ensures.invariant c.in_ok-reserve_frames.ensures.ok
    (subst Own is c.requires.own) (subst Present is c.requires.present) (subst Room is c.requires.room)
    (backed_without c.self.inside.users.room (memory_of c.self.inside.users.pages (limits_of accounts)
    c.self.inside.objects.objects) c.args.pool.now.holds (subst Backed is c.requires.backed))
    c.facts.ensures c.facts-2.ensures in
    pin_allowed c.self.inside.users.pages accounts c.self.inside.objects.objects c.self.invariant ns
    c.reserve_frames.new.self.objects c.args.pool.now.holds c.reserve_frames.ensures.objects may
    (subst Areas is c.requires.areas)

pub invariant_of-self-2 : goal.invariant_of-self-2
invariant_of-self-2 g c =
    let rows = c.self.inside.users.pages in
    let accounts = c.self.inside.accounts in
    let limits = limits_of accounts in
    let old = c.self.inside.objects.objects in
    let grown = c.reserve_frames.new.self.objects in
    let ns = c.args.numbers.now in
    let grows = c.reserve_frames.ensures.objects in
    let tell = grown_tell rows limits old grown grows accounts c.self.invariant c.reserve_frames.ensures.pins
    c.reserve_frames.ensures.invariant in
    let Present : Memory → Type 0 = λ m. list_any (lacks_page m) ns ≡ false in
    let ready = grown_pass rows limits old grown grows (can_pin rows) (λ o h. h) ns
    (ready_old rows accounts old c.self.invariant ns (subst Present (sym c.self.view_is) c.requires.present)) in
    let is = sym c.pin_by_table.ensures.objects in
    let U : List MemoryEntry → Type 0 = λ xs. list_all (has_user accounts) xs ≡ true in
    let K : List MemoryEntry → Type 0 = λ xs. list_all is_kept xs ≡ true in
    accounts_moved accounts c.pin_by_table.new.accounts grown c.pin_by_table.new.self.objects tell
    c.pin_by_table.ensures.accounts
    (subst U is (all_mapped (has_user accounts) (has_user accounts) (pin_more rows grown tell.told ns ready)
    (λ o known. known) grown tell.users))
    (record { memory = c.pin_by_table.ensures.invariant; kept = subst K is (pin_kept rows grown tell.told ns ready) })

pub returns-clause-limits : goal.returns-clause-limits
returns-clause-limits g c =
    let L : Memory → Type 0 = λ m. limits_of c.pin_by_table.new.accounts ≡ m.limits in
    subst L c.self.view_is (limits_stay c.self.inside.accounts c.pin_by_table.new.accounts
    c.pin_by_table.ensures.accounts.count c.pin_by_table.ensures.accounts.limits)

pub returns-clause-pins : goal.returns-clause-pins
returns-clause-pins g c =
    let rows = c.self.inside.users.pages in
    let accounts = c.self.inside.accounts in
    let limits = limits_of accounts in
    let after = limits_of c.pin_by_table.new.accounts in
    let old = c.self.inside.objects.objects in
    let grown = c.reserve_frames.new.self.objects in
    let ns = c.args.numbers.now in
    let grows = c.reserve_frames.ensures.objects in
    let told = grown_told rows limits old grown grows c.self.invariant.told c.reserve_frames.ensures.invariant in
    let Present : Memory → Type 0 = λ m. list_any (lacks_page m) ns ≡ false in
    let ready = grown_pass rows limits old grown grows (can_pin rows) (λ o h. h) ns
    (ready_old rows accounts old c.self.invariant ns (subst Present (sym c.self.view_is) c.requires.present)) in
    let Areas : Memory → Type 0 = λ m. (k : ℕ) → table_pins m k + times_of k ns ≤ areas_over m k in
    let N : List MemoryEntry → Type 0 =
    λ xs. HasPins (λ n. times_of n ns) (memory_of rows limits old) (memory_of rows after xs) in
    let room = c.self.inside.users.room in
    let made = memory_of rows after c.pin_by_table.new.self.objects in
    let V : Memory → Type 0 = λ m. HasPins (λ n. times_of n ns) m (with_room room made) in
    subst V c.self.view_is (pins_with room room (memory_of rows limits old) made (λ n. times_of n ns) (subst N (sym
    c.pin_by_table.ensures.objects)
    (pin_more_pins rows limits after old grown grows told ns ready c.reserve_frames.ensures.rows
    (subst Areas (sym c.self.view_is) c.requires.areas))))

pub returns-clause-settles : goal.returns-clause-settles
returns-clause-settles g c =
    let rows = c.self.inside.users.pages in
    let accounts = c.self.inside.accounts in
    let limits = limits_of accounts in
    let after = limits_of c.pin_by_table.new.accounts in
    let old = c.self.inside.objects.objects in
    let grown = c.reserve_frames.new.self.objects in
    let ns = c.args.numbers.now in
    let grows = c.reserve_frames.ensures.objects in
    let told = grown_told rows limits old grown grows c.self.invariant.told c.reserve_frames.ensures.invariant in
    let Present : Memory → Type 0 = λ m. list_any (lacks_page m) ns ≡ false in
    let ready = grown_pass rows limits old grown grows (can_pin rows) (λ o h. h) ns
    (ready_old rows accounts old c.self.invariant ns (subst Present (sym c.self.view_is) c.requires.present)) in
    let is = c.pin_by_table.ensures.objects in
    let H : List MemoryEntry → Type 0 = λ xs. HoldsMove grown xs c.args.pool.now c.pin_by_table.new.pool in
    let I : List MemoryEntry → Type 0 = λ xs. MemoryInvariant xs in
    let N : List MemoryEntry → Type 0 =
    λ xs. Settles (memory_of rows limits old) (memory_of rows after xs) c.args.pool.now c.pin_by_table.new.pool in
    let room = c.self.inside.users.room in
    let made = memory_of rows after c.pin_by_table.new.self.objects in
    let V : Memory → Type 0 = λ m. Settles m (with_room room made) c.args.pool.now c.pin_by_table.new.pool in
    let same_limits = limits_stay accounts c.pin_by_table.new.accounts c.pin_by_table.ensures.accounts.count
    c.pin_by_table.ensures.accounts.limits in
    subst V c.self.view_is
    (settles_with room room (memory_of rows limits old) made c.args.pool.now c.pin_by_table.new.pool
    (subst N (sym is) (pin_settles rows limits after old grown grows told ns ready c.args.pool.now
    c.pin_by_table.new.pool same_limits c.self.invariant.told.memory c.reserve_frames.ensures.pins
    (subst H is c.pin_by_table.ensures.pool) (subst I is c.pin_by_table.ensures.invariant))))

pub returns-in_err-reserve_frames-clause-memory : goal.returns-in_err-reserve_frames-clause-memory
returns-in_err-reserve_frames-clause-memory g c =
    let V : Memory → Type 0 = λ m. list_all (memory.has_memory m) c.args.numbers.now ≡ false in
    after_error c.from_residual.result (list_all (memory.has_memory c.args.self.now) c.args.numbers.now ≡ false)
    (subst V c.self.view_is c.in_err-reserve_frames.ensures.err)
