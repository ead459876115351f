use Rattle.std.proofs.Common.{◌≡◌, ◌≤◌, ℕ, List, true, subst, sym}
use Rattle.std.specs.List.{list_all}
use Rattle.memory_objects.specs.Objects.{MemoryEntry, object_at}
use Rattle.user_memory.specs.Changes.{HasLess, Settles, never, once}
use Rattle.user_memory.specs.Invariant.{is_kept}
use Rattle.user_memory.specs.Memory.{Memory, table_pins}
use Rattle.user_memory.proofs.Moves.{accounts_moved, all_mapped, has_user, pins_there, unpin, unpin_kept, unpin_less}
use Rattle.user_memory.proofs.Moves.{unpin_steps}
use Rattle.user_memory.proofs.Settled.{StepOf, memory_of, settle}
use Rattle.user_memory.proofs.Users.{limits_of, limits_stay}
use Rattle.user_memory.proofs.Rooms.{less_with, settles_with, with_room}
use Rattle.user_memory.proofs.memory.UserMemory.unpin.Goals as goal

pub unpin_by_table-requires-clause-pins : goal.unpin_by_table-requires-clause-pins
unpin_by_table-requires-clause-pins g c =
    let P : Memory → Type 0 = λ m. 1 ≤ table_pins m c.args.number in
    pins_there c.self.inside.objects.objects c.self.invariant.told c.args.number
    (subst P (sym c.self.view_is) c.requires.pins)

pub invariant_of-self : goal.invariant_of-self
invariant_of-self g c =
    let old = c.self.inside.objects.objects in
    let rows = c.self.inside.users.pages in
    let n = c.args.number in
    let is = sym c.unpin_by_table.ensures.objects in
    let U : List MemoryEntry → Type 0 = λ xs. list_all (has_user c.self.inside.accounts) xs ≡ true in
    let K : List MemoryEntry → Type 0 = λ xs. list_all is_kept xs ≡ true in
    accounts_moved c.self.inside.accounts c.unpin_by_table.new.accounts old c.unpin_by_table.new.self.objects
    c.self.invariant c.unpin_by_table.ensures.accounts
    (subst U is (all_mapped (has_user c.self.inside.accounts) (has_user c.self.inside.accounts)
    (unpin rows old c.self.invariant.told n) (λ o known. known) old c.self.invariant.users))
    (record {
      memory = c.unpin_by_table.ensures.invariant;
      kept = subst K is (unpin_kept rows old c.self.invariant.told n);
    })

pub returns-clause-less : goal.returns-clause-less
returns-clause-less g c =
    let old = c.self.inside.objects.objects in
    let rows = c.self.inside.users.pages in
    let before = limits_of c.self.inside.accounts in
    let after = limits_of c.unpin_by_table.new.accounts in
    let n = c.args.number in
    let P : Memory → Type 0 = λ m. 1 ≤ table_pins m n in
    let N : List MemoryEntry → Type 0 =
    λ xs. HasLess never (once n) (memory_of rows before old) (memory_of rows after xs) in
    let room = c.self.inside.users.room in
    let made = memory_of rows after c.unpin_by_table.new.self.objects in
    let V : Memory → Type 0 = λ m. HasLess never (once n) m (with_room room made) in
    subst V c.self.view_is (less_with room room (memory_of rows before old) made never (once n) (subst N (sym
    c.unpin_by_table.ensures.objects)
    (unpin_less rows before after old c.self.invariant.told n (subst P (sym c.self.view_is) c.requires.pins))))

pub returns-clause-settles : goal.returns-clause-settles
returns-clause-settles g c =
    let old = c.self.inside.objects.objects in
    let new = c.unpin_by_table.new.self.objects in
    let rows = c.self.inside.users.pages in
    let before = limits_of c.self.inside.accounts in
    let after = limits_of c.unpin_by_table.new.accounts in
    let n = c.args.number in
    let moves = c.unpin_by_table.ensures.accounts in
    let holds = c.unpin_by_table.ensures.pool in
    let S : List MemoryEntry → Type 0 = λ xs. (k i : ℕ) → StepOf rows (object_at old k) (object_at xs k) i in
    let room = c.self.inside.users.room in
    let made = memory_of rows after new in
    let V : Memory → Type 0 = λ m. Settles m (with_room room made) c.args.pool.now c.unpin_by_table.new.pool in
    subst V c.self.view_is
    (settles_with room room (memory_of rows before old) made c.args.pool.now c.unpin_by_table.new.pool (settle rows
    before after old new c.args.pool.now c.unpin_by_table.new.pool
    (limits_stay c.self.inside.accounts c.unpin_by_table.new.accounts moves.count moves.limits)
    c.self.invariant.told.memory.rising
    (subst S (sym c.unpin_by_table.ensures.objects) (unpin_steps rows old c.self.invariant.told n)) holds.count
    holds.holds holds.bytes c.unpin_by_table.ensures.invariant))
