use Rattle.std.proofs.Common.{◌≡◌, ◌≤◌, ◌+◌, ℕ, List, [], ◌∷◌, true, get_or, refl, subst, sym, ap}
use Rattle.std.specs.List.{list_all}
use Rattle.memory_objects.specs.Objects.{MemoryEntry, object_at}
use Rattle.user_memory.specs.Changes.{HasLess, Settles, never, once}
use Rattle.user_memory.specs.Invariant.{is_kept}
use Rattle.user_memory.specs.Memory.{Memory, access_pins, areas_over, table_pins}
use Rattle.user_memory.proofs.Moves.{accounts_stay, areas_there, has_user}
use Rattle.user_memory.proofs.Removed.{may_go_there, remove_less, remove_steps, tests_stay}
use Rattle.user_memory.proofs.Settled.{StepOf, memory_of, settle}
use Rattle.user_memory.proofs.Users.{limits_of}
use Rattle.user_memory.proofs.Rooms.{less_with, settles_with, with_room}
use Rattle.user_memory.proofs.memory.UserMemory.remove_area.Goals as goal

pub remove_area-requires-clause-pins : goal.remove_area-requires-clause-pins
remove_area-requires-clause-pins g c =
    let P : Memory → Type 0 = λ m. table_pins m c.args.number + 1 ≤ areas_over m c.args.number in
    areas_there c.self.inside.objects.objects c.self.invariant.told c.args.number
    (subst P (sym c.self.view_is) c.requires.pins)

pub remove_area-requires-clause-access : goal.remove_area-requires-clause-access
remove_area-requires-clause-access g c =
    let n = c.args.number in
    let P : Memory → Type 0 = λ m. table_pins m n + 1 ≤ areas_over m n in
    let F : Memory → Type 0 = λ m. areas_over m n ≡ 1
    → (i : ℕ) → access_pins m (record { memory = n; index = i }) ≡ 0 in
    may_go_there c.self.inside.users.pages c.self.inside.objects.objects c.self.invariant.told n
    (subst P (sym c.self.view_is) c.requires.pins) (subst F (sym c.self.view_is) c.requires.access)
    c.self.invariant.told.kept

pub invariant_of-self : goal.invariant_of-self
invariant_of-self g c =
    let old = c.self.inside.objects.objects in
    let numbers = c.args.number ∷ [] in
    let is = sym c.remove_area.ensures.objects in
    let U : List MemoryEntry → Type 0 = λ xs. list_all (has_user c.self.inside.accounts) xs ≡ true in
    let K : List MemoryEntry → Type 0 = λ xs. list_all is_kept xs ≡ true in
    accounts_stay c.self.inside.accounts old c.remove_area.new.self.objects c.self.invariant
    c.remove_area.ensures.pins.pinned
    (subst U is (tests_stay numbers old (has_user c.self.inside.accounts) (λ o known. known) c.self.invariant.users))
    (record {
      memory = c.remove_area.ensures.invariant;
      kept = subst K is (tests_stay numbers old is_kept (λ o kept. kept) c.self.invariant.told.kept);
    })

pub returns-clause-less : goal.returns-clause-less
returns-clause-less g c =
    let old = c.self.inside.objects.objects in
    let rows = c.self.inside.users.pages in
    let limits = limits_of c.self.inside.accounts in
    let n = c.args.number in
    let P : Memory → Type 0 = λ m. table_pins m n + 1 ≤ areas_over m n in
    let F : Memory → Type 0 = λ m. areas_over m n ≡ 1
    → (i : ℕ) → access_pins m (record { memory = n; index = i }) ≡ 0 in
    let N : List MemoryEntry → Type 0 =
    λ xs. HasLess (once n) never (memory_of rows limits old) (memory_of rows limits xs) in
    let room = c.self.inside.users.room in
    let made = memory_of rows limits c.remove_area.new.self.objects in
    let V : Memory → Type 0 = λ m. HasLess (once n) never m (with_room room made) in
    subst V c.self.view_is (less_with room room (memory_of rows limits old) made (once n) never (subst N (sym
    c.remove_area.ensures.objects)
    (remove_less rows old c.self.invariant.told n (subst P (sym c.self.view_is) c.requires.pins)
    (subst F (sym c.self.view_is) c.requires.access) limits limits)))

pub returns-clause-settles : goal.returns-clause-settles
returns-clause-settles g c = λ pool.
    let old = c.self.inside.objects.objects in
    let new = c.remove_area.new.self.objects in
    let rows = c.self.inside.users.pages in
    let limits = limits_of c.self.inside.accounts in
    let n = c.args.number in
    let P : Memory → Type 0 = λ m. table_pins m n + 1 ≤ areas_over m n in
    let F : Memory → Type 0 = λ m. areas_over m n ≡ 1
    → (i : ℕ) → access_pins m (record { memory = n; index = i }) ≡ 0 in
    let S : List MemoryEntry → Type 0 = λ xs. (k i : ℕ) → StepOf rows (object_at old k) (object_at xs k) i in
    let room = c.self.inside.users.room in
    let made = memory_of rows limits new in
    let V : Memory → Type 0 = λ m. Settles m (with_room room made) pool pool in
    subst V c.self.view_is
    (settles_with room room (memory_of rows limits old) made pool pool (settle rows limits limits old new pool pool
    refl c.self.invariant.told.memory.rising
    (subst S (sym c.remove_area.ensures.objects)
    (remove_steps rows old c.self.invariant.told n (subst P (sym c.self.view_is) c.requires.pins)
    (subst F (sym c.self.view_is) c.requires.access)))
    refl (λ frame. ap (λ k. get_or pool.holds frame 0 + k) (sym (c.remove_area.ensures.pins.pins frame))) refl
    c.remove_area.ensures.invariant))
