use Rattle.std.proofs.Common.{◌≡◌, ◌∙◌, List, cond, length, true, ltb, subst, sym, ap, arith}
use Rattle.std.specs.Prelude.{IsSome}
use Rattle.std.specs.List.{list_all}
use Rattle.iofd_words.specs.Files.{numbered}
use Rattle.iofd_words.specs.Frames.{frame_at, has_pages}
use Rattle.iofd_words.specs.Pages.{page_of}
use Rattle.mem_account.specs.declared.Account.{Account}
use Rattle.memory_objects.specs.Invariant.{MemoryInvariant}
use Rattle.memory_objects.specs.Objects.{MemoryEntry, are_below}
use Rattle.pinned_pages.specs.Pages.{ObjectPages, pinned_count}
use Rattle.user_memory.specs.Adding.{charged_for}
use Rattle.user_memory.specs.Changes.{HasObject, Settles}
use Rattle.user_memory.specs.Invariant.{AccountsTell}
use Rattle.user_memory.specs.Memory as memory
use Rattle.user_memory.specs.Memory.{IsBacked, Memory}
use Rattle.user_memory.proofs.Added.{add_object, add_settles, add_tell, added_is, charged_limits, may_pin, none_pinned}
use Rattle.user_memory.proofs.Added.{rises_told}
use Rattle.user_memory.proofs.Settled.{memory_of}
use Rattle.user_memory.proofs.Users.{limits_of, user_known}
use Rattle.user_memory.proofs.Rooms.{backed_without, object_with, settles_with, with_room}
use Rattle.user_memory.proofs.memory.UserMemory.add.Goals as goal

pub object_pages-requires-clause-may : goal.object_pages-requires-clause-may
object_pages-requires-clause-may g c = λ pinned.
    let is = sym c.self.view_is in
    let row = c.args.row in
    let Present : Memory → Type 0 =
    λ m. has_pages (frame_at m.pages) row.user (page_of row.va) row.count ≡ true in
    let Room : Memory → Type 0 = λ m. memory.has_room m row.user row.count ≡ true in
    let Backed : Memory → Type 0 = λ m. IsBacked m c.args.pool.now.holds in
    may_pin c.self.inside.users.pages c.self.inside.accounts c.self.inside.objects.objects c.self.invariant
    c.args.pool.now.holds row c.requires.end
    (subst Present is (c.requires.present pinned)) (subst Room is (c.requires.room pinned))
    (backed_without c.self.inside.users.room (memory_of c.self.inside.users.pages (limits_of c.self.inside.accounts)
    c.self.inside.objects.objects) c.args.pool.now.holds (subst Backed is c.requires.backed))
    c.facts.ensures
    (omega (arith, c.facts-2.ensures, ap length c.reserve.ensures.objects))

pub insert-requires-clause-rises : goal.insert-requires-clause-rises
insert-requires-clause-rises g c =
    let Rises : Memory → Type 0 =
    λ m. list_all (λ other. ltb other.number c.args.row.number) (memory.rows_of m) ≡ true in
    let B : List MemoryEntry → Type 0 = λ xs. are_below xs c.args.row.number ≡ true in
    subst B (sym c.reserve.ensures.objects) (rises_told c.self.inside.objects.objects c.args.row.number
    (subst Rises (sym c.self.view_is) c.requires.rises))

pub invariant_of-self-2 : goal.invariant_of-self-2
invariant_of-self-2 g c =
    let rows = c.self.inside.users.pages in
    let accounts = c.self.inside.accounts in
    let old = c.self.inside.objects.objects in
    let row = c.args.row in
    let Present : Memory → Type 0 =
    λ m. has_pages (frame_at m.pages) row.user (page_of row.va) row.count ≡ true in
    let Rises : Memory → Type 0 = λ m. list_all (λ other. ltb other.number row.number) (memory.rows_of m) ≡ true in
    let User : Memory → Type 0 = λ m. IsSome (numbered m.limits row.user.0) in
    let present = λ (p : c.args.pinned ≡ true). subst Present (sym c.self.view_is) (c.requires.present p) in
    let below = rises_told old row.number (subst Rises (sym c.self.view_is) c.requires.rises) in
    let known = user_known accounts row.user.0 (subst User (sym c.self.view_is) c.requires.user) in
    let is = added_is rows row c.args.pinned c.reserve.new.self.objects old c.insert.new.self.objects
    c.in_ok-pages.pages c.insert.ensures.objects c.reserve.ensures.objects c.in_ok-pages.ensures.pages in
    let I : List MemoryEntry → Type 0 = λ xs. MemoryInvariant xs in
    let N : List MemoryEntry → Type 0 = λ xs. AccountsTell (charged_for accounts row c.args.pinned) xs in
    let A : List Account → Type 0 = λ xs. AccountsTell xs c.insert.new.self.objects in
    subst A (sym c.in_ok-pages.ensures.accounts)
    (subst N (sym is) (add_tell rows accounts old c.self.invariant row c.args.pinned c.in_ok-pages.pages.capacity
    c.in_ok-pages.pages.room
    present below known (omega (arith, c.requires.end)) (subst I is c.insert.ensures.invariant)))

pub returns-clause-object : goal.returns-clause-object
returns-clause-object g c =
    let rows = c.self.inside.users.pages in
    let accounts = c.self.inside.accounts in
    let old = c.self.inside.objects.objects in
    let row = c.args.row in
    let Present : Memory → Type 0 =
    λ m. has_pages (frame_at m.pages) row.user (page_of row.va) row.count ≡ true in
    let Rises : Memory → Type 0 = λ m. list_all (λ other. ltb other.number row.number) (memory.rows_of m) ≡ true in
    let present = λ (p : c.args.pinned ≡ true). subst Present (sym c.self.view_is) (c.requires.present p) in
    let below = rises_told old row.number (subst Rises (sym c.self.view_is) c.requires.rises) in
    let is = added_is rows row c.args.pinned c.reserve.new.self.objects old c.insert.new.self.objects
    c.in_ok-pages.pages c.insert.ensures.objects c.reserve.ensures.objects c.in_ok-pages.ensures.pages in
    let after = limits_of c.object_pages.new.accounts in
    let N : List MemoryEntry → Type 0 = λ xs. HasObject (cond c.args.pinned 1 0) row
    (memory_of rows (limits_of accounts) old) (memory_of rows after xs) in
    let room = c.self.inside.users.room in
    let made = memory_of rows after c.insert.new.self.objects in
    let V : Memory → Type 0 = λ m. HasObject (cond c.args.pinned 1 0) row m (with_room room made) in
    subst V c.self.view_is (object_with room room (memory_of rows (limits_of accounts) old) made
    (cond c.args.pinned 1 0) row (subst N (sym is)
    (add_object rows accounts old c.self.invariant row c.args.pinned c.in_ok-pages.pages.capacity
    c.in_ok-pages.pages.room present below
    (limits_of accounts) after)))

pub returns-clause-settles : goal.returns-clause-settles
returns-clause-settles g c =
    let rows = c.self.inside.users.pages in
    let accounts = c.self.inside.accounts in
    let old = c.self.inside.objects.objects in
    let row = c.args.row in
    let Present : Memory → Type 0 =
    λ m. has_pages (frame_at m.pages) row.user (page_of row.va) row.count ≡ true in
    let Rises : Memory → Type 0 = λ m. list_all (λ other. ltb other.number row.number) (memory.rows_of m) ≡ true in
    let User : Memory → Type 0 = λ m. IsSome (numbered m.limits row.user.0) in
    let present = λ (p : c.args.pinned ≡ true). subst Present (sym c.self.view_is) (c.requires.present p) in
    let below = rises_told old row.number (subst Rises (sym c.self.view_is) c.requires.rises) in
    let known = user_known accounts row.user.0 (subst User (sym c.self.view_is) c.requires.user) in
    let is = added_is rows row c.args.pinned c.reserve.new.self.objects old c.insert.new.self.objects
    c.in_ok-pages.pages c.insert.ensures.objects c.reserve.ensures.objects c.in_ok-pages.ensures.pages in
    let after = limits_of c.object_pages.new.accounts in
    let same = ap limits_of c.in_ok-pages.ensures.accounts
    ∙ charged_limits rows accounts old c.self.invariant row c.args.pinned
    c.in_ok-pages.pages.capacity c.in_ok-pages.pages.room present below known in
    let I : List MemoryEntry → Type 0 = λ xs. MemoryInvariant xs in
    let N : List MemoryEntry → Type 0 = λ xs. Settles (memory_of rows (limits_of accounts) old)
    (memory_of rows after xs) c.args.pool.now c.object_pages.new.pool in
    let room = c.self.inside.users.room in
    let made = memory_of rows after c.insert.new.self.objects in
    let V : Memory → Type 0 = λ m. Settles m (with_room room made) c.args.pool.now c.object_pages.new.pool in
    subst V c.self.view_is
    (settles_with room room (memory_of rows (limits_of accounts) old) made c.args.pool.now c.object_pages.new.pool
    (subst N (sym is) (add_settles rows accounts old c.self.invariant row c.args.pinned c.in_ok-pages.pages.capacity
    c.in_ok-pages.pages.room
    present below after c.args.pool.now c.object_pages.new.pool same c.in_ok-pages.ensures.pool
    (subst I is c.insert.ensures.invariant))))

pub insert-requires-clause-access : goal.insert-requires-clause-access
insert-requires-clause-access g c = ap (λ (p : ObjectPages). p.access) c.in_ok-pages.ensures.pages

pub insert-requires-clause-unpinned : goal.insert-requires-clause-unpinned
insert-requires-clause-unpinned g c none =
    let made = c.in_ok-pages.ensures.pages in
    ap pinned_count made ∙ none_pinned c.self.inside.users.pages c.args.row c.args.pinned
    (sym (ap (λ (p : ObjectPages). p.table_pins) made) ∙ none)
