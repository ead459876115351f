use Rattle.std.proofs.Common.{◌≡◌, ◌≤◌, ◌<◌, ◌+◌, ◌^◌, ℕ, List, [], ◌∷◌, true, false, subst, sym, arith}
use Rattle.std.specs.List.{list_all}
use Rattle.memory_objects.specs.Backed.{HoldsMove}
use Rattle.memory_objects.specs.Invariant.{MemoryInvariant}
use Rattle.memory_objects.specs.Objects.{MemoryEntry, can_pin}
use Rattle.memory_objects.proofs.Reserved.{after_error}
use Rattle.user_memory.specs.Changes.{HasShare, SameObjects, Settles}
use Rattle.user_memory.specs.Invariant.{is_kept}
use Rattle.user_memory.specs.Memory as memory
use Rattle.user_memory.specs.Memory.{IsBacked, Memory, are_of, areas_over, lacks_page, new_pages, rows_at}
use Rattle.user_memory.proofs.Moves.{accounts_moved, all_mapped, has_user}
use Rattle.user_memory.proofs.Pinned.{grown_areas, grown_pass, grown_same, grown_tell, grown_told, pin_kept, pin_more}
use Rattle.user_memory.proofs.Pinned.{pinnable, ready_old}
use Rattle.user_memory.proofs.Settled.{memory_of}
use Rattle.user_memory.proofs.Shared.{one_lacks, one_new, pinned_more, pinned_settles, room_there, shared_allowed}
use Rattle.user_memory.proofs.Shared.{shared_pass, shared_tell, shared_told}
use Rattle.user_memory.proofs.Users.{limits_of, limits_stay}
use Rattle.user_memory.proofs.Rooms.{backed_without, lacks_one, same_with, settles_with, share_with, with_room}
use Rattle.user_memory.proofs.memory.UserMemory.share_pinned.Goals as goal

pub invariant_of-self : goal.invariant_of-self
invariant_of-self g c =
    grown_tell c.self.inside.users.pages (limits_of c.self.inside.accounts) c.self.inside.objects.objects
    c.reserve_frames.new.self.objects c.reserve_frames.ensures.objects c.self.inside.accounts c.self.invariant
    c.reserve_frames.ensures.pins c.reserve_frames.ensures.invariant

pub returns-in_err-reserve_frames-clause-err : goal.returns-in_err-reserve_frames-clause-err
returns-in_err-reserve_frames-clause-err g c =
    let rows = c.self.inside.users.pages in
    let limits = limits_of c.self.inside.accounts in
    let grown = c.reserve_frames.new.self.objects in
    let room = c.self.inside.users.room in
    let after = memory_of rows limits grown in
    let V : Memory → Type 0 = λ m. SameObjects m (with_room room after) in
    after_error c.from_residual.result (SameObjects c.args.self.now (with_room room after))
    (subst V c.self.view_is (same_with room room (memory_of rows limits c.self.inside.objects.objects) after
    (grown_same rows limits c.self.inside.objects.objects grown c.reserve_frames.ensures.objects
    c.reserve_frames.ensures.rows c.reserve_frames.ensures.pins c.reserve_frames.ensures.invariant)))

pub add_area-requires : goal.add_area-requires
add_area-requires g c =
    let n = c.args.number in
    let grown = c.reserve_frames.new.self.objects in
    let Few : Memory → Type 0 = λ m. areas_over m n + 1 < 2 ^ 64 in
    let few = subst Few (sym c.self.view_is) c.requires.few in
    let same = grown_areas c.self.inside.users.pages (limits_of c.self.inside.accounts) c.self.inside.objects.objects
    grown c.reserve_frames.ensures.objects n in
    room_there grown n (subst (λ (k : ℕ). k + 1 < 2 ^ 64) (sym same) few)

pub pin_by_table-requires : goal.pin_by_table-requires
pin_by_table-requires g c =
    let rows = c.self.inside.users.pages in
    let accounts = c.self.inside.accounts in
    let limits = limits_of accounts in
    let old = c.self.inside.objects.objects in
    let grown = c.reserve_frames.new.self.objects in
    let grows = c.reserve_frames.ensures.objects in
    let n = c.args.number in
    let is = c.add_area.ensures.objects in
    let new = c.add_area.new.self.objects in
    let user = c.args.user in
    let m = memory_of rows limits old in
    let Own : Memory → Type 0 = λ m. are_of user (rows_at m (n ∷ [])) ≡ true in
    let Present : Memory → Type 0 = λ m. lacks_page m n ≡ false in
    let Room : Memory → Type 0 = λ m. memory.has_room m user (new_pages m n) ≡ true in
    let Backed : Memory → Type 0 = λ m. IsBacked m c.args.pool.now.holds in
    let back = sym c.self.view_is in
    let room = subst (λ (k : ℕ). memory.has_room m user k ≡ true) (sym (one_new m n c.self.invariant.told))
    (subst Room back c.requires.room) in
    let may = pinnable rows accounts old c.self.invariant (n ∷ []) grown user c.args.pool.now.holds grows
    c.reserve_frames.ensures.invariant c.in_ok-reserve_frames.ensures.ok
    (subst Own back c.requires.own) (one_lacks m n (subst Present back c.requires.present)) room
    (backed_without c.self.inside.users.room m c.args.pool.now.holds (subst Backed back c.requires.backed))
    c.facts.ensures c.facts-2.ensures in
    shared_allowed n grown new is rows c.args.pool.now.holds accounts c.reserve_frames.ensures.invariant may

pub invariant_of-self-2 : goal.invariant_of-self-2
invariant_of-self-2 g c =
    let rows = c.self.inside.users.pages in
    let accounts = c.self.inside.accounts in
    let limits = limits_of accounts in
    let old = c.self.inside.objects.objects in
    let grown = c.reserve_frames.new.self.objects in
    let grows = c.reserve_frames.ensures.objects in
    let n = c.args.number in
    let is = c.add_area.ensures.objects in
    let new = c.add_area.new.self.objects in
    let Present : Memory → Type 0 = λ m. lacks_page m n ≡ false in
    let ready = shared_pass n grown new is (can_pin rows) (λ o h. h) (n ∷ [])
    (grown_pass rows limits old grown grows (can_pin rows) (λ o h. h) (n ∷ [])
    (ready_old rows accounts old c.self.invariant (n ∷ [])
    (one_lacks (memory_of rows limits old) n (subst Present (sym c.self.view_is) c.requires.present)))) in
    let tell = shared_tell n grown new is accounts
    (grown_tell rows limits old grown grows accounts c.self.invariant c.reserve_frames.ensures.pins
    c.reserve_frames.ensures.invariant) c.add_area.ensures.pins c.add_area.ensures.invariant in
    let back = sym c.pin_by_table.ensures.objects in
    let U : List MemoryEntry → Type 0 = λ xs. list_all (has_user accounts) xs ≡ true in
    let K : List MemoryEntry → Type 0 = λ xs. list_all is_kept xs ≡ true in
    accounts_moved accounts c.pin_by_table.new.accounts new c.pin_by_table.new.self.objects tell
    c.pin_by_table.ensures.accounts
    (subst U back (all_mapped (has_user accounts) (has_user accounts) (pin_more rows new tell.told (n ∷ []) ready)
    (λ o known. known) new tell.users))
    (record {
      memory = c.pin_by_table.ensures.invariant;
      kept = subst K back (pin_kept rows new tell.told (n ∷ []) ready);
    })

pub returns-clause-limits : goal.returns-clause-limits
returns-clause-limits g c =
    let L : Memory → Type 0 = λ m. limits_of c.pin_by_table.new.accounts ≡ m.limits in
    subst L c.self.view_is (limits_stay c.self.inside.accounts c.pin_by_table.new.accounts
    c.pin_by_table.ensures.accounts.count c.pin_by_table.ensures.accounts.limits)

pub returns-clause-share : goal.returns-clause-share
returns-clause-share g c =
    let rows = c.self.inside.users.pages in
    let accounts = c.self.inside.accounts in
    let limits = limits_of accounts in
    let old = c.self.inside.objects.objects in
    let grown = c.reserve_frames.new.self.objects in
    let grows = c.reserve_frames.ensures.objects in
    let n = c.args.number in
    let is = c.add_area.ensures.objects in
    let new = c.add_area.new.self.objects in
    let Present : Memory → Type 0 = λ m. lacks_page m n ≡ false in
    let ready = shared_pass n grown new is (can_pin rows) (λ o h. h) (n ∷ [])
    (grown_pass rows limits old grown grows (can_pin rows) (λ o h. h) (n ∷ [])
    (ready_old rows accounts old c.self.invariant (n ∷ [])
    (one_lacks (memory_of rows limits old) n (subst Present (sym c.self.view_is) c.requires.present)))) in
    let after = limits_of c.pin_by_table.new.accounts in
    let told = shared_told n grown new is (grown_told rows limits old grown grows c.self.invariant.told
    c.reserve_frames.ensures.invariant) c.add_area.ensures.invariant in
    let There : Memory → Type 0 = λ m. 1 ≤ areas_over m n in
    let N : List MemoryEntry → Type 0 = λ xs. HasShare 1 n (memory_of rows limits old) (memory_of rows after xs) in
    let room = c.self.inside.users.room in
    let shared = memory_of rows after c.pin_by_table.new.self.objects in
    let V : Memory → Type 0 = λ m. HasShare 1 n m (with_room room shared) in
    subst V c.self.view_is (share_with room room (memory_of rows limits old) shared 1 n
    (subst N (sym c.pin_by_table.ensures.objects)
    (pinned_more rows limits after n old grown new grows is told ready c.reserve_frames.ensures.rows
    c.add_area.ensures.rows (subst There (sym c.self.view_is) c.requires.there)
    c.reserve_frames.ensures.invariant)))

pub returns-clause-settles : goal.returns-clause-settles
returns-clause-settles g c =
    let rows = c.self.inside.users.pages in
    let accounts = c.self.inside.accounts in
    let limits = limits_of accounts in
    let old = c.self.inside.objects.objects in
    let grown = c.reserve_frames.new.self.objects in
    let grows = c.reserve_frames.ensures.objects in
    let n = c.args.number in
    let is = c.add_area.ensures.objects in
    let new = c.add_area.new.self.objects in
    let Present : Memory → Type 0 = λ m. lacks_page m n ≡ false in
    let ready = shared_pass n grown new is (can_pin rows) (λ o h. h) (n ∷ [])
    (grown_pass rows limits old grown grows (can_pin rows) (λ o h. h) (n ∷ [])
    (ready_old rows accounts old c.self.invariant (n ∷ [])
    (one_lacks (memory_of rows limits old) n (subst Present (sym c.self.view_is) c.requires.present)))) in
    let after = limits_of c.pin_by_table.new.accounts in
    let told = shared_told n grown new is (grown_told rows limits old grown grows c.self.invariant.told
    c.reserve_frames.ensures.invariant) c.add_area.ensures.invariant in
    let made = c.pin_by_table.ensures.objects in
    let H : List MemoryEntry → Type 0 = λ xs. HoldsMove new xs c.args.pool.now c.pin_by_table.new.pool in
    let I : List MemoryEntry → Type 0 = λ xs. MemoryInvariant xs in
    let N : List MemoryEntry → Type 0 =
    λ xs. Settles (memory_of rows limits old) (memory_of rows after xs) c.args.pool.now c.pin_by_table.new.pool in
    let room = c.self.inside.users.room in
    let shared = memory_of rows after c.pin_by_table.new.self.objects in
    let V : Memory → Type 0 = λ m. Settles m (with_room room shared) c.args.pool.now c.pin_by_table.new.pool in
    let same_limits = limits_stay accounts c.pin_by_table.new.accounts c.pin_by_table.ensures.accounts.count
    c.pin_by_table.ensures.accounts.limits in
    subst V c.self.view_is
    (settles_with room room (memory_of rows limits old) shared c.args.pool.now c.pin_by_table.new.pool
    (subst N (sym made) (pinned_settles rows limits after n old grown new grows is told ready c.args.pool.now
    c.pin_by_table.new.pool same_limits c.self.invariant.told.memory c.reserve_frames.ensures.pins
    c.add_area.ensures.pins (subst H made c.pin_by_table.ensures.pool)
    (subst I made c.pin_by_table.ensures.invariant))))

pub returns-in_err-reserve_frames-clause-lacking : goal.returns-in_err-reserve_frames-clause-lacking
returns-in_err-reserve_frames-clause-lacking g c =
    let V : Memory → Type 0 = λ m. memory.has_memory m c.args.number ≡ false in
    after_error c.from_residual.result (memory.has_memory c.args.self.now c.args.number ≡ false)
    (subst V c.self.view_is (lacks_one c.self.inside.objects.objects c.args.number
    c.in_err-reserve_frames.ensures.err))
