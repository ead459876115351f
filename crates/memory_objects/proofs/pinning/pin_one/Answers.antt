use Rattle.std.proofs.Common.{◌∙◌, List, subst, refl, sym, ap, arith}
use Rattle.memory_objects.specs.Backed.{AccountsMove, HoldsMove}
use Rattle.memory_objects.specs.Objects.{MemoryEntry, standing}
use Rattle.pinned_pages.specs.Pages.{ObjectPages, new_frames}
use Rattle.memory_objects.proofs.Moved.{accounts_charged, holds_added}
use Rattle.memory_objects.proofs.PinOne.{its_areas, its_holds, its_memory, its_refusal, its_user, none_pinned}
use Rattle.memory_objects.proofs.PinOne.{set_pinned}
use Rattle.memory_objects.proofs.AreaCounts.{rising_left}
use Rattle.memory_objects.proofs.Gone.{gone_set}
use Rattle.memory_objects.proofs.Standing.{found_stands, place_in, read_at, rising_set, standing_at, standing_set, stands}
use Rattle.memory_objects.proofs.pinning.pin_one.Goals as goal

pub prove-unreachable-requires : goal.prove-unreachable-requires
prove-unreachable-requires g c =
    let all = c.args.entries.now.items in
    let objects = standing all in
    let x = c.index_mut-entry.result.now in
    let here = read_at all c.in-Some.place x (rw c.deref.ensures.value at c.in-Some.ensures.within)
    c.index_mut-entry.ensures.value in
    let found = sym (rw c.deref.ensures.value at c.in-Some.ensures.some) ∙ here in
    let is = found_stands all c.args.number x found in
    let there = standing_at all c.in-Some.place x here is in
    let fewer = its_areas objects c.args.number (place_in all c.in-Some.place) x c.args.users.now.pages
    c.args.pool.now.holds c.args.accounts.now c.requires.can there found in
    omega (arith, fewer, c.if-prove.true, c.table_pins.ensures.value)

pub pin_reserved-requires-clause-user : goal.pin_reserved-requires-clause-user
pin_reserved-requires-clause-user g c =
    let all = c.args.entries.now.items in
    let objects = standing all in
    let x = c.index_mut-entry.result.now in
    let here = read_at all c.in-Some.place x (rw c.deref.ensures.value at c.in-Some.ensures.within)
    c.index_mut-entry.ensures.value in
    let found = sym (rw c.deref.ensures.value at c.in-Some.ensures.some) ∙ here in
    let is = found_stands all c.args.number x found in
    let there = standing_at all c.in-Some.place x here is in
    its_user objects c.args.number (place_in all c.in-Some.place) x c.args.users.now.pages c.args.pool.now.holds
    c.args.accounts.now c.requires.can there found

pub pin_reserved-requires-clause-holds : goal.pin_reserved-requires-clause-holds
pin_reserved-requires-clause-holds g c =
    let all = c.args.entries.now.items in
    let objects = standing all in
    let x = c.index_mut-entry.result.now in
    let here = read_at all c.in-Some.place x (rw c.deref.ensures.value at c.in-Some.ensures.within)
    c.index_mut-entry.ensures.value in
    let found = sym (rw c.deref.ensures.value at c.in-Some.ensures.some) ∙ here in
    let is = found_stands all c.args.number x found in
    let there = standing_at all c.in-Some.place x here is in
    λ first. its_holds objects c.args.number (place_in all c.in-Some.place) x c.args.users.now.pages
    c.args.pool.now.holds
    c.args.accounts.now c.requires.can there found

pub pin_reserved-requires-clause-granted : goal.pin_reserved-requires-clause-granted
pin_reserved-requires-clause-granted g c =
    let all = c.args.entries.now.items in
    let objects = standing all in
    let x = c.index_mut-entry.result.now in
    let here = read_at all c.in-Some.place x (rw c.deref.ensures.value at c.in-Some.ensures.within)
    c.index_mut-entry.ensures.value in
    let found = sym (rw c.deref.ensures.value at c.in-Some.ensures.some) ∙ here in
    let is = found_stands all c.args.number x found in
    let there = standing_at all c.in-Some.place x here is in
    its_refusal objects c.args.number (place_in all c.in-Some.place) x c.args.users.now.pages c.args.pool.now.holds
    c.args.accounts.now c.requires.can there found

pub pin_reserved-requires-clause-memory : goal.pin_reserved-requires-clause-memory
pin_reserved-requires-clause-memory g c =
    let all = c.args.entries.now.items in
    let objects = standing all in
    let x = c.index_mut-entry.result.now in
    let here = read_at all c.in-Some.place x (rw c.deref.ensures.value at c.in-Some.ensures.within)
    c.index_mut-entry.ensures.value in
    let found = sym (rw c.deref.ensures.value at c.in-Some.ensures.some) ∙ here in
    let is = found_stands all c.args.number x found in
    let there = standing_at all c.in-Some.place x here is in
    its_memory objects c.args.number (place_in all c.in-Some.place) x c.args.users.now.pages c.args.pool.now.holds
    c.args.accounts.now c.requires.can there found

pub returns-in-Some-clause-entries : goal.returns-in-Some-clause-entries
returns-in-Some-clause-entries g c =
    let all = c.args.entries.now.items in
    let objects = standing all in
    let x = c.index_mut-entry.result.now in
    let here = read_at all c.in-Some.place x (rw c.deref.ensures.value at c.in-Some.ensures.within)
    c.index_mut-entry.ensures.value in
    let found = sym (rw c.deref.ensures.value at c.in-Some.ensures.some) ∙ here in
    let is = found_stands all c.args.number x found in
    let there = standing_at all c.in-Some.place x here is in
    let y : MemoryEntry = record { number = x.number; areas = x.areas; pages = c.pin_reserved.new.self } in
    let changed = standing_set all c.in-Some.place x y here is is in
    changed ∙ set_pinned c.args.users.now.pages objects c.args.number (place_in all c.in-Some.place) x
    c.pin_reserved.new.self (rising_left stands all c.requires.rising) there found c.pin_reserved.ensures.pages
    c.pin_reserved.ensures.capacity c.pin_reserved.ensures.room

pub returns-in-Some-clause-pool : goal.returns-in-Some-clause-pool
returns-in-Some-clause-pool g c =
    let all = c.args.entries.now.items in
    let objects = standing all in
    let x = c.index_mut-entry.result.now in
    let here = read_at all c.in-Some.place x (rw c.deref.ensures.value at c.in-Some.ensures.within)
    c.index_mut-entry.ensures.value in
    let found = sym (rw c.deref.ensures.value at c.in-Some.ensures.some) ∙ here in
    let is = found_stands all c.args.number x found in
    let there = standing_at all c.in-Some.place x here is in
    let y : MemoryEntry = record { number = x.number; areas = x.areas; pages = c.pin_reserved.new.self } in
    let changed = standing_set all c.in-Some.place x y here is is in
    let H : List MemoryEntry → Type 0 = λ xs. HoldsMove objects xs c.args.pool.now c.pin_reserved.new.pool in
    subst H (sym changed) (holds_added objects (place_in all c.in-Some.place) x y there c.args.pool.now
    c.pin_reserved.new.pool (new_frames x.pages.pages c.args.users.now.pages) c.pin_reserved.ensures.pool
    c.pin_reserved.ensures.held)

pub returns-in-Some-clause-accounts : goal.returns-in-Some-clause-accounts
returns-in-Some-clause-accounts g c =
    let all = c.args.entries.now.items in
    let objects = standing all in
    let x = c.index_mut-entry.result.now in
    let here = read_at all c.in-Some.place x (rw c.deref.ensures.value at c.in-Some.ensures.within)
    c.index_mut-entry.ensures.value in
    let found = sym (rw c.deref.ensures.value at c.in-Some.ensures.some) ∙ here in
    let is = found_stands all c.args.number x found in
    let there = standing_at all c.in-Some.place x here is in
    let y : MemoryEntry = record { number = x.number; areas = x.areas; pages = c.pin_reserved.new.self } in
    let changed = standing_set all c.in-Some.place x y here is is in
    let known = its_user objects c.args.number (place_in all c.in-Some.place) x c.args.users.now.pages
    c.args.pool.now.holds c.args.accounts.now c.requires.can there found in
    let A : List MemoryEntry → Type 0 = λ xs. AccountsMove objects xs c.args.accounts.now c.pin_reserved.new.accounts in
    subst A (sym changed) (accounts_charged objects (place_in all c.in-Some.place) x y there c.args.accounts.now
    c.pin_reserved.new.accounts (ap (λ (p : ObjectPages). p.user.0) c.pin_reserved.ensures.pages) known
    c.pin_reserved.ensures.accounts c.pin_reserved.ensures.count)

pub returns-in_default-clause-entries : goal.returns-in_default-clause-entries
returns-in_default-clause-entries g c =
    none_pinned c.args.users.now.pages (standing c.args.entries.now.items) c.args.number
    (rw c.deref.ensures.value at c.in_default.ensures.none)

pub returns-in-Some-clause-rising : goal.returns-in-Some-clause-rising
returns-in-Some-clause-rising g c =
    let all = c.args.entries.now.items in
    let x = c.index_mut-entry.result.now in
    let here = read_at all c.in-Some.place x (rw c.deref.ensures.value at c.in-Some.ensures.within)
    c.index_mut-entry.ensures.value in
    rising_set all c.in-Some.place x (record { number = x.number; areas = x.areas; pages = c.pin_reserved.new.self })
    c.requires.rising here refl

pub returns-in-Some-clause-gone : goal.returns-in-Some-clause-gone
returns-in-Some-clause-gone g c =
    let all = c.args.entries.now.items in
    let x = c.index_mut-entry.result.now in
    let here = read_at all c.in-Some.place x (rw c.deref.ensures.value at c.in-Some.ensures.within)
    c.index_mut-entry.ensures.value in
    let found = sym (rw c.deref.ensures.value at c.in-Some.ensures.some) ∙ here in
    let is = found_stands all c.args.number x found in
    let y : MemoryEntry = record { number = x.number; areas = x.areas; pages = c.pin_reserved.new.self } in
    gone_set all c.in-Some.place x y here is is
