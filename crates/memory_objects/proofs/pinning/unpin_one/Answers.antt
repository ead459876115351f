use Rattle.std.proofs.Common.{◌∙◌, List, subst, refl, sym, ap}
use Rattle.memory_objects.specs.Backed.{AccountsMove, HoldsMove}
use Rattle.memory_objects.specs.Objects.{MemoryEntry, standing}
use Rattle.pinned_pages.specs.Pages.{ObjectPages, last_frames}
use Rattle.memory_objects.proofs.Moved.{accounts_refunded, holds_taken}
use Rattle.memory_objects.proofs.Unpinned.{its_frames, its_held, its_last, its_pins, its_user, none_unpinned}
use Rattle.memory_objects.proofs.Unpinned.{set_unpinned}
use Rattle.memory_objects.proofs.AreaCounts.{rising_left}
use Rattle.memory_objects.proofs.Gone.{gone_set}
use Rattle.memory_objects.proofs.Standing.{found_stands, place_in, read_at, rising_set, standing_at, standing_set, stands}
use Rattle.memory_objects.proofs.pinning.unpin_one.Goals as goal

pub unpin_by_table-requires-clause-some : goal.unpin_by_table-requires-clause-some
unpin_by_table-requires-clause-some g c =
    let all = c.args.entries.now.items in
    let objects = standing all in
    let x = c.index_mut-entry.result.now in
    let here = read_at all c.in-Some.place x (rw c.deref.ensures.value at c.in-Some.ensures.within)
    c.index_mut-entry.ensures.value in
    let found = sym (rw c.deref.ensures.value at c.in-Some.ensures.some) ∙ here in
    let is = found_stands all c.args.number x found in
    let there = standing_at all c.in-Some.place x here is in
    its_pins objects c.args.number (place_in all c.in-Some.place) x c.args.pool.now.holds c.args.accounts.now
    c.requires.pins c.requires.backed there found

pub unpin_by_table-requires-clause-user : goal.unpin_by_table-requires-clause-user
unpin_by_table-requires-clause-user g c =
    let all = c.args.entries.now.items in
    let objects = standing all in
    let x = c.index_mut-entry.result.now in
    let here = read_at all c.in-Some.place x (rw c.deref.ensures.value at c.in-Some.ensures.within)
    c.index_mut-entry.ensures.value in
    let found = sym (rw c.deref.ensures.value at c.in-Some.ensures.some) ∙ here in
    let is = found_stands all c.args.number x found in
    let there = standing_at all c.in-Some.place x here is in
    its_user objects c.args.number (place_in all c.in-Some.place) x c.args.pool.now.holds c.args.accounts.now
    c.requires.pins c.requires.backed there found

pub unpin_by_table-requires-clause-held : goal.unpin_by_table-requires-clause-held
unpin_by_table-requires-clause-held g c =
    let all = c.args.entries.now.items in
    let objects = standing all in
    let x = c.index_mut-entry.result.now in
    let here = read_at all c.in-Some.place x (rw c.deref.ensures.value at c.in-Some.ensures.within)
    c.index_mut-entry.ensures.value in
    let found = sym (rw c.deref.ensures.value at c.in-Some.ensures.some) ∙ here in
    let is = found_stands all c.args.number x found in
    let there = standing_at all c.in-Some.place x here is in
    λ last. its_held objects c.args.number (place_in all c.in-Some.place) x c.args.pool.now.holds c.args.accounts.now
    c.requires.pins c.requires.backed there found

pub unpin_by_table-requires-clause-holds : goal.unpin_by_table-requires-clause-holds
unpin_by_table-requires-clause-holds g c =
    let all = c.args.entries.now.items in
    let objects = standing all in
    let x = c.index_mut-entry.result.now in
    let here = read_at all c.in-Some.place x (rw c.deref.ensures.value at c.in-Some.ensures.within)
    c.index_mut-entry.ensures.value in
    let found = sym (rw c.deref.ensures.value at c.in-Some.ensures.some) ∙ here in
    let is = found_stands all c.args.number x found in
    let there = standing_at all c.in-Some.place x here is in
    λ last. its_frames objects c.args.number (place_in all c.in-Some.place) x c.args.pool.now.holds c.args.accounts.now
    c.requires.pins c.requires.backed there found

pub returns-in-Some-clause-entries : goal.returns-in-Some-clause-entries
returns-in-Some-clause-entries g c =
    let all = c.args.entries.now.items in
    let objects = standing all in
    let x = c.index_mut-entry.result.now in
    let here = read_at all c.in-Some.place x (rw c.deref.ensures.value at c.in-Some.ensures.within)
    c.index_mut-entry.ensures.value in
    let found = sym (rw c.deref.ensures.value at c.in-Some.ensures.some) ∙ here in
    let is = found_stands all c.args.number x found in
    let there = standing_at all c.in-Some.place x here is in
    let some = its_pins objects c.args.number (place_in all c.in-Some.place) x c.args.pool.now.holds c.args.accounts.now
    c.requires.pins c.requires.backed there found in
    let y : MemoryEntry = record { number = x.number; areas = x.areas; pages = c.unpin_by_table.new.self } in
    let changed = standing_set all c.in-Some.place x y here is is in
    changed ∙ set_unpinned objects c.args.number (place_in all c.in-Some.place) x c.unpin_by_table.new.self
    (rising_left stands all c.requires.rising) there found some c.unpin_by_table.ensures.pages
    c.unpin_by_table.ensures.capacity c.unpin_by_table.ensures.room

pub returns-in-Some-clause-pool : goal.returns-in-Some-clause-pool
returns-in-Some-clause-pool g c =
    let all = c.args.entries.now.items in
    let objects = standing all in
    let x = c.index_mut-entry.result.now in
    let here = read_at all c.in-Some.place x (rw c.deref.ensures.value at c.in-Some.ensures.within)
    c.index_mut-entry.ensures.value in
    let found = sym (rw c.deref.ensures.value at c.in-Some.ensures.some) ∙ here in
    let is = found_stands all c.args.number x found in
    let there = standing_at all c.in-Some.place x here is in
    let y : MemoryEntry = record { number = x.number; areas = x.areas; pages = c.unpin_by_table.new.self } in
    let changed = standing_set all c.in-Some.place x y here is is in
    let H : List MemoryEntry → Type 0 = λ xs. HoldsMove objects xs c.args.pool.now c.unpin_by_table.new.pool in
    subst H (sym changed) (holds_taken objects (place_in all c.in-Some.place) x y there c.args.pool.now
    c.unpin_by_table.new.pool (last_frames x.pages.pages) c.unpin_by_table.ensures.pool
    c.unpin_by_table.ensures.held)

pub returns-in-Some-clause-accounts : goal.returns-in-Some-clause-accounts
returns-in-Some-clause-accounts g c =
    let all = c.args.entries.now.items in
    let objects = standing all in
    let x = c.index_mut-entry.result.now in
    let here = read_at all c.in-Some.place x (rw c.deref.ensures.value at c.in-Some.ensures.within)
    c.index_mut-entry.ensures.value in
    let found = sym (rw c.deref.ensures.value at c.in-Some.ensures.some) ∙ here in
    let is = found_stands all c.args.number x found in
    let there = standing_at all c.in-Some.place x here is in
    let y : MemoryEntry = record { number = x.number; areas = x.areas; pages = c.unpin_by_table.new.self } in
    let changed = standing_set all c.in-Some.place x y here is is in
    let known = its_user objects c.args.number (place_in all c.in-Some.place) x c.args.pool.now.holds
    c.args.accounts.now c.requires.pins c.requires.backed there found in
    let last = its_last objects c.args.number (place_in all c.in-Some.place) x c.args.pool.now.holds c.args.accounts.now
    c.requires.pins c.requires.backed there found c.unpin_by_table.new.self.pages c.unpin_by_table.ensures.count in
    let A : List MemoryEntry → Type 0 =
    λ xs. AccountsMove objects xs c.args.accounts.now c.unpin_by_table.new.accounts in
    subst A (sym changed) (accounts_refunded objects (place_in all c.in-Some.place) x y there c.args.accounts.now
    c.unpin_by_table.new.accounts (ap (λ (p : ObjectPages). p.user.0) c.unpin_by_table.ensures.pages) known
    c.unpin_by_table.ensures.accounts c.unpin_by_table.ensures.count last)

pub returns-in_default-clause-entries : goal.returns-in_default-clause-entries
returns-in_default-clause-entries g c =
    none_unpinned (standing c.args.entries.now.items) c.args.number
    (rw c.deref.ensures.value at c.in_default.ensures.none)

pub returns-in-Some-clause-rising : goal.returns-in-Some-clause-rising
returns-in-Some-clause-rising g c =
    let all = c.args.entries.now.items in
    let x = c.index_mut-entry.result.now in
    let here = read_at all c.in-Some.place x (rw c.deref.ensures.value at c.in-Some.ensures.within)
    c.index_mut-entry.ensures.value in
    rising_set all c.in-Some.place x (record { number = x.number; areas = x.areas; pages = c.unpin_by_table.new.self })
    c.requires.rising here refl

pub returns-in-Some-clause-gone : goal.returns-in-Some-clause-gone
returns-in-Some-clause-gone g c =
    let all = c.args.entries.now.items in
    let x = c.index_mut-entry.result.now in
    let here = read_at all c.in-Some.place x (rw c.deref.ensures.value at c.in-Some.ensures.within)
    c.index_mut-entry.ensures.value in
    let found = sym (rw c.deref.ensures.value at c.in-Some.ensures.some) ∙ here in
    let is = found_stands all c.args.number x found in
    let y : MemoryEntry = record { number = x.number; areas = x.areas; pages = c.unpin_by_table.new.self } in
    gone_set all c.in-Some.place x y here is is
