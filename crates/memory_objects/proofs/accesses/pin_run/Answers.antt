use Rattle.std.proofs.Common.{◌≡◌, ◌∙◌, ◌+◌, ◌<◌, ◌^◌, List, Option, true, refl, sym, ap, subst}
use Rattle.frame_memory.specs.Pool.{may_hold}
use Rattle.mem_account.specs.Accounts.{has_room, is_user}
use Rattle.memory_objects.specs.Backed.{AccountsMove, HoldsMove}
use Rattle.memory_objects.specs.Invariant.{MemoryInvariant}
use Rattle.memory_objects.specs.Objects.{MemoryEntry, access_pins_in, object_at, rows_of, standing}
use Rattle.memory_objects.specs.Runs.{run_count_in, run_is_there}
use Rattle.pinned_pages.specs.Accesses.{IsAccessPinned, run_count, run_frames}
use Rattle.pinned_pages.proofs.FirstPin.{run_fits}
use Rattle.memory_objects.proofs.AreaCounts.{rising_left}
use Rattle.memory_objects.proofs.Gone.{gone_set}
use Rattle.memory_objects.proofs.Moved.{accounts_stay, holds_stay, accounts_more, holds_added}
use Rattle.memory_objects.proofs.RunOne.{lies_nowhere}
use Rattle.memory_objects.proofs.RunOne.{at_number, if_found, kept_set, lies_found, passes_found, room_found, rows_set}
use Rattle.memory_objects.proofs.RunOne.{same_user}
use Rattle.memory_objects.proofs.Standing.{found_at, found_stands, place_in, read_at, rising_set, standing_at, standing_set, stands}
use Rattle.memory_objects.proofs.accesses.pin_run.Goals as goal

pub pin_run_reserved-requires-clause-run : goal.pin_run_reserved-requires-clause-run
pin_run_reserved-requires-clause-run g c =
    let all = c.args.entries.now.items in
    let objects = standing all in
    let n = c.args.run.number in
    let x = c.index_mut-entry.result.now in
    let found = found_at all c.in-Some.place n x (rw c.deref.ensures.value at c.in-Some.ensures.within)
    c.index_mut-entry.ensures.value (rw c.deref.ensures.value at c.in-Some.ensures.some) in
    lies_found c.args.run (object_at objects n) x c.requires.can.lies found

pub pin_run_reserved-requires-clause-user : goal.pin_run_reserved-requires-clause-user
pin_run_reserved-requires-clause-user g c =
    let all = c.args.entries.now.items in
    let objects = standing all in
    let n = c.args.run.number in
    let x = c.index_mut-entry.result.now in
    let found = found_at all c.in-Some.place n x (rw c.deref.ensures.value at c.in-Some.ensures.within)
    c.index_mut-entry.ensures.value (rw c.deref.ensures.value at c.in-Some.ensures.some) in
    passes_found (λ o. is_user c.args.accounts.now o.pages.pages.user.0) (object_at objects n) x c.requires.can.user
    found

pub pin_run_reserved-requires-clause-pins : goal.pin_run_reserved-requires-clause-pins
pin_run_reserved-requires-clause-pins g c index within =
    let all = c.args.entries.now.items in
    let objects = standing all in
    let n = c.args.run.number in
    let x = c.index_mut-entry.result.now in
    let found = found_at all c.in-Some.place n x (rw c.deref.ensures.value at c.in-Some.ensures.within)
    c.index_mut-entry.ensures.value (rw c.deref.ensures.value at c.in-Some.ensures.some) in
    let P : Option MemoryEntry → Type 0 = λ o. access_pins_in o index + 1 < 2 ^ 64 in
    subst P found (c.requires.can.pins index within)

pub pin_run_reserved-requires-clause-holds : goal.pin_run_reserved-requires-clause-holds
pin_run_reserved-requires-clause-holds g c =
    let all = c.args.entries.now.items in
    let objects = standing all in
    let n = c.args.run.number in
    let x = c.index_mut-entry.result.now in
    let found = found_at all c.in-Some.place n x (rw c.deref.ensures.value at c.in-Some.ensures.within)
    c.index_mut-entry.ensures.value (rw c.deref.ensures.value at c.in-Some.ensures.some) in
    let P : Option MemoryEntry → Type 0 = λ o. may_hold c.args.pool.now.holds (run_count_in c.args.run o) ≡ true in
    subst P found c.requires.can.holds

pub pin_run_reserved-requires-clause-granted : goal.pin_run_reserved-requires-clause-granted
pin_run_reserved-requires-clause-granted g c =
    let all = c.args.entries.now.items in
    let objects = standing all in
    let n = c.args.run.number in
    let x = c.index_mut-entry.result.now in
    let found = found_at all c.in-Some.place n x (rw c.deref.ensures.value at c.in-Some.ensures.within)
    c.index_mut-entry.ensures.value (rw c.deref.ensures.value at c.in-Some.ensures.some) in
    run_fits x.pages.pages c.args.users.now.pages c.args.accounts.now c.args.run.first c.args.run.count
    (passes_found (run_is_there c.args.users.now.pages c.args.run) (object_at objects n) x c.requires.can.present found)
    (passes_found (λ o. has_room c.args.accounts.now o.pages.pages.user.0
    (run_count o.pages.pages c.args.run.first c.args.run.count)) (object_at objects n) x c.requires.can.room found)

pub pin_run_reserved-requires-clause-memory : goal.pin_run_reserved-requires-clause-memory
pin_run_reserved-requires-clause-memory g c =
    let all = c.args.entries.now.items in
    let objects = standing all in
    let n = c.args.run.number in
    let x = c.index_mut-entry.result.now in
    let found = found_at all c.in-Some.place n x (rw c.deref.ensures.value at c.in-Some.ensures.within)
    c.index_mut-entry.ensures.value (rw c.deref.ensures.value at c.in-Some.ensures.some) in
    room_found c.args.run (object_at objects n) x c.requires.can.memory found

pub returns-clause-objects : goal.returns-clause-objects
returns-clause-objects g c =
    let all = c.args.entries.now.items in
    let objects = standing all in
    let n = c.args.run.number in
    let x = c.index_mut-entry.result.now in
    let here = read_at all c.in-Some.place x (rw c.deref.ensures.value at c.in-Some.ensures.within)
    c.index_mut-entry.ensures.value in
    let found = sym (rw c.deref.ensures.value at c.in-Some.ensures.some) ∙ here in
    let is = found_stands all n x found in
    let there = standing_at all c.in-Some.place x here is in
    let place = place_in all c.in-Some.place in
    let new = c.pin_run_reserved.new.self in
    let y : MemoryEntry = record { number = x.number; areas = x.areas; pages = new } in
    let changed = standing_set all c.in-Some.place x y here is is in
    let rising = rising_left stands all c.requires.rising in
    record {
      pages = new;
      objects = changed ∙ at_number objects n place x new rising there found;
      pinned = if_found (λ o. IsAccessPinned c.args.run.first c.args.run.count c.args.users.now.pages o.pages.pages
          new.pages) (object_at objects n) x found c.pin_run_reserved.ensures.pages;
      capacity = if_found (λ o. new.capacity ≡ o.pages.capacity) (object_at objects n) x found
          c.pin_run_reserved.ensures.capacity;
    }

pub returns-clause-rows : goal.returns-clause-rows
returns-clause-rows g c =
    let all = c.args.entries.now.items in
    let objects = standing all in
    let n = c.args.run.number in
    let x = c.index_mut-entry.result.now in
    let here = read_at all c.in-Some.place x (rw c.deref.ensures.value at c.in-Some.ensures.within)
    c.index_mut-entry.ensures.value in
    let found = sym (rw c.deref.ensures.value at c.in-Some.ensures.some) ∙ here in
    let is = found_stands all n x found in
    let there = standing_at all c.in-Some.place x here is in
    let place = place_in all c.in-Some.place in
    let new = c.pin_run_reserved.new.self in
    let y : MemoryEntry = record { number = x.number; areas = x.areas; pages = new } in
    let changed = standing_set all c.in-Some.place x y here is is in
    let rising = rising_left stands all c.requires.rising in
    ap rows_of changed ∙ rows_set objects n place x new rising there found c.pin_run_reserved.ensures.pages.same

pub returns-clause-kept : goal.returns-clause-kept
returns-clause-kept g c kept =
    let all = c.args.entries.now.items in
    let objects = standing all in
    let n = c.args.run.number in
    let x = c.index_mut-entry.result.now in
    let here = read_at all c.in-Some.place x (rw c.deref.ensures.value at c.in-Some.ensures.within)
    c.index_mut-entry.ensures.value in
    let found = sym (rw c.deref.ensures.value at c.in-Some.ensures.some) ∙ here in
    let is = found_stands all n x found in
    let there = standing_at all c.in-Some.place x here is in
    let place = place_in all c.in-Some.place in
    let new = c.pin_run_reserved.new.self in
    let y : MemoryEntry = record { number = x.number; areas = x.areas; pages = new } in
    let changed = standing_set all c.in-Some.place x y here is is in
    let rising = rising_left stands all c.requires.rising in
    subst MemoryInvariant (sym changed) (kept_set objects n place x new rising there found
    c.pin_run_reserved.ensures.pages.same c.facts.ensures.counted kept)

pub returns-clause-gone : goal.returns-clause-gone
returns-clause-gone g c =
    let all = c.args.entries.now.items in
    let objects = standing all in
    let n = c.args.run.number in
    let x = c.index_mut-entry.result.now in
    let here = read_at all c.in-Some.place x (rw c.deref.ensures.value at c.in-Some.ensures.within)
    c.index_mut-entry.ensures.value in
    let found = sym (rw c.deref.ensures.value at c.in-Some.ensures.some) ∙ here in
    let is = found_stands all n x found in
    gone_set all c.in-Some.place x (record { number = x.number; areas = x.areas; pages = c.pin_run_reserved.new.self })
    here is is

pub returns-clause-rising : goal.returns-clause-rising
returns-clause-rising g c =
    let all = c.args.entries.now.items in
    let x = c.index_mut-entry.result.now in
    let here = read_at all c.in-Some.place x (rw c.deref.ensures.value at c.in-Some.ensures.within)
    c.index_mut-entry.ensures.value in
    rising_set all c.in-Some.place x (record {
      number = x.number;
      areas = x.areas;
      pages = c.pin_run_reserved.new.self;
    })
    c.requires.rising here refl

pub returns-clause-pool : goal.returns-clause-pool
returns-clause-pool g c =
    let all = c.args.entries.now.items in
    let objects = standing all in
    let n = c.args.run.number in
    let x = c.index_mut-entry.result.now in
    let here = read_at all c.in-Some.place x (rw c.deref.ensures.value at c.in-Some.ensures.within)
    c.index_mut-entry.ensures.value in
    let found = sym (rw c.deref.ensures.value at c.in-Some.ensures.some) ∙ here in
    let is = found_stands all n x found in
    let there = standing_at all c.in-Some.place x here is in
    let place = place_in all c.in-Some.place in
    let new = c.pin_run_reserved.new.self in
    let y : MemoryEntry = record { number = x.number; areas = x.areas; pages = new } in
    let changed = standing_set all c.in-Some.place x y here is is in
    let H : List MemoryEntry → Type 0 = λ xs. HoldsMove objects xs c.args.pool.now c.pin_run_reserved.new.pool in
    subst H (sym changed) (holds_added objects place x y there c.args.pool.now c.pin_run_reserved.new.pool
    (run_frames x.pages.pages c.args.users.now.pages c.args.run.first c.args.run.count)
    c.pin_run_reserved.ensures.pool c.pin_run_reserved.ensures.held)

pub returns-clause-accounts : goal.returns-clause-accounts
returns-clause-accounts g c =
    let all = c.args.entries.now.items in
    let objects = standing all in
    let n = c.args.run.number in
    let x = c.index_mut-entry.result.now in
    let here = read_at all c.in-Some.place x (rw c.deref.ensures.value at c.in-Some.ensures.within)
    c.index_mut-entry.ensures.value in
    let found = sym (rw c.deref.ensures.value at c.in-Some.ensures.some) ∙ here in
    let is = found_stands all n x found in
    let there = standing_at all c.in-Some.place x here is in
    let place = place_in all c.in-Some.place in
    let new = c.pin_run_reserved.new.self in
    let y : MemoryEntry = record { number = x.number; areas = x.areas; pages = new } in
    let changed = standing_set all c.in-Some.place x y here is is in
    let rising = rising_left stands all c.requires.rising in
    let known = passes_found (λ o. is_user c.args.accounts.now o.pages.pages.user.0) (object_at objects n) x
    c.requires.can.user found in
    let A : List MemoryEntry → Type 0 =
    λ xs. AccountsMove objects xs c.args.accounts.now c.pin_run_reserved.new.accounts in
    subst A (sym changed) (accounts_more objects place x y there c.args.accounts.now c.pin_run_reserved.new.accounts
    (same_user objects n place x new rising there found c.pin_run_reserved.ensures.pages.same) known
    (run_count x.pages.pages c.args.run.first c.args.run.count) c.pin_run_reserved.ensures.accounts
    c.pin_run_reserved.ensures.count)

pub place_of-requires : goal.place_of-requires
place_of-requires g c = rw c.deref.ensures.value c.requires.rising

pub index_mut-entry-requires : goal.index_mut-entry-requires
index_mut-entry-requires g c = rw c.deref.ensures.len at c.in-Some.ensures.within

pub returns-in_default-clause-objects : goal.returns-in_default-clause-objects
returns-in_default-clause-objects g c = absurd (lies_nowhere c.args.run (object_at (standing c.args.entries.now.items) c.args.run.number)
    c.requires.can.lies (rw c.deref.ensures.value at c.in_default.ensures.none))

pub returns-in_default-clause-rows : goal.returns-in_default-clause-rows
returns-in_default-clause-rows g c = refl

pub returns-in_default-clause-kept : goal.returns-in_default-clause-kept
returns-in_default-clause-kept g c kept = kept

pub returns-in_default-clause-gone : goal.returns-in_default-clause-gone
returns-in_default-clause-gone g c = refl

pub returns-in_default-clause-rising : goal.returns-in_default-clause-rising
returns-in_default-clause-rising g c = c.requires.rising

pub returns-in_default-clause-len : goal.returns-in_default-clause-len
returns-in_default-clause-len g c = refl

pub returns-in_default-clause-capacity : goal.returns-in_default-clause-capacity
returns-in_default-clause-capacity g c = refl

pub returns-in_default-clause-pool : goal.returns-in_default-clause-pool
returns-in_default-clause-pool g c = holds_stay (standing c.args.entries.now.items) c.args.pool.now

pub returns-in_default-clause-accounts : goal.returns-in_default-clause-accounts
returns-in_default-clause-accounts g c = accounts_stay (standing c.args.entries.now.items) c.args.accounts.now

pub returns-clause-len : goal.returns-clause-len
returns-clause-len g c = refl

pub returns-clause-capacity : goal.returns-clause-capacity
returns-clause-capacity g c = refl

pub pin_run_reserved-requires-clause-within : goal.pin_run_reserved-requires-clause-within
pin_run_reserved-requires-clause-within g c = c.requires.can.within
