use Rattle.std.proofs.Common.{◌≡◌, ◌∙◌, ◌≤◌, List, Option, refl, sym, ap, subst, arith}
use Rattle.memory_objects.specs.Backed.{AccountsMove, HoldsMove}
use Rattle.memory_objects.specs.Invariant.{MemoryInvariant}
use Rattle.memory_objects.specs.Objects.{MemoryEntry, access_pins_in, object_at, rows_of, standing}
use Rattle.pinned_pages.specs.Accesses.{IsAccessReleased, gone_count, gone_frames}
use Rattle.memory_objects.proofs.AreaCounts.{rising_left}
use Rattle.memory_objects.proofs.Gone.{gone_set}
use Rattle.memory_objects.proofs.Moved.{accounts_stay, holds_stay, accounts_less, holds_taken}
use Rattle.memory_objects.proofs.RunOne.{lies_nowhere}
use Rattle.memory_objects.proofs.RunOne.{at_number, if_found, kept_set, lies_found, rows_set, run_frames_held}
use Rattle.memory_objects.proofs.RunOne.{run_held, run_user, same_user}
use Rattle.memory_objects.proofs.Standing.{found_at, found_stands, place_in, read_at, rising_set, standing_at, standing_set, stands}
use Rattle.memory_objects.proofs.accesses.unpin_run.Goals as goal

pub unpin_by_access-requires-clause-run : goal.unpin_by_access-requires-clause-run
unpin_by_access-requires-clause-run g c =
    let all = c.args.entries.now.items in
    let objects = standing all in
    let n = c.args.run.number in
    let x = c.index_mut-entry.result.now in
    let found = found_at all c.in-Some.place n x (rw c.deref.ensures.value at c.in-Some.ensures.within)
    c.index_mut-entry.ensures.value (rw c.deref.ensures.value at c.in-Some.ensures.some) in
    lies_found c.args.run (object_at objects n) x c.requires.has.lies found

pub unpin_by_access-requires-clause-pins : goal.unpin_by_access-requires-clause-pins
unpin_by_access-requires-clause-pins g c index within =
    let all = c.args.entries.now.items in
    let objects = standing all in
    let n = c.args.run.number in
    let x = c.index_mut-entry.result.now in
    let found = found_at all c.in-Some.place n x (rw c.deref.ensures.value at c.in-Some.ensures.within)
    c.index_mut-entry.ensures.value (rw c.deref.ensures.value at c.in-Some.ensures.some) in
    let P : Option MemoryEntry → Type 0 = λ o. 1 ≤ access_pins_in o index in
    subst P found (c.requires.has.pins index within)

pub unpin_by_access-requires-clause-user : goal.unpin_by_access-requires-clause-user
unpin_by_access-requires-clause-user g c =
    let all = c.args.entries.now.items in
    let objects = standing all in
    let n = c.args.run.number in
    let x = c.index_mut-entry.result.now in
    let here = read_at all c.in-Some.place x (rw c.deref.ensures.value at c.in-Some.ensures.within)
    c.index_mut-entry.ensures.value in
    let found = sym (rw c.deref.ensures.value at c.in-Some.ensures.some) ∙ here in
    let is = found_stands all n x found in
    let there = standing_at all c.in-Some.place x here is in
    let place = place_in all c.in-Some.place in
    run_user objects place x c.args.pool.now.holds c.args.accounts.now c.requires.backed there

pub unpin_by_access-requires-clause-held : goal.unpin_by_access-requires-clause-held
unpin_by_access-requires-clause-held g c =
    let all = c.args.entries.now.items in
    let objects = standing all in
    let n = c.args.run.number in
    let x = c.index_mut-entry.result.now in
    let here = read_at all c.in-Some.place x (rw c.deref.ensures.value at c.in-Some.ensures.within)
    c.index_mut-entry.ensures.value in
    let found = sym (rw c.deref.ensures.value at c.in-Some.ensures.some) ∙ here in
    let is = found_stands all n x found in
    let there = standing_at all c.in-Some.place x here is in
    let place = place_in all c.in-Some.place in
    run_held objects place x c.args.pool.now.holds c.args.accounts.now c.requires.backed there

pub unpin_by_access-requires-clause-holds : goal.unpin_by_access-requires-clause-holds
unpin_by_access-requires-clause-holds g c =
    let all = c.args.entries.now.items in
    let objects = standing all in
    let n = c.args.run.number in
    let x = c.index_mut-entry.result.now in
    let here = read_at all c.in-Some.place x (rw c.deref.ensures.value at c.in-Some.ensures.within)
    c.index_mut-entry.ensures.value in
    let found = sym (rw c.deref.ensures.value at c.in-Some.ensures.some) ∙ here in
    let is = found_stands all n x found in
    let there = standing_at all c.in-Some.place x here is in
    let place = place_in all c.in-Some.place in
    run_frames_held objects place x c.args.pool.now.holds c.args.accounts.now c.requires.backed there

pub returns-clause-objects : goal.returns-clause-objects
returns-clause-objects g c =
    let all = c.args.entries.now.items in
    let objects = standing all in
    let n = c.args.run.number in
    let x = c.index_mut-entry.result.now in
    let here = read_at all c.in-Some.place x (rw c.deref.ensures.value at c.in-Some.ensures.within)
    c.index_mut-entry.ensures.value in
    let found = sym (rw c.deref.ensures.value at c.in-Some.ensures.some) ∙ here in
    let is = found_stands all n x found in
    let there = standing_at all c.in-Some.place x here is in
    let place = place_in all c.in-Some.place in
    let new = c.unpin_by_access.new.self in
    let y : MemoryEntry = record { number = x.number; areas = x.areas; pages = new } in
    let changed = standing_set all c.in-Some.place x y here is is in
    let rising = rising_left stands all c.requires.rising in
    record {
      pages = new;
      objects = changed ∙ at_number objects n place x new rising there found;
      released = if_found (λ o. IsAccessReleased c.args.run.first c.args.run.count o.pages.pages new.pages)
          (object_at objects n) x found c.unpin_by_access.ensures.pages;
      capacity = if_found (λ o. new.capacity ≡ o.pages.capacity) (object_at objects n) x found
          c.unpin_by_access.ensures.capacity;
    }

pub returns-clause-rows : goal.returns-clause-rows
returns-clause-rows g c =
    let all = c.args.entries.now.items in
    let objects = standing all in
    let n = c.args.run.number in
    let x = c.index_mut-entry.result.now in
    let here = read_at all c.in-Some.place x (rw c.deref.ensures.value at c.in-Some.ensures.within)
    c.index_mut-entry.ensures.value in
    let found = sym (rw c.deref.ensures.value at c.in-Some.ensures.some) ∙ here in
    let is = found_stands all n x found in
    let there = standing_at all c.in-Some.place x here is in
    let place = place_in all c.in-Some.place in
    let new = c.unpin_by_access.new.self in
    let y : MemoryEntry = record { number = x.number; areas = x.areas; pages = new } in
    let changed = standing_set all c.in-Some.place x y here is is in
    let rising = rising_left stands all c.requires.rising in
    ap rows_of changed ∙ rows_set objects n place x new rising there found c.unpin_by_access.ensures.pages.same

pub returns-clause-kept : goal.returns-clause-kept
returns-clause-kept g c kept =
    let all = c.args.entries.now.items in
    let objects = standing all in
    let n = c.args.run.number in
    let x = c.index_mut-entry.result.now in
    let here = read_at all c.in-Some.place x (rw c.deref.ensures.value at c.in-Some.ensures.within)
    c.index_mut-entry.ensures.value in
    let found = sym (rw c.deref.ensures.value at c.in-Some.ensures.some) ∙ here in
    let is = found_stands all n x found in
    let there = standing_at all c.in-Some.place x here is in
    let place = place_in all c.in-Some.place in
    let new = c.unpin_by_access.new.self in
    let y : MemoryEntry = record { number = x.number; areas = x.areas; pages = new } in
    let changed = standing_set all c.in-Some.place x y here is is in
    let rising = rising_left stands all c.requires.rising in
    subst MemoryInvariant (sym changed) (kept_set objects n place x new rising there found
    c.unpin_by_access.ensures.pages.same c.facts.ensures.counted kept)

pub returns-clause-gone : goal.returns-clause-gone
returns-clause-gone g c =
    let all = c.args.entries.now.items in
    let objects = standing all in
    let n = c.args.run.number in
    let x = c.index_mut-entry.result.now in
    let here = read_at all c.in-Some.place x (rw c.deref.ensures.value at c.in-Some.ensures.within)
    c.index_mut-entry.ensures.value in
    let found = sym (rw c.deref.ensures.value at c.in-Some.ensures.some) ∙ here in
    let is = found_stands all n x found in
    gone_set all c.in-Some.place x (record { number = x.number; areas = x.areas; pages = c.unpin_by_access.new.self })
    here is is

pub returns-clause-rising : goal.returns-clause-rising
returns-clause-rising g c =
    let all = c.args.entries.now.items in
    let x = c.index_mut-entry.result.now in
    let here = read_at all c.in-Some.place x (rw c.deref.ensures.value at c.in-Some.ensures.within)
    c.index_mut-entry.ensures.value in
    rising_set all c.in-Some.place x (record { number = x.number; areas = x.areas; pages = c.unpin_by_access.new.self })
    c.requires.rising here refl

pub returns-clause-pool : goal.returns-clause-pool
returns-clause-pool g c =
    let all = c.args.entries.now.items in
    let objects = standing all in
    let n = c.args.run.number in
    let x = c.index_mut-entry.result.now in
    let here = read_at all c.in-Some.place x (rw c.deref.ensures.value at c.in-Some.ensures.within)
    c.index_mut-entry.ensures.value in
    let found = sym (rw c.deref.ensures.value at c.in-Some.ensures.some) ∙ here in
    let is = found_stands all n x found in
    let there = standing_at all c.in-Some.place x here is in
    let place = place_in all c.in-Some.place in
    let new = c.unpin_by_access.new.self in
    let y : MemoryEntry = record { number = x.number; areas = x.areas; pages = new } in
    let changed = standing_set all c.in-Some.place x y here is is in
    let H : List MemoryEntry → Type 0 = λ xs. HoldsMove objects xs c.args.pool.now c.unpin_by_access.new.pool in
    subst H (sym changed) (holds_taken objects place x y there c.args.pool.now c.unpin_by_access.new.pool
    (gone_frames x.pages.pages c.args.run.first c.args.run.count) c.unpin_by_access.ensures.pool
    c.unpin_by_access.ensures.held)

pub returns-clause-accounts : goal.returns-clause-accounts
returns-clause-accounts g c =
    let all = c.args.entries.now.items in
    let objects = standing all in
    let n = c.args.run.number in
    let x = c.index_mut-entry.result.now in
    let here = read_at all c.in-Some.place x (rw c.deref.ensures.value at c.in-Some.ensures.within)
    c.index_mut-entry.ensures.value in
    let found = sym (rw c.deref.ensures.value at c.in-Some.ensures.some) ∙ here in
    let is = found_stands all n x found in
    let there = standing_at all c.in-Some.place x here is in
    let place = place_in all c.in-Some.place in
    let new = c.unpin_by_access.new.self in
    let y : MemoryEntry = record { number = x.number; areas = x.areas; pages = new } in
    let changed = standing_set all c.in-Some.place x y here is is in
    let rising = rising_left stands all c.requires.rising in
    let known = run_user objects place x c.args.pool.now.holds c.args.accounts.now c.requires.backed there in
    let held = run_held objects place x c.args.pool.now.holds c.args.accounts.now c.requires.backed there in
    let A : List MemoryEntry → Type 0 =
    λ xs. AccountsMove objects xs c.args.accounts.now c.unpin_by_access.new.accounts in
    subst A (sym changed) (accounts_less objects place x y there c.args.accounts.now c.unpin_by_access.new.accounts
    (same_user objects n place x new rising there found c.unpin_by_access.ensures.pages.same) known
    (gone_count x.pages.pages c.args.run.first c.args.run.count) c.unpin_by_access.ensures.accounts
    c.unpin_by_access.ensures.count (omega (arith, held, c.unpin_by_access.ensures.count)))

pub place_of-requires : goal.place_of-requires
place_of-requires g c = rw c.deref.ensures.value c.requires.rising

pub index_mut-entry-requires : goal.index_mut-entry-requires
index_mut-entry-requires g c = rw c.deref.ensures.len at c.in-Some.ensures.within

pub returns-in_default-clause-objects : goal.returns-in_default-clause-objects
returns-in_default-clause-objects g c = absurd (lies_nowhere c.args.run (object_at (standing c.args.entries.now.items) c.args.run.number)
    c.requires.has.lies (rw c.deref.ensures.value at c.in_default.ensures.none))

pub returns-in_default-clause-rows : goal.returns-in_default-clause-rows
returns-in_default-clause-rows g c = refl

pub returns-in_default-clause-kept : goal.returns-in_default-clause-kept
returns-in_default-clause-kept g c kept = kept

pub returns-in_default-clause-gone : goal.returns-in_default-clause-gone
returns-in_default-clause-gone g c = refl

pub returns-in_default-clause-rising : goal.returns-in_default-clause-rising
returns-in_default-clause-rising g c = c.requires.rising

pub returns-in_default-clause-len : goal.returns-in_default-clause-len
returns-in_default-clause-len g c = refl

pub returns-in_default-clause-capacity : goal.returns-in_default-clause-capacity
returns-in_default-clause-capacity g c = refl

pub returns-in_default-clause-pool : goal.returns-in_default-clause-pool
returns-in_default-clause-pool g c = holds_stay (standing c.args.entries.now.items) c.args.pool.now

pub returns-in_default-clause-accounts : goal.returns-in_default-clause-accounts
returns-in_default-clause-accounts g c = accounts_stay (standing c.args.entries.now.items) c.args.accounts.now

pub returns-clause-len : goal.returns-clause-len
returns-clause-len g c = refl

pub returns-clause-capacity : goal.returns-clause-capacity
returns-clause-capacity g c = refl
