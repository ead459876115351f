use Rattle.std.proofs.Common.{◌≡◌, ◌∙◌, ◌≤◌, List, true, refl, sym, ap, subst}
use Rattle.memory_objects.specs.Invariant.{MemoryInvariant}
use Rattle.memory_objects.specs.Objects.{MemoryEntry, object_at, passes, rows_of, standing}
use Rattle.memory_objects.specs.Runs.{has_room_for}
use Rattle.memory_objects.proofs.AreaCounts.{rising_left}
use Rattle.memory_objects.proofs.Gone.{gone_set}
use Rattle.memory_objects.proofs.RunOne.{lies_nowhere}
use Rattle.memory_objects.proofs.RunOne.{at_number, if_found, kept_set, lies_found, rows_set}
use Rattle.memory_objects.proofs.Standing.{found_at, found_stands, place_in, read_at, rising_set, standing_at, standing_set, stands}
use Rattle.std.proofs.lemmas.Result.{on_err_weaker, on_ok_weaker}
use Rattle.memory_objects.proofs.RunOne.{found_counted, has_room_now, lacked_room}
use Rattle.pinned_pages.specs.Access.{are_counted}
use Rattle.pinned_pages.specs.Pages.{ObjectPages}
use Rattle.memory_objects.proofs.accesses.reserve_run.Goals as goal

pub reserve_for_access-requires : goal.reserve_for_access-requires
reserve_for_access-requires g c =
    let all = c.args.entries.now.items in
    let objects = standing all in
    let n = c.args.run.number in
    let x = c.index_mut-entry.result.now in
    let found = found_at all c.in-Some.place n x (rw c.deref.ensures.value at c.in-Some.ensures.within)
    c.index_mut-entry.ensures.value (rw c.deref.ensures.value at c.in-Some.ensures.some) in
    record { run = lies_found c.args.run (object_at objects n) x c.requires.lies found }

pub returns-in-Some-clause-objects : goal.returns-in-Some-clause-objects
returns-in-Some-clause-objects g c =
    let all = c.args.entries.now.items in
    let objects = standing all in
    let n = c.args.run.number in
    let x = c.index_mut-entry.result.now in
    let here = read_at all c.in-Some.place x (rw c.deref.ensures.value at c.in-Some.ensures.within)
    c.index_mut-entry.ensures.value in
    let found = sym (rw c.deref.ensures.value at c.in-Some.ensures.some) ∙ here in
    let is = found_stands all n x found in
    let there = standing_at all c.in-Some.place x here is in
    let place = place_in all c.in-Some.place in
    let new = c.reserve_for_access.new.self in
    let y : MemoryEntry = record { number = x.number; areas = x.areas; pages = new } in
    let changed = standing_set all c.in-Some.place x y here is is in
    let rising = rising_left stands all c.requires.rising in
    record {
      pages = new;
      objects = changed ∙ at_number objects n place x new rising there found;
      same = if_found (λ o. new.pages ≡ o.pages.pages) (object_at objects n) x found c.reserve_for_access.ensures.pages;
      capacity = if_found (λ o. new.capacity ≡ o.pages.capacity) (object_at objects n) x found
          c.reserve_for_access.ensures.capacity;
      more = if_found (λ o. o.pages.room ≤ new.room) (object_at objects n) x found c.reserve_for_access.ensures.room;
    }

pub returns-in-Some-clause-rows : goal.returns-in-Some-clause-rows
returns-in-Some-clause-rows g c =
    let all = c.args.entries.now.items in
    let objects = standing all in
    let n = c.args.run.number in
    let x = c.index_mut-entry.result.now in
    let here = read_at all c.in-Some.place x (rw c.deref.ensures.value at c.in-Some.ensures.within)
    c.index_mut-entry.ensures.value in
    let found = sym (rw c.deref.ensures.value at c.in-Some.ensures.some) ∙ here in
    let is = found_stands all n x found in
    let there = standing_at all c.in-Some.place x here is in
    let place = place_in all c.in-Some.place in
    let new = c.reserve_for_access.new.self in
    let y : MemoryEntry = record { number = x.number; areas = x.areas; pages = new } in
    let changed = standing_set all c.in-Some.place x y here is is in
    let rising = rising_left stands all c.requires.rising in
    let same = c.reserve_for_access.ensures.pages in
    ap rows_of changed ∙ rows_set objects n place x new rising there found
    (same ∙ ap (λ (p : ObjectPages). record x.pages.pages { access = p.access }) (sym same))

pub returns-in-Some-clause-kept : goal.returns-in-Some-clause-kept
returns-in-Some-clause-kept g c kept =
    let all = c.args.entries.now.items in
    let objects = standing all in
    let n = c.args.run.number in
    let x = c.index_mut-entry.result.now in
    let here = read_at all c.in-Some.place x (rw c.deref.ensures.value at c.in-Some.ensures.within)
    c.index_mut-entry.ensures.value in
    let found = sym (rw c.deref.ensures.value at c.in-Some.ensures.some) ∙ here in
    let is = found_stands all n x found in
    let there = standing_at all c.in-Some.place x here is in
    let place = place_in all c.in-Some.place in
    let new = c.reserve_for_access.new.self in
    let y : MemoryEntry = record { number = x.number; areas = x.areas; pages = new } in
    let changed = standing_set all c.in-Some.place x y here is is in
    let rising = rising_left stands all c.requires.rising in
    let counted = found_counted objects place x kept there in
    let same = c.reserve_for_access.ensures.pages in
    subst MemoryInvariant (sym changed) (kept_set objects n place x new rising there found
    (same ∙ ap (λ (p : ObjectPages). record x.pages.pages { access = p.access }) (sym same))
    (ap (λ (p : ObjectPages). are_counted p.count p.access) same ∙ counted) kept)

pub returns-in-Some-clause-ok : goal.returns-in-Some-clause-ok
returns-in-Some-clause-ok g c =
    let all = c.args.entries.now.items in
    let objects = standing all in
    let n = c.args.run.number in
    let x = c.index_mut-entry.result.now in
    let here = read_at all c.in-Some.place x (rw c.deref.ensures.value at c.in-Some.ensures.within)
    c.index_mut-entry.ensures.value in
    let found = sym (rw c.deref.ensures.value at c.in-Some.ensures.some) ∙ here in
    let is = found_stands all n x found in
    let there = standing_at all c.in-Some.place x here is in
    let place = place_in all c.in-Some.place in
    let new = c.reserve_for_access.new.self in
    let y : MemoryEntry = record { number = x.number; areas = x.areas; pages = new } in
    let changed = standing_set all c.in-Some.place x y here is is in
    let rising = rising_left stands all c.requires.rising in
    let E : List MemoryEntry → Type 0 = λ xs. passes (has_room_for c.args.run) (object_at xs n) ≡ true in
    on_ok_weaker c.reserve_for_access.result (λ enough. subst E (sym changed)
    (has_room_now objects n place x new rising there found c.args.run c.reserve_for_access.ensures.pages enough))
    c.reserve_for_access.ensures.ok

pub returns-in-Some-clause-err : goal.returns-in-Some-clause-err
returns-in-Some-clause-err g c =
    let all = c.args.entries.now.items in
    let objects = standing all in
    let n = c.args.run.number in
    let x = c.index_mut-entry.result.now in
    let found = found_at all c.in-Some.place n x (rw c.deref.ensures.value at c.in-Some.ensures.within)
    c.index_mut-entry.ensures.value (rw c.deref.ensures.value at c.in-Some.ensures.some) in
    on_err_weaker c.reserve_for_access.result (lacked_room (object_at objects n) x found c.args.run)
    c.reserve_for_access.ensures.full

pub returns-in-Some-clause-gone : goal.returns-in-Some-clause-gone
returns-in-Some-clause-gone g c =
    let all = c.args.entries.now.items in
    let objects = standing all in
    let n = c.args.run.number in
    let x = c.index_mut-entry.result.now in
    let here = read_at all c.in-Some.place x (rw c.deref.ensures.value at c.in-Some.ensures.within)
    c.index_mut-entry.ensures.value in
    let found = sym (rw c.deref.ensures.value at c.in-Some.ensures.some) ∙ here in
    let is = found_stands all n x found in
    gone_set all c.in-Some.place x (record {
      number = x.number;
      areas = x.areas;
      pages = c.reserve_for_access.new.self;
    }) here is is

pub returns-in-Some-clause-rising : goal.returns-in-Some-clause-rising
returns-in-Some-clause-rising g c =
    let all = c.args.entries.now.items in
    let x = c.index_mut-entry.result.now in
    let here = read_at all c.in-Some.place x (rw c.deref.ensures.value at c.in-Some.ensures.within)
    c.index_mut-entry.ensures.value in
    rising_set all c.in-Some.place x (record {
      number = x.number;
      areas = x.areas;
      pages =
          c.reserve_for_access.new.self;
    })
    c.requires.rising here refl

pub place_of-requires : goal.place_of-requires
place_of-requires g c = rw c.deref.ensures.value c.requires.rising

pub index_mut-entry-requires : goal.index_mut-entry-requires
index_mut-entry-requires g c = rw c.deref.ensures.len at c.in-Some.ensures.within

pub returns-in-None-clause-ok : goal.returns-in-None-clause-ok
returns-in-None-clause-ok g c = absurd (lies_nowhere c.args.run (object_at (standing c.args.entries.now.items) c.args.run.number)
    c.requires.lies (rw c.deref.ensures.value at c.in-None.ensures.none))

pub returns-in-None-clause-objects : goal.returns-in-None-clause-objects
returns-in-None-clause-objects g c = absurd (lies_nowhere c.args.run (object_at (standing c.args.entries.now.items) c.args.run.number)
    c.requires.lies (rw c.deref.ensures.value at c.in-None.ensures.none))

pub returns-in-None-clause-rows : goal.returns-in-None-clause-rows
returns-in-None-clause-rows g c = refl

pub returns-in-None-clause-kept : goal.returns-in-None-clause-kept
returns-in-None-clause-kept g c kept = kept

pub returns-in-None-clause-gone : goal.returns-in-None-clause-gone
returns-in-None-clause-gone g c = refl

pub returns-in-None-clause-rising : goal.returns-in-None-clause-rising
returns-in-None-clause-rising g c = c.requires.rising

pub returns-in-None-clause-len : goal.returns-in-None-clause-len
returns-in-None-clause-len g c = refl

pub returns-in-None-clause-capacity : goal.returns-in-None-clause-capacity
returns-in-None-clause-capacity g c = refl

pub returns-in-None-clause-err : goal.returns-in-None-clause-err
returns-in-None-clause-err g c = tt

pub returns-in-Some-clause-len : goal.returns-in-Some-clause-len
returns-in-Some-clause-len g c = refl

pub returns-in-Some-clause-capacity : goal.returns-in-Some-clause-capacity
returns-in-Some-clause-capacity g c = refl
