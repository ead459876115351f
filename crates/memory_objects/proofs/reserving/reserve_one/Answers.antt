use Rattle.std.proofs.Common.{◌≡◌, ◌∙◌, List, true, subst, refl, sym}
use Rattle.std.proofs.lemmas.Result.{on_err_weaker, on_ok_weaker}
use Rattle.memory_objects.specs.Objects.{MemoryEntry, MemoryGrows, has_memory, object_at, passes, standing}
use Rattle.memory_objects.proofs.Reserved.{enough_now, grows_none, grows_one, lacked_before}
use Rattle.memory_objects.proofs.AreaCounts.{rising_left}
use Rattle.memory_objects.proofs.Gone.{gone_set}
use Rattle.memory_objects.proofs.Standing.{found_at, found_stands, place_in, read_at, rising_set, standing_at, standing_set, stands}
use Rattle.memory_objects.proofs.reserving.reserve_one.Goals as goal

pub returns-in-Some-clause-objects : goal.returns-in-Some-clause-objects
returns-in-Some-clause-objects g c =
    let all = c.args.entries.now.items in
    let objects = standing all in
    let x = c.index_mut-entry.result.now in
    let here = read_at all c.in-Some.place x (rw c.deref.ensures.value at c.in-Some.ensures.within)
    c.index_mut-entry.ensures.value in
    let found = sym (rw c.deref.ensures.value at c.in-Some.ensures.some) ∙ here in
    let is = found_stands all c.args.number x found in
    let there = standing_at all c.in-Some.place x here is in
    let y : MemoryEntry = record { number = x.number; areas = x.areas; pages = c.reserve.new.self } in
    let changed = standing_set all c.in-Some.place x y here is is in
    let G : List MemoryEntry → Type 0 = λ xs. MemoryGrows objects xs in
    subst G (sym changed) (grows_one objects c.args.number (place_in all c.in-Some.place) x c.reserve.new.self
    (rising_left stands all c.requires) there found c.reserve.ensures.pages c.reserve.ensures.capacity
    c.reserve.ensures.room)

pub returns-in-Some-clause-ok : goal.returns-in-Some-clause-ok
returns-in-Some-clause-ok g c =
    let all = c.args.entries.now.items in
    let objects = standing all in
    let x = c.index_mut-entry.result.now in
    let here = read_at all c.in-Some.place x (rw c.deref.ensures.value at c.in-Some.ensures.within)
    c.index_mut-entry.ensures.value in
    let found = sym (rw c.deref.ensures.value at c.in-Some.ensures.some) ∙ here in
    let is = found_stands all c.args.number x found in
    let there = standing_at all c.in-Some.place x here is in
    let y : MemoryEntry = record { number = x.number; areas = x.areas; pages = c.reserve.new.self } in
    let changed = standing_set all c.in-Some.place x y here is is in
    let E : List MemoryEntry → Type 0 = λ xs. passes has_memory (object_at xs c.args.number) ≡ true in
    on_ok_weaker c.reserve.result (λ enough. subst E (sym changed)
    (enough_now objects c.args.number (place_in all c.in-Some.place) x c.reserve.new.self
    (rising_left stands all c.requires) there found c.reserve.ensures.pages c.reserve.ensures.capacity
    c.reserve.ensures.room enough)) c.reserve.ensures.ok

pub returns-in-Some-clause-err : goal.returns-in-Some-clause-err
returns-in-Some-clause-err g c =
    let all = c.args.entries.now.items in
    let objects = standing all in
    let x = c.index_mut-entry.result.now in
    let found = found_at all c.in-Some.place c.args.number x (rw c.deref.ensures.value at c.in-Some.ensures.within)
    c.index_mut-entry.ensures.value (rw c.deref.ensures.value at c.in-Some.ensures.some) in
    on_err_weaker c.reserve.result (lacked_before objects c.args.number x found) c.reserve.ensures.full

pub returns-in-None-clause-objects : goal.returns-in-None-clause-objects
returns-in-None-clause-objects g c = grows_none (standing c.args.entries.now.items)

pub returns-in-Some-clause-rising : goal.returns-in-Some-clause-rising
returns-in-Some-clause-rising g c =
    let all = c.args.entries.now.items in
    let x = c.index_mut-entry.result.now in
    let here = read_at all c.in-Some.place x (rw c.deref.ensures.value at c.in-Some.ensures.within)
    c.index_mut-entry.ensures.value in
    rising_set all c.in-Some.place x (record {
      number = x.number;
      areas = x.areas;
      pages = c.reserve.new.self;
    }) c.requires here refl

pub returns-in-Some-clause-gone : goal.returns-in-Some-clause-gone
returns-in-Some-clause-gone g c =
    let all = c.args.entries.now.items in
    let x = c.index_mut-entry.result.now in
    let here = read_at all c.in-Some.place x (rw c.deref.ensures.value at c.in-Some.ensures.within)
    c.index_mut-entry.ensures.value in
    let found = sym (rw c.deref.ensures.value at c.in-Some.ensures.some) ∙ here in
    let is = found_stands all c.args.number x found in
    let y : MemoryEntry = record { number = x.number; areas = x.areas; pages = c.reserve.new.self } in
    gone_set all c.in-Some.place x y here is is
