use Rattle.std.proofs.Common.{◌≡◌, ◌∙◌, ◌+◌, true, arith, refl, sym}
use Rattle.std.proofs.lemmas.Bool.Decides.{nat_tests}
use Rattle.memory_objects.specs.Objects.{MemoryEntry, standing, with_areas}
use Rattle.memory_objects.proofs.AreaCounts.{area_added, no_area_added}
use Rattle.memory_objects.proofs.AreaCounts.{rising_left}
use Rattle.memory_objects.proofs.Gone.{gone_set}
use Rattle.memory_objects.proofs.Standing.{found_at, found_stands, place_in, read_at, rising_set, standing_at, standing_set, stands}
use Rattle.memory_objects.proofs.removal.add_area.Goals as goal

more_stand : (x : MemoryEntry) → stands (with_areas (x.areas + 1) x) ≡ true
more_stand x = grind (arith, nat_tests)

pub returns-in-Some-clause-entries : goal.returns-in-Some-clause-entries
returns-in-Some-clause-entries g c =
    let all = c.args.entries.now.items in
    let objects = standing all in
    let x = c.index_mut-entry.result.now in
    let here = read_at all c.in-Some.place x (rw c.deref.ensures.value at c.in-Some.ensures.within)
    c.index_mut-entry.ensures.value in
    let found = sym (rw c.deref.ensures.value at c.in-Some.ensures.some) ∙ here in
    let is = found_stands all c.args.number x found in
    let there = standing_at all c.in-Some.place x here is in
    let y = with_areas (x.areas + 1) x in
    standing_set all c.in-Some.place x y here is (more_stand x)
    ∙ area_added objects c.args.number (place_in all c.in-Some.place) x
    (rising_left stands all c.requires.rising) there found

pub returns-in_default-clause-entries : goal.returns-in_default-clause-entries
returns-in_default-clause-entries g c =
    no_area_added (standing c.args.entries.now.items) c.args.number
    (rw c.deref.ensures.value at c.in_default.ensures.none)

pub returns-in-Some-clause-rising : goal.returns-in-Some-clause-rising
returns-in-Some-clause-rising g c =
    let all = c.args.entries.now.items in
    let x = c.index_mut-entry.result.now in
    let here = read_at all c.in-Some.place x (rw c.deref.ensures.value at c.in-Some.ensures.within)
    c.index_mut-entry.ensures.value in
    rising_set all c.in-Some.place x (with_areas (x.areas + 1) x) c.requires.rising here refl

pub place_of-requires : goal.place_of-requires
place_of-requires g c = rw c.deref.ensures.value c.requires.rising

pub index_mut-entry-requires : goal.index_mut-entry-requires
index_mut-entry-requires g c = rw c.deref.ensures.len at c.in-Some.ensures.within

pub overflow_add-entry : goal.overflow_add-entry
overflow_add-entry g c =
    let all = c.args.entries.now.items in
    let x = c.index_mut-entry.result.now in
    let found = found_at all c.in-Some.place c.args.number x (rw c.deref.ensures.value at c.in-Some.ensures.within)
    c.index_mut-entry.ensures.value (rw c.deref.ensures.value at c.in-Some.ensures.some) in
    record { fits = rw found at c.requires.few }

pub returns-in-Some-clause-len : goal.returns-in-Some-clause-len
returns-in-Some-clause-len g c = refl

pub returns-in-Some-clause-capacity : goal.returns-in-Some-clause-capacity
returns-in-Some-clause-capacity g c = refl

pub returns-in_default-clause-rising : goal.returns-in_default-clause-rising
returns-in_default-clause-rising g c = c.requires.rising

pub returns-in_default-clause-len : goal.returns-in_default-clause-len
returns-in_default-clause-len g c = refl

pub returns-in_default-clause-capacity : goal.returns-in_default-clause-capacity
returns-in_default-clause-capacity g c = refl

pub returns-in-Some-clause-gone : goal.returns-in-Some-clause-gone
returns-in-Some-clause-gone g c =
    let all = c.args.entries.now.items in
    let x = c.index_mut-entry.result.now in
    let here = read_at all c.in-Some.place x (rw c.deref.ensures.value at c.in-Some.ensures.within)
    c.index_mut-entry.ensures.value in
    let found = sym (rw c.deref.ensures.value at c.in-Some.ensures.some) ∙ here in
    let is = found_stands all c.args.number x found in
    let y = with_areas (x.areas + 1) x in
    gone_set all c.in-Some.place x y here is (more_stand x)

pub returns-in_default-clause-gone : goal.returns-in_default-clause-gone
returns-in_default-clause-gone g c = refl
