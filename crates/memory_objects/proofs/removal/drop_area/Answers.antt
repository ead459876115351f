use Rattle.std.proofs.Common.{◌≡◌, ◌∙◌, ◌-◌, Some, true, not, length, set, refl, sym, ap, arith}
use Rattle.std.specs.List.{list_all, slice_get}
use Rattle.std.proofs.lemmas.Bool.{eq-eqb, ne_eqb}
use Rattle.std.proofs.lemmas.Bool.Decides.{nat_tests}
use Rattle.std.proofs.lemmas.List.{length-set}
use Rattle.std.proofs.lemmas.Option.{slice_get_read}
use Rattle.memory_objects.specs.Objects.{MemoryEntry, is_freed, object_at, standing, with_areas}
use Rattle.memory_objects.proofs.AreaCounts.{area_dropped, no_area_dropped, rising_left}
use Rattle.memory_objects.proofs.Gone.{freed_set, gone_set, last_pins}
use Rattle.memory_objects.proofs.Standing.{fewer_standing, found_stands, place_in, rising_set, standing_at}
use Rattle.memory_objects.proofs.Standing.{standing_gone, standing_set, standing_twice, stands}
use Rattle.memory_objects.proofs.removal.drop_area.Goals as goal

pub overflow_sub-entry : goal.overflow_sub-entry
overflow_sub-entry g c =
    let all = c.args.entries.now.items in
    let x = c.index_mut-entry.result.now in
    let here : slice_get all c.in-Some.place ≡ Some x =
    slice_get_read all (length all) c.in-Some.place x refl (rw c.deref.ensures.value at c.in-Some.ensures.within)
    c.index_mut-entry.ensures.value in
    let is = found_stands all c.args.number x (sym (rw c.deref.ensures.value at c.in-Some.ensures.some) ∙ here) in
    grind (arith, nat_tests)

pub returns-in_default-clause-entries : goal.returns-in_default-clause-entries
returns-in_default-clause-entries g c =
    let all = c.args.entries.now.items in
    sym (standing_twice all) ∙ ap standing (no_area_dropped (standing all) c.args.number
    (rw c.deref.ensures.value at c.in_default.ensures.none))

pub returns-then-entry-ne0-clause-entries : goal.returns-then-entry-ne0-clause-entries
returns-then-entry-ne0-clause-entries g c =
    let all = c.args.entries.now.items in
    let x = c.index_mut-entry.result.now in
    let here : slice_get all c.in-Some.place ≡ Some x =
    slice_get_read all (length all) c.in-Some.place x refl (rw c.deref.ensures.value at c.in-Some.ensures.within)
    c.index_mut-entry.ensures.value in
    let found : object_at (standing all) c.args.number ≡ Some x =
    sym (rw c.deref.ensures.value at c.in-Some.ensures.some) ∙ here in
    let is = found_stands all c.args.number x found in
    let there = standing_at all c.in-Some.place x here is in
    let y = with_areas (x.areas - 1) x in
    let still : stands y ≡ true = ap not (ne_eqb (x.areas - 1) 0 c.if-entry-ne0.true) in
    let changed = standing_set all c.in-Some.place x y here is still in
    let less = area_dropped (standing all) c.args.number (place_in all c.in-Some.place) x
    (rising_left stands all c.requires.rising) there found in
    sym (standing_twice (set all c.in-Some.place y)) ∙ ap standing (changed ∙ less)

pub returns-then-entry-ne0-clause-rising : goal.returns-then-entry-ne0-clause-rising
returns-then-entry-ne0-clause-rising g c =
    let all = c.args.entries.now.items in
    let x = c.index_mut-entry.result.now in
    let here : slice_get all c.in-Some.place ≡ Some x =
    slice_get_read all (length all) c.in-Some.place x refl (rw c.deref.ensures.value at c.in-Some.ensures.within)
    c.index_mut-entry.ensures.value in
    rising_set all c.in-Some.place x (with_areas (x.areas - 1) x) c.requires.rising here refl

pub returns-then-entry-ne0-clause-gone : goal.returns-then-entry-ne0-clause-gone
returns-then-entry-ne0-clause-gone g c =
    let all = c.args.entries.now.items in
    let x = c.index_mut-entry.result.now in
    let here : slice_get all c.in-Some.place ≡ Some x =
    slice_get_read all (length all) c.in-Some.place x refl (rw c.deref.ensures.value at c.in-Some.ensures.within)
    c.index_mut-entry.ensures.value in
    let is = found_stands all c.args.number x (sym (rw c.deref.ensures.value at c.in-Some.ensures.some) ∙ here) in
    let y = with_areas (x.areas - 1) x in
    let still : stands y ≡ true = ap not (ne_eqb (x.areas - 1) 0 c.if-entry-ne0.true) in
    let same = ap length (standing_set all c.in-Some.place x y here is still)
    ∙ length-set (standing all) (place_in all c.in-Some.place) y in
    omega (arith, same)

pub returns-clause-entries : goal.returns-clause-entries
returns-clause-entries g c =
    let all = c.args.entries.now.items in
    let x = c.index_mut-entry.result.now in
    let here : slice_get all c.in-Some.place ≡ Some x =
    slice_get_read all (length all) c.in-Some.place x refl (rw c.deref.ensures.value at c.in-Some.ensures.within)
    c.index_mut-entry.ensures.value in
    let found : object_at (standing all) c.args.number ≡ Some x =
    sym (rw c.deref.ensures.value at c.in-Some.ensures.some) ∙ here in
    let is = found_stands all c.args.number x found in
    let there = standing_at all c.in-Some.place x here is in
    let y : MemoryEntry = record { number = x.number; areas = x.areas - 1; pages = c.free_frames.new.self } in
    let none = eq-eqb (x.areas - 1) 0 c.if-entry-ne0.false in
    let less = area_dropped (standing all) c.args.number (place_in all c.in-Some.place) x
    (rising_left stands all c.requires.rising) there found in
    standing_gone all c.in-Some.place x y (with_areas (x.areas - 1) x) here is (ap not none) (ap not none)
    ∙ ap standing less

pub returns-clause-rising : goal.returns-clause-rising
returns-clause-rising g c =
    let all = c.args.entries.now.items in
    let x = c.index_mut-entry.result.now in
    let here : slice_get all c.in-Some.place ≡ Some x =
    slice_get_read all (length all) c.in-Some.place x refl (rw c.deref.ensures.value at c.in-Some.ensures.within)
    c.index_mut-entry.ensures.value in
    rising_set all c.in-Some.place x (record { number = x.number; areas = x.areas - 1; pages = c.free_frames.new.self })
    c.requires.rising here refl

pub returns-clause-gone : goal.returns-clause-gone
returns-clause-gone g c =
    let all = c.args.entries.now.items in
    let x = c.index_mut-entry.result.now in
    let here : slice_get all c.in-Some.place ≡ Some x =
    slice_get_read all (length all) c.in-Some.place x refl (rw c.deref.ensures.value at c.in-Some.ensures.within)
    c.index_mut-entry.ensures.value in
    let is = found_stands all c.args.number x (sym (rw c.deref.ensures.value at c.in-Some.ensures.some) ∙ here) in
    let y : MemoryEntry = record { number = x.number; areas = x.areas - 1; pages = c.free_frames.new.self } in
    fewer_standing all c.in-Some.place x y here is (ap not (eq-eqb (x.areas - 1) 0 c.if-entry-ne0.false))

pub returns-then-entry-ne0-clause-freed : goal.returns-then-entry-ne0-clause-freed
returns-then-entry-ne0-clause-freed g c =
    let all = c.args.entries.now.items in
    let x = c.index_mut-entry.result.now in
    let here : slice_get all c.in-Some.place ≡ Some x =
    slice_get_read all (length all) c.in-Some.place x refl (rw c.deref.ensures.value at c.in-Some.ensures.within)
    c.index_mut-entry.ensures.value in
    let found : object_at (standing all) c.args.number ≡ Some x =
    sym (rw c.deref.ensures.value at c.in-Some.ensures.some) ∙ here in
    let is = found_stands all c.args.number x found in
    let y = with_areas (x.areas - 1) x in
    let still : stands y ≡ true = ap not (ne_eqb (x.areas - 1) 0 c.if-entry-ne0.true) in
    ap (list_all is_freed) (gone_set all c.in-Some.place x y here is still) ∙ c.requires.freed

pub returns-clause-freed : goal.returns-clause-freed
returns-clause-freed g c =
    let all = c.args.entries.now.items in
    let x = c.index_mut-entry.result.now in
    let here : slice_get all c.in-Some.place ≡ Some x =
    slice_get_read all (length all) c.in-Some.place x refl (rw c.deref.ensures.value at c.in-Some.ensures.within)
    c.index_mut-entry.ensures.value in
    let found : object_at (standing all) c.args.number ≡ Some x =
    sym (rw c.deref.ensures.value at c.in-Some.ensures.some) ∙ here in
    let is = found_stands all c.args.number x found in
    let y : MemoryEntry = record { number = x.number; areas = x.areas - 1; pages = c.free_frames.new.self } in
    let none = eq-eqb (x.areas - 1) 0 c.if-entry-ne0.false in
    let unpinned = last_pins (standing all) c.args.number x c.requires.pins found none in
    freed_set all c.in-Some.place x y here is (rw (c.free_frames.ensures.none unpinned) refl) c.requires.freed
