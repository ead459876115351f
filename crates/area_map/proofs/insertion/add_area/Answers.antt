use Rattle.std.proofs.Common.{◌≡◌, ◌∙◌, ℕ, ◌+◌, ◌-◌, ◌==◌, ◌<◌, true, false, leb, ltb, min, List, [], length}
use Rattle.std.proofs.Common.{length-set, get_or, refl, sym, arith}
use Rattle.std.proofs.lemmas.Bool.Decides.{nat_tests}
use Rattle.std.proofs.lemmas.List.{take-set}
use Rattle.iofd_words.specs.declared.rows.Area.{Area}
use Rattle.area_map_rows.specs.Areas.{with_area}
use Rattle.std.specs.List.{prefix_len}
use Rattle.area_map_rows.specs.Rows.{end_of}
use Rattle.area_map.specs.Kept.{takes_row}
use Rattle.area_map_rows.proofs.Added.{length-with_area}
use Rattle.area_map.proofs.Joined.{joined-set}
use Rattle.area_map.proofs.Room.{room-none, room-one}
use Rattle.area_map.proofs.RowsAdded.{added_in_row, row-alone, full_row, added_row, back_with, rows-before, rows-behind}
use Rattle.area_map_rows.proofs.Rows.{row-apart, row-few}
use Rattle.area_map.proofs.RowsSame.{same_set, same_past}
use Rattle.area_map.proofs.insertion.add_area.Goals as goal

-- where there is a row, the place is that of one
some_row : (rows : List (List Area)) (index count first : ℕ) → (count == 0) ≡ false → length rows ≡ count
    → index ≡ min (prefix_len (λ (row : List Area). ltb (end_of row) first) rows) (length rows - 1)
    → index < length rows
some_row rows index count first some long place = grind (arith, nat_tests)

takes_full : (rows : List (List Area)) (index : ℕ) → leb 32 (length (get_or rows index []) + 1) ≡ true
    → takes_row rows index ≡ true
takes_full rows index full = grind (arith, nat_tests)

pub add_to-requires-clause-bound : goal.add_to-requires-clause-bound
add_to-requires-clause-bound g c =
    let long = rw c.deref_mut.ensures.value at c.deref_mut.ensures.len in
    let within = some_row c.args.rows.now.items c.args.index c.args.rows.now.len c.args.area.span.first
    (sym c.if-is_empty.ensures) long c.requires.place in
    rw c.deref_mut.ensures.value within

pub add_to-requires-clause-apart : goal.add_to-requires-clause-apart
add_to-requires-clause-apart g c =
    let long = rw c.deref_mut.ensures.value at c.deref_mut.ensures.len in
    let within = some_row c.args.rows.now.items c.args.index c.args.rows.now.len c.args.area.span.first
    (sym c.if-is_empty.ensures) long c.requires.place in
    rw c.deref_mut.ensures.value (row-apart 0 c.args.rows.now.items c.args.index within
    c.requires.rows c.requires.apart)

pub add_to-requires-clause-few : goal.add_to-requires-clause-few
add_to-requires-clause-few g c =
    let long = rw c.deref_mut.ensures.value at c.deref_mut.ensures.len in
    let within = some_row c.args.rows.now.items c.args.index c.args.rows.now.len c.args.area.span.first
    (sym c.if-is_empty.ensures) long c.requires.place in
    rw c.deref_mut.ensures.value ((row-few c.args.rows.now.items c.args.index within c.requires.rows).1)

pub add_to-requires-clause-alone : goal.add_to-requires-clause-alone
add_to-requires-clause-alone g c =
    let long = rw c.deref_mut.ensures.value at c.deref_mut.ensures.len in
    let within = some_row c.args.rows.now.items c.args.index c.args.rows.now.len c.args.area.span.first
    (sym c.if-is_empty.ensures) long c.requires.place in
    rw c.deref_mut.ensures.value (row-alone c.args.area.span c.args.rows.now.items c.args.index within c.requires.alone)

pub split-requires-clause-bound : goal.split-requires-clause-bound
split-requires-clause-bound g c =
    let long = rw c.deref_mut.ensures.value at c.deref_mut.ensures.len in
    let within = some_row c.args.rows.now.items c.args.index c.args.rows.now.len c.args.area.span.first
    (sym c.if-is_empty.ensures) long c.requires.place in
    let same = length-set c.args.rows.now.items c.args.index
    (with_area c.args.area (get_or c.args.rows.now.items c.args.index [])) in
    let written = back_with c.args.area c.args.rows.now.items c.add_to.new.rows c.args.index c.args.rows.now.len
    (rw c.deref_mut.ensures.value at c.add_to.ensures.rows) long in
    rw (written, same) within

pub split-requires-clause-spare : goal.split-requires-clause-spare
split-requires-clause-spare g c = c.requires.spare

pub returns-then-add_to-clause-rows : goal.returns-then-add_to-clause-rows
returns-then-add_to-clause-rows g c = c.split.ensures.rows

pub returns-else-add_to-clause-spare : goal.returns-else-add_to-clause-spare
returns-else-add_to-clause-spare g c = c.requires.spare

pub add_first-requires-clause-spare : goal.add_first-requires-clause-spare
add_first-requires-clause-spare g c = c.requires.spare

pub split-requires-clause-full : goal.split-requires-clause-full
split-requires-clause-full g c =
    let long = rw c.deref_mut.ensures.value at c.deref_mut.ensures.len in
    let within = some_row c.args.rows.now.items c.args.index c.args.rows.now.len c.args.area.span.first
    (sym c.if-is_empty.ensures) long c.requires.place in
    let written = back_with c.args.area c.args.rows.now.items c.add_to.new.rows c.args.index c.args.rows.now.len
    (rw c.deref_mut.ensures.value at c.add_to.ensures.rows) long in
    let full : leb 32 (length (get_or c.args.rows.now.items c.args.index []) + 1) ≡ true =
    sym (rw c.deref_mut.ensures.value at c.if-add_to.ensures.full) in
    rw written (full_row c.args.area c.args.rows.now.items c.args.index within c.requires.rows full)

pub split-requires-clause-before : goal.split-requires-clause-before
split-requires-clause-before g c =
    let long = rw c.deref_mut.ensures.value at c.deref_mut.ensures.len in
    let within = some_row c.args.rows.now.items c.args.index c.args.rows.now.len c.args.area.span.first
    (sym c.if-is_empty.ensures) long c.requires.place in
    let written = back_with c.args.area c.args.rows.now.items c.add_to.new.rows c.args.index c.args.rows.now.len
    (rw c.deref_mut.ensures.value at c.add_to.ensures.rows) long in
    rw written (rows-before c.args.rows.now.items c.args.index
    (with_area c.args.area (get_or c.args.rows.now.items c.args.index [])) c.requires.rows)

pub split-requires-clause-behind : goal.split-requires-clause-behind
split-requires-clause-behind g c =
    let long = rw c.deref_mut.ensures.value at c.deref_mut.ensures.len in
    let within = some_row c.args.rows.now.items c.args.index c.args.rows.now.len c.args.area.span.first
    (sym c.if-is_empty.ensures) long c.requires.place in
    let written = back_with c.args.area c.args.rows.now.items c.add_to.new.rows c.args.index c.args.rows.now.len
    (rw c.deref_mut.ensures.value at c.add_to.ensures.rows) long in
    rw written (rows-behind c.args.rows.now.items c.args.index
    (with_area c.args.area (get_or c.args.rows.now.items c.args.index [])) c.requires.rows)

pub returns-then-add_to-clause-areas : goal.returns-then-add_to-clause-areas
returns-then-add_to-clause-areas g c =
    let long = rw c.deref_mut.ensures.value at c.deref_mut.ensures.len in
    let within = some_row c.args.rows.now.items c.args.index c.args.rows.now.len c.args.area.span.first
    (sym c.if-is_empty.ensures) long c.requires.place in
    let written = back_with c.args.area c.args.rows.now.items c.add_to.new.rows c.args.index c.args.rows.now.len
    (rw c.deref_mut.ensures.value at c.add_to.ensures.rows) long in
    c.split.ensures.areas ∙ rw written
    (added_in_row c.args.area 0 c.args.rows.now.items c.args.index (omega arith) c.requires.rows c.requires.apart
    (omega arith) c.requires.alone c.requires.place)

pub returns-else-add_to-clause-areas : goal.returns-else-add_to-clause-areas
returns-else-add_to-clause-areas g c =
    let long = rw c.deref_mut.ensures.value at c.deref_mut.ensures.len in
    let within = some_row c.args.rows.now.items c.args.index c.args.rows.now.len c.args.area.span.first
    (sym c.if-is_empty.ensures) long c.requires.place in
    let written = back_with c.args.area c.args.rows.now.items c.add_to.new.rows c.args.index c.args.rows.now.len
    (rw c.deref_mut.ensures.value at c.add_to.ensures.rows) long in
    rw written
    (added_in_row c.args.area 0 c.args.rows.now.items c.args.index (omega arith) c.requires.rows c.requires.apart
    (omega arith) c.requires.alone c.requires.place)

pub returns-else-add_to-clause-rows : goal.returns-else-add_to-clause-rows
returns-else-add_to-clause-rows g c =
    let long = rw c.deref_mut.ensures.value at c.deref_mut.ensures.len in
    let within = some_row c.args.rows.now.items c.args.index c.args.rows.now.len c.args.area.span.first
    (sym c.if-is_empty.ensures) long c.requires.place in
    let written = back_with c.args.area c.args.rows.now.items c.add_to.new.rows c.args.index c.args.rows.now.len
    (rw c.deref_mut.ensures.value at c.add_to.ensures.rows) long in
    let more : leb 32 (length (get_or c.args.rows.now.items c.args.index []) + 1) ≡ false =
    sym (rw c.deref_mut.ensures.value at c.if-add_to.ensures.full) in
    rw written (added_row c.args.area c.args.rows.now.items c.args.index within c.requires.rows more)

pub returns-else-add_to-clause-others : goal.returns-else-add_to-clause-others
returns-else-add_to-clause-others g c =
    let long = rw c.deref_mut.ensures.value at c.deref_mut.ensures.len in
    let within = some_row c.args.rows.now.items c.args.index c.args.rows.now.len c.args.area.span.first
    (sym c.if-is_empty.ensures) long c.requires.place in
    let written = back_with c.args.area c.args.rows.now.items c.add_to.new.rows c.args.index c.args.rows.now.len
    (rw c.deref_mut.ensures.value at c.add_to.ensures.rows) long in
    rw written (same_set c.args.rows.now.items c.args.index
    (with_area c.args.area (get_or c.args.rows.now.items c.args.index [])))

pub returns-then-add_to-clause-others : goal.returns-then-add_to-clause-others
returns-then-add_to-clause-others g c =
    let long = rw c.deref_mut.ensures.value at c.deref_mut.ensures.len in
    let within = some_row c.args.rows.now.items c.args.index c.args.rows.now.len c.args.area.span.first
    (sym c.if-is_empty.ensures) long c.requires.place in
    let rows : List (List Area) = c.args.rows.now.items in
    let row = with_area c.args.area (get_or rows c.args.index []) in
    let written = back_with c.args.area rows c.add_to.new.rows c.args.index c.args.rows.now.len
    (rw c.deref_mut.ensures.value at c.add_to.ensures.rows) long in
    record {
      before = c.split.ensures.before ∙ rw written (take-set rows c.args.index row);
      behind = same_past c.len.result rows c.split.new.rows.items (omega arith) (omega arith);
    }

pub returns-then-is_empty-clause-rows : goal.returns-then-is_empty-clause-rows
returns-then-is_empty-clause-rows g c = rw c.add_first.ensures.rows (omega arith, omega arith, tt)

pub returns-then-is_empty-clause-spare : goal.returns-then-is_empty-clause-spare
returns-then-is_empty-clause-spare g c = rw c.add_first.ensures.spare tt

pub split-requires-clause-some : goal.split-requires-clause-some
split-requires-clause-some g c =
    let full : leb 32 (length (get_or c.args.rows.now.items c.args.index []) + 1) ≡ true =
    sym (rw c.deref_mut.ensures.value at c.if-add_to.ensures.full) in
    let some = c.requires.room (takes_full c.args.rows.now.items c.args.index full) in
    some

pub returns-then-add_to-clause-spare : goal.returns-then-add_to-clause-spare
returns-then-add_to-clause-spare g c = rw c.split.ensures.spare tt

pub returns-then-add_to-clause-places : goal.returns-then-add_to-clause-places
returns-then-add_to-clause-places g c =
    let full : leb 32 (length (get_or c.args.rows.now.items c.args.index []) + 1) ≡ true =
    sym (rw c.deref_mut.ensures.value at c.if-add_to.ensures.full) in
    let some = c.requires.room (takes_full c.args.rows.now.items c.args.index full) in
    let one = room-one c.args.spare.now some in
    let none = room-none c.split.new.spare c.split.ensures.spare in
    omega (arith, one, none, c.split.ensures.len)

pub returns-else-add_to-clause-places : goal.returns-else-add_to-clause-places
returns-else-add_to-clause-places g c = refl

pub split-requires-clause-joined : goal.split-requires-clause-joined
split-requires-clause-joined g c =
    let long = rw c.deref_mut.ensures.value at c.deref_mut.ensures.len in
    let rows : List (List Area) = c.args.rows.now.items in
    let row : List Area = get_or rows c.args.index [] in
    let more = length-with_area c.args.area row in
    let written = back_with c.args.area c.args.rows.now.items c.add_to.new.rows c.args.index c.args.rows.now.len
    (rw c.deref_mut.ensures.value at c.add_to.ensures.rows) long in
    rw written (joined-set rows c.args.index (with_area c.args.area row) (omega (arith, more)) c.requires.joined)

pub returns-else-add_to-clause-joined : goal.returns-else-add_to-clause-joined
returns-else-add_to-clause-joined g c =
    let long = rw c.deref_mut.ensures.value at c.deref_mut.ensures.len in
    let rows : List (List Area) = c.args.rows.now.items in
    let row : List Area = get_or rows c.args.index [] in
    let more = length-with_area c.args.area row in
    let written = back_with c.args.area c.args.rows.now.items c.add_to.new.rows c.args.index c.args.rows.now.len
    (rw c.deref_mut.ensures.value at c.add_to.ensures.rows) long in
    rw written (joined-set rows c.args.index (with_area c.args.area row) (omega (arith, more)) c.requires.joined)
