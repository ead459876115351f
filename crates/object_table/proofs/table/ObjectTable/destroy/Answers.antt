use Rattle.std.proofs.Common.{◌≡◌, arith, refl, sym, ap, ◌∙◌, Some, rules}
use Rattle.std.specs.Option.{option_map}
use Rattle.object_table.specs.Layout.{row_of}
use Rattle.object_table.proofs.FileRows.{some_from_map}
use Rattle.object_table.proofs.Tables.{place_of_row, row_at-inside, reserved_id-new, rows_removed, files_kept}
use Rattle.object_table.proofs.Tables.{others_keep_room}
use Rattle.object_table.proofs.Keys.{IsInLimits-at, AllInLimits-set}
use Rattle.object_table.proofs.table.ObjectTable.destroy.Goals as goal

pub overflow_sub-file : goal.overflow_sub-file
overflow_sub-file g c =
    let found = rw (← c.self.view_is) at c.in_ok-own_entry.ensures.at in
    let place = place_of_row c.self.inside.files.items c.args.file c.args.id (rw found refl) in
    omega (arith, place.0)

pub index_mut-requires : goal.index_mut-requires
index_mut-requires g c =
    let files = c.self.inside.files in
    let found = rw (← c.self.view_is) at c.in_ok-own_entry.ensures.at in
    let place = place_of_row files.items c.args.file c.args.id (rw found refl) in
    omega (arith, files.ok.0, place.1)

pub take-value-requires : goal.take-value-requires
take-value-requires g c =
    let files = c.self.inside.files.items in
    let found = rw (← c.self.view_is) at c.in_ok-own_entry.ensures.at in
    let place = place_of_row files c.args.file c.args.id (rw found refl) in
    some_from_map (row_of c.args.file c.args.id) _
    (rw (sym (row_at-inside files c.args.file _ c.index_mut.result.now place.0 place.1 c.index_mut.ensures.value
    c.args.id) ∙ found) refl)

pub returns-clause-value : goal.returns-clause-value
returns-clause-value g c =
    let files = c.self.inside.files.items in
    let found = rw (← c.self.view_is) at c.in_ok-own_entry.ensures.at in
    let place = place_of_row files c.args.file c.args.id (rw found refl) in
    let taken = rw c.take-value.ensures.value at
    (row_at-inside files c.args.file _ c.index_mut.result.now place.0 place.1
    c.index_mut.ensures.value c.args.id) in
    let same : Some (row_of c.args.file c.args.id c.in_ok-own_entry.field-0.now) ≡ Some
    (row_of c.args.file c.args.id c.take-value.result) = sym found ∙ taken in
    rw c.in_ok-own_entry.ensures.ok (ap (option_map (λ row. row.value)) same)

pub returns-clause-rows : goal.returns-clause-rows
returns-clause-rows g c =
    let files = c.self.inside.files.items in
    let found = rw (← c.self.view_is) at c.in_ok-own_entry.ensures.at in
    let place = place_of_row files c.args.file c.args.id (rw found refl) in
    rw (← c.self.view_is) (rows_removed files c.args.file _ c.index_mut.result.now place.0 place.1
    c.index_mut.ensures.value c.take-value.new.self c.args.id (c.take-value.ensures.rows c.args.file.0))

pub returns-clause-files : goal.returns-clause-files
returns-clause-files g c =
    let files = c.self.inside.files.items in
    let found = rw (← c.self.view_is) at c.in_ok-own_entry.ensures.at in
    let place = place_of_row files c.args.file c.args.id (rw found refl) in
    rw (← c.self.view_is) (files_kept files c.args.file _ c.index_mut.result.now place.0 place.1
    c.index_mut.ensures.value c.take-value.new.self c.take-value.ensures.mark)

pub returns-clause-room : goal.returns-clause-room
returns-clause-room g c =
    let files = c.self.inside.files.items in
    let found = rw (← c.self.view_is) at c.in_ok-own_entry.ensures.at in
    let place = place_of_row files c.args.file c.args.id (rw found refl) in
    rw (← c.self.view_is) (others_keep_room files c.args.file _ c.index_mut.result.now place.0 place.1
    c.index_mut.ensures.value c.take-value.new.self)

pub invariant_of-self : goal.invariant_of-self
invariant_of-self g c =
    let files = c.self.inside.files.items in
    let found = rw (← c.self.view_is) at c.in_ok-own_entry.ensures.at in
    let place = place_of_row files c.args.file c.args.id (rw found refl) in
    let before = IsInLimits-at files _ c.index_mut.result.now place.1 c.index_mut.ensures.value c.self.invariant in
    AllInLimits-set files _ c.take-value.new.self c.self.invariant (c.take-value.ensures.limits before)

pub returns-clause-next : goal.returns-clause-next
returns-clause-next g c =
    let files = c.self.inside.files.items in
    let found = rw (← c.self.view_is) at c.in_ok-own_entry.ensures.at in
    let place = place_of_row files c.args.file c.args.id (rw found refl) in
    let before = IsInLimits-at files _ c.index_mut.result.now place.1 c.index_mut.ensures.value c.self.invariant in
    reserved_id-new files c.args.file _ c.index_mut.result.now place.0 place.1 c.index_mut.ensures.value
    c.take-value.new.self ∙ c.take-value.ensures.next before

pub returns-clause-ok : goal.returns-clause-ok
returns-clause-ok g c = search rules
