use Rattle.std.proofs.Common.{arith, refl, ◌∙◌}
use Rattle.object_table.proofs.FileRows.{next_in_range}
use Rattle.object_table.proofs.Keys.{IsInLimits-at, AllInLimits-set}
use Rattle.object_table.proofs.Tables.{place_of_reserved, reserved_id-inside, row_at-inside}
use Rattle.object_table.proofs.Tables.{rows_inserted, files_kept, others_keep_room}
use Rattle.object_table.proofs.table.ObjectTable.insert_reserved.Goals as goal

pub returns-clause-unused : goal.returns-clause-unused
returns-clause-unused g c =
    let files = c.self.inside.files.items in
    let place = place_of_reserved files c.args.file (rw (← c.self.view_is) at c.requires) in
    rw (← c.self.view_is) (row_at-inside files c.args.file _ c.index_mut.result.now place.0 place.1
    c.index_mut.ensures.value c.add.result ∙ rw c.add.ensures.unused)

pub returns-clause-rows : goal.returns-clause-rows
returns-clause-rows g c =
    let files = c.self.inside.files.items in
    let place = place_of_reserved files c.args.file (rw (← c.self.view_is) at c.requires) in
    rw (← c.self.view_is) (rows_inserted files c.args.file _ c.index_mut.result.now place.0 place.1
    c.index_mut.ensures.value c.add.new.self _ refl (c.add.ensures.rows c.args.file.0))

pub returns-clause-files : goal.returns-clause-files
returns-clause-files g c =
    let files = c.self.inside.files.items in
    let place = place_of_reserved files c.args.file (rw (← c.self.view_is) at c.requires) in
    rw (← c.self.view_is) (files_kept files c.args.file _ c.index_mut.result.now place.0 place.1
    c.index_mut.ensures.value c.add.new.self c.add.ensures.mark)

pub returns-clause-room : goal.returns-clause-room
returns-clause-room g c =
    let files = c.self.inside.files.items in
    let place = place_of_reserved files c.args.file (rw (← c.self.view_is) at c.requires) in
    rw (← c.self.view_is) (others_keep_room files c.args.file _ c.index_mut.result.now place.0 place.1
    c.index_mut.ensures.value c.add.new.self)

pub overflow_sub-file : goal.overflow_sub-file
overflow_sub-file g c =
    let place = place_of_reserved c.self.inside.files.items c.args.file (rw (← c.self.view_is) at c.requires) in
    omega (arith, place.0)

pub index_mut-requires : goal.index_mut-requires
index_mut-requires g c =
    let files = c.self.inside.files in
    let place = place_of_reserved files.items c.args.file (rw (← c.self.view_is) at c.requires) in
    omega (arith, files.ok.0, place.1)

pub add-requires : goal.add-requires
add-requires g c =
    let files = c.self.inside.files.items in
    let has = rw (← c.self.view_is) at c.requires in
    let place = place_of_reserved files c.args.file has in
    rw (reserved_id-inside files c.args.file _ c.index_mut.result.now place.0 place.1 c.index_mut.ensures.value) at has

pub invariant_of-self : goal.invariant_of-self
invariant_of-self g c =
    let files = c.self.inside.files.items in
    let place = place_of_reserved files c.args.file (rw (← c.self.view_is) at c.requires) in
    let before = IsInLimits-at files _ c.index_mut.result.now place.1 c.index_mut.ensures.value c.self.invariant in
    AllInLimits-set files _ c.add.new.self c.self.invariant (c.add.ensures.limits before)

pub returns-clause-id : goal.returns-clause-id
returns-clause-id g c =
    let files = c.self.inside.files.items in
    let place = place_of_reserved files c.args.file (rw (← c.self.view_is) at c.requires) in
    rw (← c.self.view_is) (reserved_id-inside files c.args.file _ c.index_mut.result.now place.0 place.1
    c.index_mut.ensures.value ∙ c.add.ensures.id)

pub returns-clause-in_range : goal.returns-clause-in_range
returns-clause-in_range g c = next_in_range c.index_mut.result.now c.add.result c.add.ensures.id
