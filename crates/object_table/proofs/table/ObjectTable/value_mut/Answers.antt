use Rattle.std.proofs.Common.{arith, refl}
use Rattle.object_table.specs.Table.{with_value}
use Rattle.object_table.specs.Layout.{row_of, entry_at}
use Rattle.object_table.proofs.FileRows.{some_from_map, entry_there, file_rows-written, next_id-written}
use Rattle.object_table.proofs.Tables.{place_of_row, row_at-inside, table_written}
use Rattle.object_table.proofs.table.ObjectTable.value_mut.Goals as goal

pub overflow_sub-file : goal.overflow_sub-file
overflow_sub-file g c =
    let place = place_of_row c.self.inside.files.items c.args.file c.args.id (rw (← c.self.view_is) at c.requires) in
    omega (arith, place.0)

pub index_mut-requires : goal.index_mut-requires
index_mut-requires g c =
    let files = c.self.inside.files in
    let place = place_of_row files.items c.args.file c.args.id (rw (← c.self.view_is) at c.requires) in
    omega (arith, files.ok.0, place.1)

pub entry_mut-entry-requires : goal.entry_mut-entry-requires
entry_mut-entry-requires g c =
    let files = c.self.inside.files.items in
    let some = rw (← c.self.view_is) at c.requires in
    let place = place_of_row files c.args.file c.args.id some in
    some_from_map (row_of c.args.file c.args.id) (entry_at c.index_mut.result.now c.args.id)
    (rw (row_at-inside files c.args.file _ c.index_mut.result.now place.0 place.1
    c.index_mut.ensures.value c.args.id) at some)

pub returns : goal.returns
returns g c =
    let files = c.self.inside.files.items in
    let some = rw (← c.self.view_is) at c.requires in
    let place = place_of_row files c.args.file c.args.id some in
    let f = c.index_mut.result.now in
    let entry = c.entry_mut-entry.result.now in
    let found = c.entry_mut-entry.ensures.value in
    let present = entry_there f c.args.id entry found in (
      (
        refl,
        λ w. rw (← c.self.view_is) (table_written files c.args.file _ f place.0 place.1 c.index_mut.ensures.value _
            c.args.id (with_value w) refl (next_id-written c.args.id f entry _ present.1)
            (file_rows-written c.args.file.0 c.args.id f entry _ (with_value w) refl present.0 present.1)),
      ),
      record {
        writes_back = tt;
        value = rw (
          ← c.self.view_is,
          row_at-inside files c.args.file _ f place.0 place.1 c.index_mut.ensures.value c.args.id,
          found,
        ) refl;
      },
    )
