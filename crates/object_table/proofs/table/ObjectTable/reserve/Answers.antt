use Rattle.std.proofs.Common.{◌≡◌, ◌<◌, ◌^◌, None, Some, length, arith, refl, ◌∙◌}
use Rattle.object_table.specs.Table.{row_at}
use Rattle.object_table.specs.Layout.{entry_at, next_id, table_of}
use Rattle.object_table.proofs.FileRows.{next_in_range}
use Rattle.object_table.proofs.Keys.{IsInLimits-at, AllInLimits-set}
use Rattle.object_table.proofs.Tables.{no_value, outside_insert_refusal, outside_reserved, IfOk-weaken, OnErr-weaken}
use Rattle.object_table.proofs.Tables.{table_same, reserved_id-inside, reserved_id-new, row_at-inside}
use Rattle.object_table.proofs.Tables.{insert_refusal-inside, rows_kept, files_kept, table_kept, others_keep_room}
use Rattle.object_table.proofs.table.ObjectTable.reserve.Goals as goal

pub returns-in-Some-clause-id : goal.returns-in-Some-clause-id
returns-in-Some-clause-id g c =
    let files = c.self.inside.files in
    let place = c.in-Some.ensures in
    let within : c.in-Some.place < length files.items = omega (arith, files.ok.0, c.len.ensures, place.1) in
    rw (reserved_id-new files.items c.args.file c.in-Some.place c.index_mut.result.now place.0 within
    c.index_mut.ensures.value c.reserve.new.self) c.reserve.ensures.id

pub returns-in-Some-clause-unused : goal.returns-in-Some-clause-unused
returns-in-Some-clause-unused g c =
    let files = c.self.inside.files in
    let place = c.in-Some.ensures in
    let within : c.in-Some.place < length files.items = omega (arith, files.ok.0, c.len.ensures, place.1) in
    rw (← c.self.view_is) (IfOk-weaken (λ id. entry_at c.index_mut.result.now id ≡ None)
    (λ id. row_at (table_of files.items) c.args.file id ≡ None)
    (λ id none. row_at-inside files.items c.args.file c.in-Some.place c.index_mut.result.now place.0 within
    c.index_mut.ensures.value id ∙ rw none) c.reserve.result c.reserve.ensures.unused)

pub returns-in-Some-clause-ok : goal.returns-in-Some-clause-ok
returns-in-Some-clause-ok g c =
    let files = c.self.inside.files in
    let place = c.in-Some.ensures in
    let within : c.in-Some.place < length files.items = omega (arith, files.ok.0, c.len.ensures, place.1) in
    rw (
      ← c.self.view_is,
      insert_refusal-inside files.items c.args.file c.in-Some.place c.index_mut.result.now place.0
          within c.index_mut.ensures.value,
    ) c.reserve.ensures.ok

pub returns-in-Some-clause-why : goal.returns-in-Some-clause-why
returns-in-Some-clause-why g c =
    let files = c.self.inside.files in
    let place = c.in-Some.ensures in
    let within : c.in-Some.place < length files.items = omega (arith, files.ok.0, c.len.ensures, place.1) in
    rw (
      ← c.self.view_is,
      insert_refusal-inside files.items c.args.file c.in-Some.place c.index_mut.result.now place.0
          within c.index_mut.ensures.value,
    ) c.reserve.ensures.why

pub returns-in-Some-clause-unchanged : goal.returns-in-Some-clause-unchanged
returns-in-Some-clause-unchanged g c =
    let files = c.self.inside.files in
    let place = c.in-Some.ensures in
    let within : c.in-Some.place < length files.items = omega (arith, files.ok.0, c.len.ensures, place.1) in
    rw (← c.self.view_is) (OnErr-weaken _ _ (λ room. table_same files.items c.args.file c.in-Some.place
    c.index_mut.result.now place.0 within c.index_mut.ensures.value c.reserve.new.self
    c.reserve.ensures.mark room (c.reserve.ensures.rows c.args.file.0))
    c.reserve.result c.reserve.ensures.kept)

pub returns-in-Some-clause-rows : goal.returns-in-Some-clause-rows
returns-in-Some-clause-rows g c =
    let files = c.self.inside.files in
    let place = c.in-Some.ensures in
    let within : c.in-Some.place < length files.items = omega (arith, files.ok.0, c.len.ensures, place.1) in
    rw (← c.self.view_is) (rows_kept files.items c.args.file c.in-Some.place c.index_mut.result.now place.0 within
    c.index_mut.ensures.value c.reserve.new.self (c.reserve.ensures.rows c.args.file.0))

pub returns-in-Some-clause-files : goal.returns-in-Some-clause-files
returns-in-Some-clause-files g c =
    let files = c.self.inside.files in
    let place = c.in-Some.ensures in
    let within : c.in-Some.place < length files.items = omega (arith, files.ok.0, c.len.ensures, place.1) in
    rw (← c.self.view_is) (files_kept files.items c.args.file c.in-Some.place c.index_mut.result.now place.0 within
    c.index_mut.ensures.value c.reserve.new.self c.reserve.ensures.mark)

pub returns-in-Some-clause-room : goal.returns-in-Some-clause-room
returns-in-Some-clause-room g c =
    let files = c.self.inside.files in
    let place = c.in-Some.ensures in
    let within : c.in-Some.place < length files.items = omega (arith, files.ok.0, c.len.ensures, place.1) in
    rw (← c.self.view_is) (others_keep_room files.items c.args.file c.in-Some.place c.index_mut.result.now place.0
    within c.index_mut.ensures.value c.reserve.new.self)

pub returns-in-Some-clause-had_room : goal.returns-in-Some-clause-had_room
returns-in-Some-clause-had_room g c =
    let files = c.self.inside.files in
    let place = c.in-Some.ensures in
    let within : c.in-Some.place < length files.items = omega (arith, files.ok.0, c.len.ensures, place.1) in
    rw (← c.self.view_is) (λ has.
    let kept = c.reserve.ensures.had_room (rw
    (reserved_id-inside files.items c.args.file c.in-Some.place c.index_mut.result.now place.0 within
    c.index_mut.ensures.value) at has) in (
      kept.0,
      table_kept files.items c.args.file c.in-Some.place c.index_mut.result.now place.0 within
          c.index_mut.ensures.value c.reserve.new.self kept.1,
    ))

pub returns-in-None-clause-why : goal.returns-in-None-clause-why
returns-in-None-clause-why g c =
    let files = c.self.inside.files in
    rw (← c.self.view_is) (outside_insert_refusal files.items c.args.file
    (λ place is. omega (arith, files.ok.0, c.len.ensures, c.in-None.ensures place is)))

pub returns-in-None-clause-had_room : goal.returns-in-None-clause-had_room
returns-in-None-clause-had_room g c =
    let files = c.self.inside.files in
    let none = outside_reserved files.items c.args.file (λ place is. omega (
      arith,
      files.ok.0,
      c.len.ensures,
      c.in-None.ensures place is,
    )) in
    rw (← c.self.view_is) (λ has. absurd (no_value (rw none at has)))

pub index_mut-requires : goal.index_mut-requires
index_mut-requires g c = omega (arith, c.len.ensures, c.in-Some.ensures.1)

pub invariant_of-self : goal.invariant_of-self
invariant_of-self g c =
    let files = c.self.inside.files in
    let place = c.in-Some.ensures in
    let within : c.in-Some.place < length files.items = omega (arith, files.ok.0, c.len.ensures, place.1) in
    let before = IsInLimits-at files.items _ c.index_mut.result.now within c.index_mut.ensures.value c.self.invariant in
    AllInLimits-set files.items _ c.reserve.new.self c.self.invariant (c.reserve.ensures.limits before)

pub returns-in-Some-clause-in_range : goal.returns-in-Some-clause-in_range
returns-in-Some-clause-in_range g c =
    IfOk-weaken (λ id. next_id c.reserve.new.self ≡ Some id) (λ id. (0 < id.0) × (id.0 < 2 ^ 31))
    (λ id next. next_in_range c.reserve.new.self id next) c.reserve.result c.reserve.ensures.id

pub returns-in-None-clause-id : goal.returns-in-None-clause-id
returns-in-None-clause-id g c = tt

pub returns-in-None-clause-in_range : goal.returns-in-None-clause-in_range
returns-in-None-clause-in_range g c = tt

pub returns-in-None-clause-unused : goal.returns-in-None-clause-unused
returns-in-None-clause-unused g c = tt

pub returns-in-None-clause-ok : goal.returns-in-None-clause-ok
returns-in-None-clause-ok g c = tt

pub returns-in-None-clause-unchanged : goal.returns-in-None-clause-unchanged
returns-in-None-clause-unchanged g c = refl

pub returns-in-None-clause-rows : goal.returns-in-None-clause-rows
returns-in-None-clause-rows g c = refl

pub returns-in-None-clause-files : goal.returns-in-None-clause-files
returns-in-None-clause-files g c = refl

pub returns-in-None-clause-room : goal.returns-in-None-clause-room
returns-in-None-clause-room g c other differs = refl
