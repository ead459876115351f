use Rattle.std.proofs.Common.{ap, refl, subst, sym, ◌∙◌, []}
use Rattle.iofd_rows.proofs.ListTests.{all_pass}
use Rattle.user_memory_rows.proofs.Gone.{leaving_first, leaving_last}
use Rattle.user_memory_rows.specs.Shown.{over}
use Rattle.page_table_set.specs.PageTables.{objects_of}
use Rattle.object_table.specs.Rows.{row_shown}
use Rattle.object_table.specs.Table.{is_of_file, rows_of}
use Rattle.event_destroy.proofs.RowsCounted.{AreClosing, other_passed, space_gone, space_may}
use Rattle.server_state.proofs.PageTables.{has_hwpt_kept}
use Rattle.server_state.specs.Held.{areas_in, objects_in}
use Rattle.event_destroy.specs.FileAreas.{areas_of_rows, translated_of}
use Rattle.event_destroy.proofs.close.remove_areas.Goals as goal

pub loop-object-init : goal.loop-object-init
loop-object-init g c =
    let rows = rows_of c.args.table.now c.args.file in
    let objects = objects_in c.args.table.now in
    let start : AreClosing objects c.args.file rows rows c.args.memory.now c.args.memory.now c.args.pool.now
    c.args.pool.now = record {
      of_file = all_pass (is_of_file c.args.file) c.args.table.now.rows;
      leaving = leaving_first (over (areas_of_rows rows)) (over (translated_of objects rows)) c.args.memory.now
          c.args.pool.now c.requires.may;
    } in
    subst (λ left. AreClosing objects c.args.file rows left c.args.memory.now c.args.memory.now c.args.pool.now
    c.args.pool.now) (sym (c.into_iter-object-iterator.ensures.into_iter_gives
    ∙ c.iter-object-items.ensures)) start

pub remove-requires : goal.remove-requires
remove-requires g c =
    space_may (objects_in c.args.table.now) c.args.file (rows_of c.args.table.now c.args.file)
    c.loop-object.object-iterator c.next.new.self (row_shown c.in-Some.object) c.args.memory.now
    c.loop-object.memory c.args.pool.now c.loop-object.pool c.in-Some.ensures.steps c.loop-object.invariant
    c.iter.result c.has_over-translated.result (c.iter.ensures.areas ∙ sym (ap areas_in c.in-Ioas.is))
    (c.has_over-translated.ensures ∙ has_hwpt_kept (objects_of c.args.tables.now) (objects_in c.args.table.now)
    c.requires.tables c.args.file c.in-Some.object.id)

pub loop-object-preserved-in-Ioas : goal.loop-object-preserved-in-Ioas
loop-object-preserved-in-Ioas g c =
    space_gone (objects_in c.args.table.now) c.args.file (rows_of c.args.table.now c.args.file)
    c.loop-object.object-iterator c.next.new.self (row_shown c.in-Some.object) c.args.memory.now
    c.loop-object.memory c.args.pool.now c.loop-object.pool c.in-Some.ensures.steps c.loop-object.invariant
    c.iter.result c.has_over-translated.result (c.iter.ensures.areas ∙ sym (ap areas_in c.in-Ioas.is))
    (c.has_over-translated.ensures ∙ has_hwpt_kept (objects_of c.args.tables.now) (objects_in c.args.table.now)
    c.requires.tables c.args.file c.in-Some.object.id)
    c.remove.new.memory c.remove.new.pool c.remove.ensures

pub loop-object-preserved : goal.loop-object-preserved
loop-object-preserved g c =
    other_passed (objects_in c.args.table.now) c.args.file (rows_of c.args.table.now c.args.file)
    c.loop-object.object-iterator c.next.new.self (row_shown c.in-Some.object) c.args.memory.now
    c.loop-object.memory c.args.pool.now c.loop-object.pool c.in-Some.ensures.steps c.loop-object.invariant
    c.in_default.not-Ioas

pub returns : goal.returns
returns g c =
    let rows = rows_of c.args.table.now c.args.file in
    let objects = objects_in c.args.table.now in
    let done = subst (λ left. AreClosing objects c.args.file rows left c.args.memory.now c.loop-object.memory
    c.args.pool.now c.loop-object.pool) c.in-None.ensures.steps.0 c.loop-object.invariant in
    leaving_last (over (areas_of_rows rows)) (over (translated_of objects rows)) (over []) (over []) c.args.memory.now
    c.loop-object.memory c.args.pool.now c.loop-object.pool (λ n. refl) (λ n. refl) done.leaving
