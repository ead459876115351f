use Rattle.std.proofs.Common.{◌∙◌}
use Rattle.event_destroy.proofs.FileGone.{areas_may, can_remove, close_moves, shows_closed}
use Rattle.server_state.proofs.PageTables.{tables_shown}
use Rattle.server_state.proofs.DirtyMoves.{dirty_closed}
use Rattle.event_destroy.proofs.close.commit.Goals as goal

pub reserve_given-requires : goal.reserve_given-requires
reserve_given-requires g c =
    let known = c.requires.granted.granted in
    record { at = c.requires.granted.at; world = known.world; tidy = known.tidy; shows = known.shows }

pub remove_areas-requires-clause-tables : goal.remove_areas-requires-clause-tables
remove_areas-requires-clause-tables g c =
    let known = c.requires.granted.granted in tables_shown known.world c.args.state.now known.shows

pub remove_areas-requires-clause-may : goal.remove_areas-requires-clause-may
remove_areas-requires-clause-may g c =
    let known = c.requires.granted.granted in
    areas_may c.requires.granted.at known.world c.args.state.now c.args.file known.tidy known.shows known.none

pub remove_file-requires-2 : goal.remove_file-requires-2
remove_file-requires-2 g c =
    let known = c.requires.granted.granted in
    can_remove c.requires.granted.at known.world c.args.state.now c.args.file known.tidy known.shows known.none
    c.remove_areas.new.memory c.remove_areas.new.pool c.remove_areas.ensures _ c.in_ok-reserve_given.ensures.room

pub returns-clause-ok : goal.returns-clause-ok
returns-clause-ok g c = λ at via w tidy shows none may.
    close_moves at w c.args.state.now c.args.file tidy shows none
    c.remove_areas.new.memory c.remove_areas.new.pool c.remove_areas.ensures
    c.remove_file-2.new.self c.remove_file-2.new.pool c.remove_file-2.ensures.tables c.remove_file-2.ensures.stand
    c.remove_file-2.ensures.pool
    via c.reserve_given.new.given.items c.remove_file-2.new.out.items _ (c.reserve_given.ensures.same ∙ c.requires.none)
    c.remove_file-2.ensures.out
    (shows_closed at w c.args.state.now c.args.file tidy shows none
    c.remove_areas.new.memory c.remove_areas.new.pool c.remove_areas.ensures
    c.remove_file-2.new.self c.remove_file-2.new.pool c.remove_file-2.ensures.tables c.remove_file-2.ensures.stand
    c.remove_file-2.ensures.pool
    c.close_table.new.table c.detach_all.new.attachments c.remove_file.new.self c.stop_file.new.self
    c.close_table.ensures c.detach_all.ensures c.remove_file.ensures.rows
    (dirty_closed w.tracked c.args.state.now.dirty c.stop_file.new.self shows.dirty c.args.file
    c.stop_file.ensures.tracks c.stop_file.ensures.marks))
