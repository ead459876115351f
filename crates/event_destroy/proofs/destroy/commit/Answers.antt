use Rattle.std.proofs.Common.{Some, sym, ◌∙◌, ap}
use Rattle.event_destroy.proofs.Destroyed.{access_destroyed, access_moves}
use Rattle.event_destroy.proofs.Destroyed.{may_unpin, never_device, never_none, shows_lost, space_destroyed, space_may}
use Rattle.event_destroy.proofs.Destroyed.{space_moves}
use Rattle.server_state.proofs.DirtyMoves.{dirty_stopped}
use Rattle.event_destroy.proofs.destroy.commit.Goals as goal

pub reserve_given-requires : goal.reserve_given-requires
reserve_given-requires g c =
    let known = c.requires.granted.granted in
    record { at = c.requires.granted.at; world = known.world; tidy = known.tidy; shows = known.shows }

pub remove_space-requires : goal.remove_space-requires
remove_space-requires g c =
    let known = c.requires.granted.granted in
    space_may c.requires.granted.at known.world c.args.state.now c.args.file c.args.id known.tidy known.shows known.none
    (sym c.in-Some-Ioas.ensures ∙ ap Some c.in-Some-Ioas.field-0-is)

pub returns-in-Some-Ioas-clause-ok : goal.returns-in-Some-Ioas-clause-ok
returns-in-Some-Ioas-clause-ok g c = λ at via w tidy shows none may.
    let is_kind = sym c.in-Some-Ioas.ensures ∙ ap Some c.in-Some-Ioas.field-0-is in
    space_moves at w c.args.state.now c.args.file c.args.id tidy shows none is_kind via c.reserve_given.new.given.items
    _ (c.reserve_given.ensures.same ∙ c.requires.none)
    (space_destroyed at w c.args.state.now c.args.file c.args.id tidy shows none is_kind
    c.remove_object.new.table c.remove_space.new.memory c.remove_space.new.pool c.remove.new.self c.stop.new.self
    c.remove_object.ensures.rows c.remove_object.ensures.files c.remove_space.ensures c.remove.ensures.rows
    (dirty_stopped w.tracked c.args.state.now.dirty c.stop.new.self shows.dirty c.args.file c.args.id
    c.stop.ensures.tracks c.stop.ensures.marks))

pub remove_page_table-requires-clause-pins : goal.remove_page_table-requires-clause-pins
remove_page_table-requires-clause-pins g c = λ table tables pool gone.
    let known = c.requires.granted.granted in
    may_unpin c.requires.granted.at known.world c.args.state.now c.args.file c.args.id c.in-Some-Hwpt.ioas
    c.in-Some-Hwpt.field-0-1 c.in-Some-Hwpt.field-0-2 c.remove.new.self c.stop.new.self known.tidy known.shows known.none
    (sym c.in-Some-Hwpt.ensures ∙ ap Some c.in-Some-Hwpt.field-0-is) table tables pool gone

pub returns-in-Some-Hwpt-clause-ok : goal.returns-in-Some-Hwpt-clause-ok
returns-in-Some-Hwpt-clause-ok g c = λ at via w tidy shows none may.
    shows_lost at w c.args.state.now c.args.file c.args.id c.in-Some-Hwpt.ioas c.in-Some-Hwpt.field-0-1
    c.in-Some-Hwpt.field-0-2 c.remove.new.self c.stop.new.self tidy shows none
    (sym c.in-Some-Hwpt.ensures ∙ ap Some c.in-Some-Hwpt.field-0-is) c.remove_page_table.new.state
    c.remove_page_table.ensures.state c.remove.ensures.rows
    (dirty_stopped w.tracked c.args.state.now.dirty c.stop.new.self shows.dirty c.args.file c.args.id
    c.stop.ensures.tracks c.stop.ensures.marks) via c.reserve_given.new.given.items
    c.remove_page_table.new.given.items
    (c.reserve_given.ensures.same ∙ c.requires.none) c.remove_page_table.ensures.given

pub returns-in-Some-Access-clause-ok : goal.returns-in-Some-Access-clause-ok
returns-in-Some-Access-clause-ok g c = λ at via w tidy shows none may.
    let is_kind = sym c.in-Some-Access.ensures ∙ ap Some c.in-Some-Access.field-0-is in
    access_moves at w c.args.state.now c.args.file c.args.id _ tidy shows none is_kind via
    c.reserve_given.new.given.items _ (c.reserve_given.ensures.same ∙ c.requires.none)
    (access_destroyed at w c.args.state.now c.args.file c.args.id _ tidy shows none is_kind
    c.remove_object-in-Some-Access.new.table c.remove.new.self c.stop.new.self
    c.remove_object-in-Some-Access.ensures.rows c.remove_object-in-Some-Access.ensures.files c.remove.ensures.rows
    (dirty_stopped w.tracked c.args.state.now.dirty c.stop.new.self shows.dirty c.args.file c.args.id
    c.stop.ensures.tracks c.stop.ensures.marks))

pub unreachable-requires : goal.unreachable-requires
unreachable-requires g c =
    let known = c.requires.granted.granted in
    never_device known.world c.args.state.now c.args.file c.args.id _ known.shows known.none
    (sym c.in-Some-Device.ensures ∙ ap Some c.in-Some-Device.field-0-is)

pub unreachable-requires-in-None : goal.unreachable-requires-in-None
unreachable-requires-in-None g c =
    let known = c.requires.granted.granted in
    never_none known.world c.args.state.now c.args.file c.args.id known.shows known.none (sym c.in-None.ensures)
