use Rattle.std.proofs.Common.{sym, ◌∙◌}
use Rattle.hwpt_device.proofs.DetachedShown.{last_told, may_unpin, never_astray, never_lost, shows_detached}
use Rattle.hwpt_device.proofs.DetachedShown.{shows_lost}
use Rattle.hwpt_device.proofs.DetachedShown.{takes_it}
use Rattle.server_state.proofs.DirtyMoves.{dirty_stopped}
use Rattle.server_state.proofs.Errors.{on_err_same}
use Rattle.hwpt_device.proofs.detach.commit.Goals as goal

pub unreachable-requires : goal.unreachable-requires
unreachable-requires g c =
    let known = c.requires.granted.granted in
    never_lost known.world c.args.state.now c.args.device known.shows known.none (sym c.in_default.ensures)

pub unreachable-requires-in_default-space_of : goal.unreachable-requires-in_default-space_of
unreachable-requires-in_default-space_of g c =
    let known = c.requires.granted.granted in
    never_astray c.requires.granted.at known.world c.args.state.now c.args.device known.tidy known.shows known.none
    (sym c.in_default-space_of.ensures)

pub returns-in_err-reserve_where-clause-memory : goal.returns-in_err-reserve_where-clause-memory
returns-in_err-reserve_where-clause-memory g c =
    let known = c.requires.granted.granted in
    on_err_same c.from_residual.result _
    (takes_it c.requires.granted.at known.world c.args.state.now c.args.device c.in-Some.attachment.now
    c.in-Some-space_of.field-0-0 c.in-Some-space_of.ioas known.tidy known.shows (sym c.in-Some.ensures)
    (sym c.in-Some-space_of.ensures) (sym c.is_last-goes.ensures ∙ c.in_err-reserve_where.ensures.memory))

pub returns-else-goes-clause-ok : goal.returns-else-goes-clause-ok
returns-else-goes-clause-ok g c = λ at via w tidy shows none may.
    let told = last_told at w c.args.state.now c.remove.new.list c.args.device c.in-Some.attachment.now
    c.in-Some-space_of.field-0-0 c.in-Some-space_of.ioas c.pay.new.table tidy shows none (sym c.in-Some.ensures)
    (sym c.in-Some-space_of.ensures) c.pay.ensures c.remove.ensures c.remove_user.new.table c.remove_user.ensures.rows
    c.remove_user.ensures.others in
    shows_detached at w c.args.state.now c.remove.new.list c.args.device c.in-Some.attachment.now
    c.in-Some-space_of.field-0-0 c.in-Some-space_of.ioas c.pay.new.table tidy shows none (sym c.in-Some.ensures)
    (sym c.in-Some-space_of.ensures) c.pay.ensures c.remove.ensures c.remove_user.new.table c.remove_user.ensures.rows
    c.remove_user.ensures.others via c.reserve_where.new.given.items
    (c.reserve_where.ensures.same ∙ c.requires.none) (sym told ∙ sym c.if-goes.ensures)

pub remove_page_table-requires-clause-pins : goal.remove_page_table-requires-clause-pins
remove_page_table-requires-clause-pins g c = λ table tables pool gone.
    let known = c.requires.granted.granted in
    let told = last_told c.requires.granted.at known.world c.args.state.now c.remove.new.list c.args.device
    c.in-Some.attachment.now c.in-Some-space_of.field-0-0 c.in-Some-space_of.ioas c.pay.new.table known.tidy
    known.shows known.none (sym c.in-Some.ensures) (sym c.in-Some-space_of.ensures) c.pay.ensures c.remove.ensures
    c.remove_user.new.table c.remove_user.ensures.rows c.remove_user.ensures.others in
    may_unpin c.requires.granted.at known.world c.args.state.now c.remove.new.list c.args.device
    c.in-Some.attachment.now c.in-Some-space_of.field-0-0 c.in-Some-space_of.ioas c.pay.new.table known.tidy
    known.shows known.none (sym c.in-Some.ensures) (sym c.in-Some-space_of.ensures) c.pay.ensures c.remove.ensures
    c.remove_user.new.table c.remove_user.ensures.rows c.remove_user.ensures.others c.stop.new.self table tables pool
    (sym told ∙ sym c.if-goes.ensures) gone

pub returns-then-goes-clause-ok : goal.returns-then-goes-clause-ok
returns-then-goes-clause-ok g c = λ at via w tidy shows none may.
    let told = last_told at w c.args.state.now c.remove.new.list c.args.device c.in-Some.attachment.now
    c.in-Some-space_of.field-0-0 c.in-Some-space_of.ioas c.pay.new.table tidy shows none (sym c.in-Some.ensures)
    (sym c.in-Some-space_of.ensures) c.pay.ensures c.remove.ensures c.remove_user.new.table c.remove_user.ensures.rows
    c.remove_user.ensures.others in
    shows_lost at w c.args.state.now c.remove.new.list c.args.device c.in-Some.attachment.now
    c.in-Some-space_of.field-0-0 c.in-Some-space_of.ioas c.pay.new.table tidy shows none (sym c.in-Some.ensures)
    (sym c.in-Some-space_of.ensures) c.pay.ensures c.remove.ensures c.remove_user.new.table c.remove_user.ensures.rows
    c.remove_user.ensures.others c.remove_page_table.new.state c.stop.new.self
    (dirty_stopped w.tracked c.args.state.now.dirty c.stop.new.self shows.dirty c.in-Some.attachment.now.file
    c.in-Some.attachment.now.hwpt c.stop.ensures.tracks c.stop.ensures.marks) (sym told ∙ sym c.if-goes.ensures)
    c.remove_page_table.ensures.state
    c.reserve_where.new.given.items c.remove_page_table.new.given.items (c.reserve_where.ensures.same ∙ c.requires.none)
    c.remove_page_table.ensures.given via
