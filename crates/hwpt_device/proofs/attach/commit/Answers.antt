use Rattle.std.proofs.Common.{◌<◌, List, [], Vec, sym, ◌∙◌, ap, subst, arith, vec_capacity, vec_len}
use Rattle.iofd_words.specs.Attachments.{with_attachment}
use Rattle.iofd_words.specs.declared.event.Event.TheVariants as event
use Rattle.iofd_words.specs.declared.numbers.FrameNo.{FrameNo}
use Rattle.iofd_words.specs.declared.reply.Reply.TheVariants as reply
use Rattle.iofd_words.specs.declared.rows.Attachment.{Attachment}
use Rattle.server_state.proofs.Errors.{on_err_same}
use Rattle.server_state.specs.Step.{MovingSteps}
use Rattle.hwpt_device.proofs.AttachedShown.{attach_roomy, may_come, never_loose, room_unseen, shows_new}
use Rattle.hwpt_device.proofs.AttachedShown.{shows_there}
use Rattle.hwpt_device.proofs.NeverRefused.{never_unset}
use Rattle.hwpt_device.proofs.attach.commit.Goals as goal

pub unreachable-requires : goal.unreachable-requires
unreachable-requires g c =
    let known = c.requires.granted.granted in
    never_loose known.world c.args.state.now c.args.device c.args.pt_id known.shows known.none
    (sym c.in_default.ensures)

pub unreachable-requires-in_default-width_of : goal.unreachable-requires-in_default-width_of
unreachable-requires-in_default-width_of g c =
    let known = c.requires.granted.granted in
    never_unset c.requires.granted.at known.world c.args.state.now c.args.device c.in-Some.bound.now known.tidy
    known.shows (sym c.in-Some.ensures) (sym c.in_default-width_of.ensures)

pub returns-in_err-reserve-clause-err : goal.returns-in_err-reserve-clause-err
returns-in_err-reserve-clause-err g c =
    on_err_same c.from_residual.result _
    (λ w shows. room_unseen w c.args.state.now c.reserve.new.self c.reserve.ensures.items shows)

pub insert-requires : goal.insert-requires
insert-requires g c = omega (arith, c.in_ok-reserve.ensures.ok)

pub returns-in-Some-there-clause-ok : goal.returns-in-Some-there-clause-ok
returns-in-Some-there-clause-ok g c =
    λ at via.
    subst (λ (taken : List FrameNo). MovingSteps at (event.Attach c.args.device c.args.pt_id) via c.args.state.now
    (reply.Id c.in-Some-there.hwpt) taken []
    (record c.args.state.now { objects = c.add_user.new.table; attachments = c.insert.new.list }))
    (sym c.requires.empty)
    (λ w tidy shows none may.
    shows_there at w c.args.state.now c.add_user.new.table c.insert.new.list c.args.device c.args.pt_id
    c.in-Some-there.hwpt
    c.in-Some.bound.now c.in-Some-width_of.width via tidy shows none
    (sym c.in-Some.ensures) (sym c.in-Some-width_of.ensures) (sym c.in-Some-there.ensures)
    c.facts.ensures c.add_user.ensures.rows c.add_user.ensures.others
    (c.insert.ensures ∙ ap (with_attachment (record {
      device = c.args.device;
      file = c.in-Some.bound.now.file;
      hwpt = c.in-Some-there.hwpt;
    })) c.reserve.ensures.items))

pub make-requires-clause-may : goal.make-requires-clause-may
make-requires-clause-may g c =
    may_come c.requires.granted.at c.args.state.now c.reserve.new.self c.args.device c.args.pt_id c.in-Some.bound.now
    c.in-Some-width_of.width c.requires.granted.granted
    (sym c.in-Some.ensures) (sym c.in-Some-width_of.ensures)
    (sym c.in_default-there.ensures) c.reserve.ensures.items

pub returns-in_err-made-clause-err : goal.returns-in_err-made-clause-err
returns-in_err-made-clause-err g c =
    on_err_same c.from_residual-in_err-made.result _
    (λ w shows. c.in_err-made.ensures.err w
    (room_unseen w c.args.state.now c.reserve.new.self c.reserve.ensures.items shows))

pub insert-requires-2 : goal.insert-requires-2
insert-requires-2 g c =
    subst (λ (list : Vec Attachment _). vec_len list < vec_capacity list) (sym c.make.ensures.attachments)
    (omega (arith, c.in_ok-reserve.ensures.ok))

pub returns-clause-ok : goal.returns-clause-ok
returns-clause-ok g c =
    λ at via w tidy shows none may.
    let shows_room = room_unseen w c.args.state.now c.reserve.new.self c.reserve.ensures.items shows in
    let roomy = attach_roomy at w c.args.state.now c.args.device c.args.pt_id c.in-Some.bound.now
    c.in-Some-width_of.width tidy shows none (sym c.in-Some.ensures) (sym c.in-Some-width_of.ensures)
    (sym c.in_default-there.ensures) in
    shows_new at w c.args.state.now c.make.new.state c.add_user-2.new.table c.insert-2.new.list c.args.device
    c.args.pt_id c.in_ok-made.made
    c.in-Some.bound.now c.in-Some-width_of.width via c.make.new.taken.items tidy shows none
    (sym c.in-Some.ensures) (sym c.in-Some-width_of.ensures) (sym c.in_default-there.ensures)
    (c.in_ok-made.ensures.ok at w tidy shows_room roomy) c.facts.ensures c.add_user-2.ensures.rows
    c.add_user-2.ensures.others
    c.insert-2.ensures
