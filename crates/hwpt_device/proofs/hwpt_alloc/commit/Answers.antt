use Rattle.std.proofs.Common.{sym, ◌∙◌}
use Rattle.hwpt_device.proofs.HwptMade.{alloc_may_come, alloc_roomy, never_missing, never_widthless}
use Rattle.hwpt_device.proofs.HwptMade.{shows_allocated}
use Rattle.hwpt_device.proofs.HwptMade.{width_under}
use Rattle.hwpt_device.proofs.hwpt_alloc.commit.Goals as goal

pub unreachable-requires : goal.unreachable-requires
unreachable-requires g c =
    let known = c.requires.granted.granted in
    never_missing known.world c.args.state.now c.args.file c.args.request known.shows known.none
    (sym c.device_under.ensures ∙ c.in_default.is)

pub unreachable-requires-in_default-width_of : goal.unreachable-requires-in_default-width_of
unreachable-requires-in_default-width_of g c =
    let known = c.requires.granted.granted in
    never_widthless c.requires.granted.at known.world c.args.state.now c.args.file c.args.request.device
    c.in-Some.device known.tidy known.shows (sym c.device_under.ensures ∙ c.in-Some.is)
    (sym c.width_of.ensures ∙ c.in_default-width_of.is)

pub make-requires-clause-may : goal.make-requires-clause-may
make-requires-clause-may g c =
    alloc_may_come c.requires.granted.at c.args.state.now c.args.file c.args.request c.in-Some.device
    c.in-Some-width_of.width c.requires.granted.granted
    (sym c.device_under.ensures ∙ c.in-Some.is) (sym c.width_of.ensures ∙ c.in-Some-width_of.is)

pub returns-clause-ok : goal.returns-clause-ok
returns-clause-ok g c =
    λ at via w tidy shows none may.
    let under = sym c.device_under.ensures ∙ c.in-Some.is in
    let wide = sym c.width_of.ensures ∙ c.in-Some-width_of.is in
    let roomy = alloc_roomy w c.args.file c.args.request c.in-Some-width_of.width
    (width_under w c.args.state.now c.args.file c.args.request.device c.in-Some.device c.in-Some-width_of.width
    shows under wide) none in
    shows_allocated at w c.args.state.now c.make.new.state c.args.file c.args.request c.in_ok-id.id c.in-Some.device
    c.in-Some-width_of.width via c.make.new.taken.items tidy shows roomy under wide
    (c.in_ok-id.ensures.ok at w tidy shows roomy)
