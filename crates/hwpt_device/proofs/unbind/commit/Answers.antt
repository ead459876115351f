use Rattle.std.proofs.Common.{Some, sym, ◌∙◌, ap, refl}
use Rattle.iofd_steps.specs.After.{changed}
use Rattle.iofd_steps.specs.Answers.{Answers}
use Rattle.hwpt_device.proofs.Unbound.{never_other, shows_unbound}
use Rattle.hwpt_device.proofs.unbind.commit.Goals as goal

pub returns : goal.returns
unfolding changed Answers
returns g c = λ at w tidy shows none. (
  tt,
  shows_unbound at w c.args.state.now c.args.file c.args.id c.in-Some-Device.device
      c.remove_object.new.table c.free.new.bindings tidy shows
      (sym c.in-Some-Device.ensures ∙ ap Some c.in-Some-Device.field-0-is)
      c.remove_object.ensures.rows c.remove_object.ensures.files c.free.ensures,
)

pub unreachable-requires : goal.unreachable-requires
unreachable-requires g c =
    let known = c.requires.granted in
    never_other known.world c.args.state.now c.args.file c.args.id _ known.shows known.none
    (sym c.in-Some-Ioas.ensures ∙ ap Some c.in-Some-Ioas.field-0-is) refl

pub unreachable-requires-in-Some-Hwpt : goal.unreachable-requires-in-Some-Hwpt
unreachable-requires-in-Some-Hwpt g c =
    let known = c.requires.granted in
    never_other known.world c.args.state.now c.args.file c.args.id _ known.shows known.none
    (sym c.in-Some-Hwpt.ensures ∙ ap Some c.in-Some-Hwpt.field-0-is) refl

pub unreachable-requires-in-Some-Access : goal.unreachable-requires-in-Some-Access
unreachable-requires-in-Some-Access g c =
    let known = c.requires.granted in
    never_other known.world c.args.state.now c.args.file c.args.id _ known.shows known.none
    (sym c.in-Some-Access.ensures ∙ ap Some c.in-Some-Access.field-0-is) refl

pub unreachable-requires-in-None : goal.unreachable-requires-in-None
unreachable-requires-in-None g c =
    let known = c.requires.granted in
    never_other known.world c.args.state.now c.args.file c.args.id _ known.shows known.none (sym c.in-None.ensures) refl
