use Rattle.std.proofs.Common.{sym, ◌∙◌}
use Rattle.access_pins.proofs.Reattached.{never_loose, shows_detached}
use Rattle.iofd_steps.specs.After.{changed}
use Rattle.iofd_steps.specs.Answers.{Answers}
use Rattle.access_pins.proofs.detach.commit.Goals as goal

pub unreachable-requires : goal.unreachable-requires
unreachable-requires g c =
    let known = c.requires.granted in
    never_loose c.requires.at known.world c.args.state.now c.args.file c.args.id known.tidy known.shows known.none
    (sym c.attached_to.ensures ∙ c.in_default.is)

pub returns : goal.returns
unfolding changed Answers
returns g c = λ at w tidy shows none. (
  tt,
  shows_detached at w c.args.state.now c.args.file c.args.id tidy shows c.in-Some.ioas c.detach.new.table
      none (sym c.attached_to.ensures ∙ c.in-Some.is) c.detach.ensures,
)
