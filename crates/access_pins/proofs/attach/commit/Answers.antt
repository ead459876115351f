use Rattle.access_pins.proofs.Reattached.{shows_attached}
use Rattle.iofd_steps.specs.After.{changed}
use Rattle.iofd_steps.specs.Answers.{Answers}
use Rattle.access_pins.proofs.attach.commit.Goals as goal

pub returns : goal.returns
unfolding changed Answers
returns g c = λ at w tidy shows none. (
  tt,
  shows_attached at w c.args.state.now c.args.file c.args.id tidy shows c.args.ioas c.attach.new.table none
      c.facts.ensures c.attach.ensures,
)
