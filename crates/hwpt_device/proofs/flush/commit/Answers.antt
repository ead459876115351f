use Rattle.std.proofs.Common.{sym}
use Rattle.iofd_steps.specs.After.{changed}
use Rattle.iofd_steps.specs.Answers.{Answers}
use Rattle.hwpt_device.proofs.Flushed.{shows_paid, shows_unattached}
use Rattle.hwpt_device.proofs.flush.commit.Goals as goal

pub returns-in-Some : goal.returns-in-Some
unfolding changed Answers
returns-in-Some g c = λ at w tidy shows none. (
  tt,
  shows_paid at w c.args.state.now c.args.device c.in-Some.file c.in-Some.ioas c.pay.new.table tidy shows
      (sym c.in-Some.ensures) c.pay.ensures,
)

pub returns-in_default : goal.returns-in_default
unfolding changed Answers
returns-in_default g c = λ at w tidy shows none. (
  tt,
  shows_unattached at w c.args.state.now c.args.device tidy shows (sym c.in_default.ensures),
)
