use Rattle.std.proofs.Common.{refl}
use Rattle.iofd_examples.proofs.limits.settings_have_limits.Goals as goal

pub returns : goal.returns
returns c = refl
