use Rattle.std.proofs.Common.{rules}
use Rattle.ioctl_codec.specs.Refusals.{field_checks}
use Rattle.ioctl_codec.proofs.checks.check_fields.Goals as goal

pub returns : goal.returns
unfolding field_checks
returns c = search rules
