use Rattle.ioctl_codec.proofs.Canonical.{has_spelling, spellable_from}
use Rattle.ioctl_codec.proofs.laws.spellable_commands.Goals as goal

pub returns : goal.returns
returns g c =
    λ command fits. (has_spelling command fits, λ spelling. spellable_from command spelling.0 spelling.1 spelling.2)
