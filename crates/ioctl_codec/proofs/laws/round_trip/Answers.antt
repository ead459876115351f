use Rattle.ioctl_codec.proofs.Canonical.{canonical_spells, canonical_accepted}
use Rattle.ioctl_codec.proofs.laws.round_trip.Goals as goal

pub returns-clause-spelled : goal.returns-clause-spelled
returns-clause-spelled g c = canonical_spells

pub returns-clause-accepted : goal.returns-clause-accepted
returns-clause-accepted g c = canonical_accepted
