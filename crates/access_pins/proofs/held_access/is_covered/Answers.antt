use Rattle.std.proofs.Common.{◌∙◌}
use Rattle.access_pins.proofs.HeldPins.{covered_alike}
use Rattle.access_pins.proofs.held_access.is_covered.Goals as goal

pub returns : goal.returns
returns g c =
    c.covers.ensures
    ∙ covered_alike c.args.state.now c.requires.known c.args.file c.args.id c.args.address c.args.kind c.args.ioas
    c.requires.attached
