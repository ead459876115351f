use Rattle.std.proofs.Common.{sym}
use Rattle.hwpt_device.proofs.Narrowed.{no_area}
use Rattle.hwpt_device.specs.Narrow.{is_narrowed}
use Rattle.server_state.proofs.Objects.{no_space}
use Rattle.hwpt_device.proofs.narrow.narrows_areas.Goals as goal

pub returns-in-None : goal.returns-in-None
returns-in-None g c = sym (no_area (λ area. is_narrowed c.args.settings.now area.span) _
    (no_space c.args.table.now.rows c.args.file c.args.ioas c.in-None.ensures))
