use Rattle.std.proofs.Common.{sym}
use Rattle.iofd_words.specs.Span.{meets}
use Rattle.iofd_words.specs.Usable.{beyond}
use Rattle.hwpt_device.proofs.Narrowed.{no_area}
use Rattle.server_state.proofs.Objects.{no_space}
use Rattle.hwpt_device.proofs.narrow.area_reaches_beyond.Goals as goal

pub returns-in-None : goal.returns-in-None
returns-in-None g c = sym (no_area (λ area. meets (beyond c.args.width) area.span) _
    (no_space c.args.table.now.rows c.args.file c.args.ioas c.in-None.ensures))
