use Rattle.std.proofs.Common.{◌∙◌, sym}
use Rattle.iofd_words.specs.Files.{device_of}
use Rattle.iofd_words.specs.Span.{meets}
use Rattle.iofd_words.specs.Usable.{reserved_of}
use Rattle.server_state.proofs.Kept.{some_found}
use Rattle.server_state.proofs.usable.keeps.Goals as goal

pub returns : goal.returns
returns g c =
    let some = some_found (λ one. meets one c.args.span) (reserved_of (device_of c.args.config.now c.args.device))
    c.kept_by.result c.kept_by.ensures in
    c.is_some.ensures ∙ sym some
