use Rattle.std.proofs.Common.{◌≡◌, Option, Some, [], ◌∷◌, sym, ap, ◌∙◌}
use Rattle.std.specs.Option.{option_copied}
use Rattle.hwpt_device.proofs.Narrowed.{either_first, either_then, known_by_width}
use Rattle.iofd_refusals.specs.Checks.{narrows_by_width, narrows_without}
use Rattle.iofd_words.specs.Files.{device_of}
use Rattle.iofd_words.specs.Settings.{DeviceSettings}
use Rattle.iofd_words.specs.Usable.{beyond}
use Rattle.iofd_words.specs.declared.width.Width.{Width}
use Rattle.server_state.specs.Seen.{seen}
use Rattle.hwpt_device.proofs.narrow.narrows_by_width.Goals as goal

pub returns-then-area_reaches_beyond : goal.returns-then-area_reaches_beyond
returns-then-area_reaches_beyond g c =
    let settings : device_of c.args.state.now.config c.args.device ≡ Some c.in-Some.settings.now =
    sym c.device.ensures ∙ ap option_copied c.in-Some.is in
    either_first c.area_reaches_beyond.result _ _ c.area_reaches_beyond.ensures c.if-area_reaches_beyond.true
    ∙ sym
    (ap (λ (o : Option DeviceSettings). narrows_by_width (seen c.args.state.now) c.args.file c.args.ioas o) settings
    ∙ ap (λ (width : Width). narrows_without (seen c.args.state.now) c.args.file c.args.ioas (beyond width ∷ []))
    (sym c.width-width.ensures)
    ∙ known_by_width c.args.state.now c.args.file c.args.ioas c.width-width.result c.requires)

pub returns-else-area_reaches_beyond : goal.returns-else-area_reaches_beyond
returns-else-area_reaches_beyond g c =
    let settings : device_of c.args.state.now.config c.args.device ≡ Some c.in-Some.settings.now =
    sym c.device.ensures ∙ ap option_copied c.in-Some.is in
    either_then c.area_reaches_beyond.result c.range_reaches_beyond.result _ _ c.area_reaches_beyond.ensures
    c.if-area_reaches_beyond.false c.range_reaches_beyond.ensures
    ∙ sym
    (ap (λ (o : Option DeviceSettings). narrows_by_width (seen c.args.state.now) c.args.file c.args.ioas o) settings
    ∙ ap (λ (width : Width). narrows_without (seen c.args.state.now) c.args.file c.args.ioas (beyond width ∷ []))
    (sym c.width-width.ensures)
    ∙ known_by_width c.args.state.now c.args.file c.args.ioas c.width-width.result c.requires)
