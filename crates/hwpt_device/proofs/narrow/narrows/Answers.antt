use Rattle.std.proofs.Common.{◌≡◌, Option, Some, ◌∷◌, sym, ap, ◌∙◌}
use Rattle.std.specs.Option.{option_copied}
use Rattle.hwpt_device.proofs.Narrowed.{either_first, either_then, known_narrows}
use Rattle.iofd_refusals.specs.Checks.{narrows}
use Rattle.iofd_words.specs.Files.{device_of}
use Rattle.iofd_words.specs.Settings.{DeviceSettings}
use Rattle.iofd_words.specs.Usable.{beyond, reserved_by}
use Rattle.server_state.specs.Seen.{seen}
use Rattle.hwpt_device.proofs.narrow.narrows.Goals as goal

pub returns-then-narrows_areas : goal.returns-then-narrows_areas
returns-then-narrows_areas g c =
    let settings : device_of c.args.state.now.config c.args.device ≡ Some c.in-Some.settings.now =
    sym c.device.ensures ∙ ap option_copied c.in-Some.is in
    either_first c.narrows_areas.result _ _ c.narrows_areas.ensures c.if-narrows_areas.true
    ∙ sym
    (ap (λ (o : Option DeviceSettings). narrows (seen c.args.state.now) c.args.file c.args.ioas o) settings
    ∙ known_narrows c.args.state.now c.args.file c.args.ioas (beyond c.in-Some.settings.now.width
    ∷ reserved_by c.in-Some.settings.now) c.requires)

pub returns-else-narrows_areas : goal.returns-else-narrows_areas
returns-else-narrows_areas g c =
    let settings : device_of c.args.state.now.config c.args.device ≡ Some c.in-Some.settings.now =
    sym c.device.ensures ∙ ap option_copied c.in-Some.is in
    either_then c.narrows_areas.result c.narrows_allowed.result _ _ c.narrows_areas.ensures c.if-narrows_areas.false
    c.narrows_allowed.ensures
    ∙ sym
    (ap (λ (o : Option DeviceSettings). narrows (seen c.args.state.now) c.args.file c.args.ioas o) settings
    ∙ known_narrows c.args.state.now c.args.file c.args.ioas (beyond c.in-Some.settings.now.width
    ∷ reserved_by c.in-Some.settings.now) c.requires)
