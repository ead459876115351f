use Rattle.std.proofs.Common.{◌≡◌, suc, Some, ap, sym, ◌∙◌, subst, arith}
use Rattle.iofd_words.specs.Files.{numbered}
use Rattle.iofd_steps.specs.Run.{world_of}
use Rattle.iofd_words.specs.Settings.{Settings}
use Rattle.iofd_promises.proofs.Facts.{usable_of, widths_of}
use Rattle.iofd_promises.proofs.Rows.{within}
use Rattle.iofd_promises.proofs.Spaces.{avoids}
use Rattle.iofd_promises.proofs.ranges.areas_avoid_what_devices_reserve.Goals as goal

pub returns : goal.returns
returns g c = λ settings records area device n reserves run has by number known.
    let w = world_of settings records in
    let usable = usable_of settings records run in
    let next : device.0 ≡ suc n = omega (arith, number) in
    let listed : numbered settings.devices device.0 ≡ Some reserves = ap (numbered settings.devices) next ∙ known in
    avoids w area device reserves usable.sound.own_ids usable.areas (within w.areas area has) by
    (subst (λ (s : Settings). numbered s.devices device.0 ≡ Some reserves)
    (sym (widths_of settings records run).opened) listed)
