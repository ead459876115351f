use Rattle.std.proofs.Common.{◌≡◌, ◌+◌, ◌∙◌, List, ap, get_or}
use Rattle.iofd_words.specs.Bounds.{Bounds}
use Rattle.iommufd_c.specs.Configured.{device_settings, reserved_for}
use Rattle.iommufd_c.specs.declared.configuring.DeviceRow.{DeviceRow}
use Rattle.iommufd_c.proofs.Rows.{device_more}
use Rattle.iommufd_c.proofs.configuring.devices_of.Goals as goal

pub loop-place-preserved : goal.loop-place-preserved
loop-place-preserved c =
    let now = c.loop-place in
    let none : DeviceRow = record { source = 0; width = 0; x86 = 0 } in
    let row = get_or c.args.rows.now now.place none in
    let device : c.device_of.result ≡ device_settings row (reserved_for c.args.reserved.now (now.place + 1)) =
    c.device_of.ensures ∙ ap (λ (spans : List Bounds). device_settings row spans) c.in_ok-spans.ensures in
    let more = device_more c.args.reserved.now c.args.rows.now now.devices.items now.place none c.loop-place-test.true
    now.invariant in
    rw (c.in_ok-push.ensures.items, device) more
