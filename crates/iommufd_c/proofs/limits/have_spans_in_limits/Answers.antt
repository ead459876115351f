use Rattle.std.proofs.Common.{◌∙◌, ◌&&◌, ◌+◌, sym}
use Rattle.iommufd_c.specs.declared.configuring.DeviceRow.{DeviceRow}
use Rattle.iommufd_c.proofs.InLimits.{fits, fits_more}
use Rattle.iommufd_c.proofs.limits.have_spans_in_limits.Goals as goal
use Rattle.iommufd_c.proofs.limits.have_spans_in_limits.Goals.{then-all, else-all}

pub loop-place-preserved : goal.loop-place-preserved
loop-place-preserved c =
    let now = c.loop-place in
    let none : DeviceRow = record { source = 0; width = 0; x86 = 0 } in
    let reserved = c.args.reserved.now in
    let more = fits_more reserved c.args.rows.now now.place none now.all c.loop-place-test.true now.invariant in
    elim c.if-all.branch [
      | then-all w ↦ w.all-is ∙ (w.is_device_in_limits-all.ensures
          ∙ ((λ i. sym w.if-all.true i && fits reserved (now.place + 1)) ∙ more))
      | else-all w ↦ w.all-is ∙ (w.if-all.false ∙ ((λ i. sym w.if-all.false i && fits reserved (now.place + 1)) ∙ more))
    ]
