use Rattle.std.proofs.Common.{◌∙◌, ◌&&◌}
use Rattle.iofd_words.specs.Settings.{is_between}
use Rattle.iommufd_c.proofs.InLimits.{settings_within}
use Rattle.iommufd_c.proofs.limits.are_settings_in_limits.Goals as goal

pub returns : goal.returns
returns c =
    let a = c.args in
    (λ i. ((((c.are_rows.ensures i && c.is_between.ensures i) && c.is_between-2.ensures i)
    && c.are_files_in_limits.ensures i) && c.are_devices_in_limits.ensures i)
    && (c.is_between-3.ensures ∙ (λ j. is_between 1 1024 (c.from.ensures j))) i)
    ∙ settings_within a.pool a.users.now a.files.now a.devices.now a.reserved.now a.passes _
