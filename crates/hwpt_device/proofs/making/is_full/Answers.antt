use Rattle.std.proofs.Common.{◌∙◌}
use Rattle.hwpt_device.proofs.FullFile.{full_file}
use Rattle.hwpt_device.proofs.making.is_full.Goals as goal

pub returns : goal.returns
returns g c = c.is_full.ensures ∙ full_file c.args.table.now c.args.file
