use Rattle.iommufd_script.proofs.Orders.{shape_script}
use Rattle.iommufd_script.proofs.Within.{script_shape}
use Rattle.iommufd_script.proofs.laws.good_scripts.Goals as goal

pub returns-clause-only : goal.returns-clause-only
returns-clause-only c = script_shape

pub returns-clause-each : goal.returns-clause-each
returns-clause-each c = shape_script
