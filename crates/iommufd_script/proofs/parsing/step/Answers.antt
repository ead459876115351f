use Rattle.iommufd_script.specs.Grammar.{step_at}
use Rattle.iommufd_script.proofs.parsing.step.Goals as goal

pub returns-in-FreeFrames : goal.returns-in-FreeFrames
unfolding step_at
returns-in-FreeFrames c = rw (c.in-FreeFrames.is) c.end.ensures
