use Rattle.iommufd_script.specs.Grammar.{head_of}
use Rattle.iommufd_script.proofs.parsing.head_line.Goals as goal

pub returns-in-Begin : goal.returns-in-Begin
unfolding head_of
returns-in-Begin c = rw (c.in-Begin.is) c.end.ensures
