use Rattle.std.proofs.Common.{◌∙◌}
use Rattle.iommufd_c.proofs.handle.caller.Caller.keys_left.Goals as goal

-- answered, so that a wrong count is refused at once
pub returns : goal.returns
returns c = c.len.ensures ∙ c.args.self.now.keys.ok.0
