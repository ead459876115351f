use Rattle.std.proofs.Common.{length, sym, ap, ◌∙◌}
use Rattle.iommufd_script.proofs.Pairs.{length_pairs}
use Rattle.iommufd_script.proofs.hex_bytes.HexBytes.len.Goals as goal

pub returns : goal.returns
returns c = sym (length_pairs c.self.inside.digits.now) ∙ ap length c.self.view_is
