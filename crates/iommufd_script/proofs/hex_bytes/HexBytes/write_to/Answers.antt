use Rattle.std.proofs.Common.{length, drop, ap, ◌∙◌}
use Rattle.std.proofs.lemmas.List.{drop-replicate}
use Rattle.iommufd_script.proofs.hex_bytes.HexBytes.write_to.Goals as goal

pub returns-clause-zeros : goal.returns-clause-zeros
returns-clause-zeros c =
    λ clear. c.write_many.ensures.behind ∙ ap (drop (length c.args.self.now)) clear
    ∙ drop-replicate (length c.args.self.now) 64 0
