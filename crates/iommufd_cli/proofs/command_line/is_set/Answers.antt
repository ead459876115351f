use Rattle.std.proofs.Common.{ap, codes, ◌∙◌}
use Rattle.clap.proofs.WalkLemmas.{first_value-rows}
use Rattle.clap.specs.Words.{found_of}
use Rattle.iommufd_cli.specs.CommandLine.{is_true}
use Rattle.iommufd_cli.proofs.command_line.is_set.Goals as goal

pub returns-in-Some : goal.returns-in-Some
returns-in-Some c =
    c.eq.ensures ∙ ap is_true (c.in-Some.ensures ∙ first_value-rows (found_of c.args.found.now) (codes "journal"))

pub returns-in-None : goal.returns-in-None
returns-in-None c =
    ap is_true (c.in-None.ensures ∙ first_value-rows (found_of c.args.found.now) (codes "journal"))
