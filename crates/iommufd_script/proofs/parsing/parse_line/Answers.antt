use Rattle.std.proofs.Common.{sym, ◌∙◌}
use Rattle.iommufd_script.proofs.Ascii.{line_is_worded}
use Rattle.iommufd_script.proofs.parsing.parse_line.Goals as goal

pub returns-then-not-is_skipped : goal.returns-then-not-is_skipped
returns-then-not-is_skipped c =
    c.worded_line.ensures ∙ line_is_worded c.args.text.now (sym c.is_skipped.ensures ∙ c.if-not-is_skipped.true)
