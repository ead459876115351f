use Rattle.std.proofs.Common.{◌∙◌, ap, not, eqb, rules}
use borrow.Author.Tests.{tests}
use Rattle.std.specs.List.{filter}
use Rattle.std.proofs.lemmas.Fn.{filter_same}
use Rattle.iofd_words.specs.Allowed.{AllowedRanges}
use Rattle.iova_ranges.specs.AllowedRows.{AllowedRows}
use Rattle.iova_ranges.proofs.allowed_ranges.AllowedTable.remove_file.Goals as goal

pub returns-clause-rows : goal.returns-clause-rows
returns-clause-rows g c = filter_same _ (λ (row : AllowedRanges). not (eqb row.file.0 c.args.file.0)) _
    (λ x b f k. search (rules, tests)) _ _ c.retain.ensures.filtered
    ∙ ap (λ (all : AllowedRows). filter (λ (row : AllowedRanges). not (eqb row.file.0 c.args.file.0)) all.rows)
    c.self.view_is
