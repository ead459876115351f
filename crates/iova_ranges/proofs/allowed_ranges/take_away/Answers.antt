use Rattle.std.proofs.Common.{not, rules}
use borrow.Author.Tests.{tests}
use Rattle.std.proofs.lemmas.Fn.{filter_same}
use Rattle.iofd_words.specs.Allowed.{AllowedRanges, is_allowed_in}
use Rattle.iova_ranges.proofs.allowed_ranges.take_away.Goals as goal

pub returns-clause-rows : goal.returns-clause-rows
returns-clause-rows g c = filter_same _ (λ (row : AllowedRanges). not (is_allowed_in c.args.file c.args.ioas row)) _
    (λ x b f k. search (rules, tests)) _ _ c.retain.ensures.filtered
