use Rattle.std.proofs.Common.{◌==◌, List, not, length, rules}
use Rattle.std.proofs.lemmas.Fn.{filter_same}
use Rattle.iofd_words.specs.declared.rows.Area.{Area}
use Rattle.area_map.proofs.removal.drop_empty.Goals as goal

pub returns-clause-rows : goal.returns-clause-rows
returns-clause-rows g c =
    filter_same _ (λ (row : List Area). not (length row == 0)) _ (λ x b f k. search rules) _ _ c.retain.ensures.filtered
