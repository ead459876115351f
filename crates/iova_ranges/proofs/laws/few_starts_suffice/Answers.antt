use Rattle.iova_ranges.proofs.StartsFound.{start_found}
use Rattle.iova_ranges.proofs.laws.few_starts_suffice.Goals as goal

pub returns : goal.returns
returns c = λ count start spans areas fit. start_found count spans areas start fit
