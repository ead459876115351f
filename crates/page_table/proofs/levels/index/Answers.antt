use Rattle.std.proofs.Common.{ap, ◌∙◌, ◌%◌, ℕ}
use Rattle.std.proofs.lemmas.Nat.{and_mask}
use Rattle.page_table.proofs.levels.index.Goals as goal

pub returns-clause-value : goal.returns-clause-value
returns-clause-value c = and_mask c.number.result 9 ∙ ap (λ (n : ℕ). n % 512) c.number.ensures
