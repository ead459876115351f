use Rattle.std.proofs.Common.{rules}
use Rattle.guarded_core.proofs.Guards.{committed}
use Rattle.guarded_core.proofs.guarded.try_commit.Goals as goal

pub returns-in-Ok-commit-clause-committed : goal.returns-in-Ok-commit-clause-committed
returns-in-Ok-commit-clause-committed g c =
    let write = c.in-Ok.ensures in
    committed _ _ _ _ _ _ c.requires.owned write.writing write.same_pass write.sees c.in-Ok-commit.ensures.commits
    c.in-Ok-commit.ensures.blank _ (search rules)
