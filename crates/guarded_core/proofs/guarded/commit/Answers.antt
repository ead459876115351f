use Rattle.std.proofs.Common.{rules}
use Rattle.guarded_core.proofs.Guards.{committed}
use Rattle.guarded_core.proofs.Guards.{if_ok}
use Rattle.guarded_core.proofs.guarded.commit.Goals as goal

pub returns-clause-committed : goal.returns-clause-committed
returns-clause-committed g c =
    let write = c.write.ensures in
    if_ok c.commit.result _ _ c.commit.ensures.commits (λ stamp commits.
    committed _ _ _ _ _ _ c.requires.owned write.writing write.same_pass write.sees commits
    c.commit.ensures.blank _ (search rules))
