use Rattle.std.proofs.Common.{rules, subst}
use Rattle.std.specs.Fn.{FnReturnsAt}
use Rattle.guarded_core.proofs.Guards.{committed_of, same_shown}
use Rattle.guarded_core.proofs.guarded.try_commit_later.Goals as goal

pub commit-requires-clause-may : goal.commit-requires-clause-may
commit-requires-clause-may g c = λ value shows.
    let same = same_shown c.in-Ok.guard.pass.now c.get.result.now value c.get.ensures.value shows in
    subst (λ v. g.K.Kept.may v c.make-told.result.1) same
    (c.requires.may c.get.result c.make-told.result.0 c.make-told.result.1 c.make-told.ensures)

pub returns-in-Ok-commit-clause-committed : goal.returns-in-Ok-commit-clause-committed
returns-in-Ok-commit-clause-committed g c =
    let write = c.in-Ok.ensures in
    let commits = c.in-Ok-commit.ensures.commits in
    let made = committed_of _ _ _ _ _ _ c.requires.owned write.writing write.same_pass write.sees commits
    c.in-Ok-commit.ensures.blank _ (search rules) (λ value. FnReturnsAt g.F.Fn c.args.make.now value (c.make-told.result.0, c.make-told.result.1))
    record {
      shown = c.get.result;
      shows = same_shown c.in-Ok.guard.pass.now c.get.result.now commits.value c.get.ensures.value commits.shown;
      says = record { met = c.make-told.ensures };
    } in (c.make-told.result.1, made.0, made.1)
