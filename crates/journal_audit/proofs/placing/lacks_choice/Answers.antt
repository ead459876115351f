use Rattle.iofd_words.specs.View.{view}
use Rattle.journal_audit.proofs.LeastStarts.{choice_lacks}
use Rattle.journal_audit.proofs.placing.lacks_choice.Goals as goal

pub returns : goal.returns
returns g c =
    choice_lacks (view c.args.world.now) c.args.file c.args.request _ _ c.in_ok-start.ensures c.is_none.ensures
