use Rattle.guarded_core.proofs.Entered.{one_entry_more}
use Rattle.guarded_core.proofs.kept_core.KeptCoreKept.apply.Goals as goal

pub returns-clause-record : goal.returns-clause-record
returns-clause-record g c =
    one_entry_more c.args.pass c.args.act.now.event c.args.self.now.core.history c.apply.new.self.history c.apply.result
    c.apply.ensures.record
